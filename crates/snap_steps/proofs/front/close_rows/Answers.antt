use Rattle.std.proofs.Common.{◌≡◌, ℕ, ◌+◌, ◌-◌, ◌%◌, ◌^◌, List, sym, ap, ◌∙◌, subst}
use lib.ListN.{get_elem?}
use Rattle.snap_steps.specs.Ending.{SpeaksForAll, Closes}
use Rattle.snap_steps.specs.Seen.{Known}
use Rattle.snap_steps.specs.declared.view.Stage.TheVariants.{Idle}
use Rattle.snap_steps.specs.declared.view.View.{View}
use Rattle.snap_steps.proofs.Ends.{ends}
use Rattle.snap_steps.proofs.front.close_rows.Goals as goal

pub returns : goal.returns
returns c =
    let f = c.close_with-closed.ensures.values.2 in let s = f.0 in let seen = f.1 in
    let v : View = c.pass.inside.seat.me.0 in let last : Known = c.of-last.result.value in
    let is_last : last ≡ c.args.pass = c.of-last.ensures in
    let is : last.view ≡ v = ap (λ (k : Known). k.view) (is_last ∙ sym c.pass.view_is) in
    let idle : v.stage ≡ Idle = ap (λ (k : Known). k.view.stage) c.pass.view_is ∙ c.requires.idle in
    let all : SpeaksForAll v = subst (λ (k : Known). SpeaksForAll k.view) (sym c.pass.view_is) c.requires.all in
    let whole = ends c.rows.inside.table.shared.key s.words s.views seen.0 c.pass.inside.seat.id v seen.1 c.pass.invariant.pass.passing all last c.word-writes.result c.word-drawn.result c.pass.inside.added c.pass.inside.taken is idle
    (ap (λ (ws : List ℕ). get_elem? ws 0) f.2 ∙ c.word-drawn.ensures) (ap (λ (ws : List ℕ). get_elem? ws 3) f.2 ∙ c.word-writes.ensures) c.pass.invariant.pairs c.word-writes.type_inv in
    let same : (let p : Known = record { table = last.table; view = v } in p ≡ c.args.pass) = (λ i. record { table = last.table; view = sym is i }) ∙ is_last in
    subst (λ (k : Known). Closes k (record { writes = c.word-writes.result; pairs = (c.pass.inside.added + (2 ^ 64 - c.pass.inside.taken)) % 2 ^ 64; drawn = c.word-drawn.result; last = last })) same whole
