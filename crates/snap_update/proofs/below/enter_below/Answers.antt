use Rattle.std.proofs.Common.{rules, ◌≡◌, ◌∙◌, ℕ, None, ap, subst, sym, []}
use Rattle.snap_prelude.specs.{Call, call_key, NoLink, On, Put, Remove}
use Rattle.snap_update.specs.{Answers.Writes, Attempts.Attempts}
use Rattle.snap_update.proofs.{Entering.confirms_here, Entering.writes_after, Filling.places, Going.goes_works}
use Rattle.snap_update.proofs.{Sharing.looked, Trying.attempts_after}
use Rattle.snap_update.proofs.below.enter_below.Goals as goal

pub returns-then-load_word-ne0 : goal.returns-then-load_word-ne0
returns-then-load_word-ne0 g c =
    let s = c.args.gap.now.at in
    ([], goes_works c.args.pass.now c.load_word.new.pass (call_key c.args.call.now) [] (looked c.args.pass.now c.is_place.new.pass c.load_word.new.pass s.row s.stamp c.load_word.result c.link.result c.if-not-is_place.ensures c.load_word.ensures.pass))

pub hang-requires-clause-place : goal.hang-requires-clause-place
hang-requires-clause-place g c =
    let s = c.args.gap.now.at in
    let way = c.requires.place.way ∙ ap (λ (x : Call). On (call_key x) (NoLink s.row s.stamp s.side)) c.in-Put.is in
    let none : c.load_word.result ≡ 0 = search rules in
    places c.args.pass.now c.is_place.new.pass c.load_word.new.pass c.in-Put.key s.row s.stamp c.load_word.result s.side c.link.result c.requires.at_work.held c.if-not-is_place.ensures c.load_word.ensures.pass c.link.ensures none way

pub confirm_absent_below-requires-clause-place : goal.confirm_absent_below-requires-clause-place
confirm_absent_below-requires-clause-place g c =
    let s = c.args.gap.now.at in
    let way = c.requires.place.way ∙ ap (λ (x : Call). On (call_key x) (NoLink s.row s.stamp s.side)) c.in-Remove.is in
    let none : c.load_word.result ≡ 0 = search rules in
    places c.args.pass.now c.is_place.new.pass c.load_word.new.pass c.in-Remove.key s.row s.stamp c.load_word.result s.side c.link.result c.requires.at_work.held c.if-not-is_place.ensures c.load_word.ensures.pass c.link.ensures none way

pub returns-in-Put : goal.returns-in-Put
returns-in-Put g c =
    let s = c.args.gap.now.at in let b = c.load_word.new.pass in
    let works = looked c.args.pass.now c.is_place.new.pass b s.row s.stamp c.load_word.result c.link.result c.if-not-is_place.ensures c.load_word.ensures.pass in
    subst (λ (x : Call). Attempts c.args.rows.now.rows c.args.pass.now c.hang.new.pass x c.hang.result) (sym c.in-Put.is)
    (attempts_after c.args.rows.now.rows c.args.pass.now b c.hang.new.pass [] (Put c.in-Put.key c.in-Put.value) c.hang.result (goes_works c.args.pass.now b c.in-Put.key [] works) c.hang.ensures)

pub returns-in-Remove : goal.returns-in-Remove
returns-in-Remove g c =
    let s = c.args.gap.now.at in let a = c.args.pass.now in let b = c.load_word.new.pass in let new = c.confirm_absent_below.new.pass in
    let key : ℕ = c.in-Remove.key in let remove : Call = Remove key in let e = c.confirm_absent_below.ensures in
    let works = looked a c.is_place.new.pass b s.row s.stamp c.load_word.result c.link.result c.if-not-is_place.ensures c.load_word.ensures.pass in
    subst (λ (x : Call). Writes a new x None) (sym c.in-Remove.is) (writes_after a b new key [] [] remove None (goes_works a b key [] works) (confirms_here b new remove None e.0 e.1 e.2))
