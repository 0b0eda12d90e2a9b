-- Loads of the header keep the rule.
use Rattle.snap_steps.specs.States.{state_of}
use Rattle.snap_steps.proofs.Parts.Debts.{owed_itself}
use Rattle.std.proofs.Common.{◌≡◌, ℕ, get_or, refl, ap, ◌∙◌, arith, ◌/◌, ◌<◌, ⊎_elim, [], ◌∷◌, ◌++◌, set, sym}
use mathlib.Core.Logic.{dite}
use mathlib.Core.Option.{none}
use native.Mathlib.Decide.{dec_le}
use Rattle.atomic_table.specs.Table.{step, keeps, Allows}
use Rattle.snap_steps.specs.Steps.Header.{word_noted, next_loaded, gate_loaded, left_seen, left_loaded, epoch_noted, epoch_loaded}
use Rattle.snap_steps.specs.Roles.{is_live}
use Rattle.snap_steps.specs.declared.view.WordNote.TheVariants.{Next, Gate, Left, Epoch}
use Rattle.snap_steps.specs.declared.view.Role.TheVariants.{Passing}
use Rattle.snap_steps.specs.declared.rule.About.{About}
use Rattle.snap_steps.proofs.Memories.{next_is, loaded, left_is, epoch_is}
use Rattle.snap_steps.proofs.Classes.Turning.{Rule, noting, turning}
use Rattle.snap_steps.specs.Steps.Told.{Sat}
use Rattle.snap_steps.specs.Counting.{total}
use Rattle.snap_steps.specs.Stages.{after_left, in_write, is_closing, is_quiet}
use Rattle.snap_steps.specs.Rule.Gate.{KnowsGate}
use Rattle.snap_steps.specs.declared.view.View.{View}
use Rattle.snap_steps.proofs.Totals.{term_le, total-set}
use Rattle.snap_steps.proofs.Notes.{header_more}
use Rattle.snap_steps.proofs.EachView.{each_stays}
use Rattle.snap_steps.proofs.Parts.Uses.{used_moves}
use Rattle.snap_steps.proofs.Parts.Gate.{gated_moves, after_left_counts, after_left_at, after_left_quiet}
use Rattle.snap_steps.proofs.Prefixes.{begins_itself}
use Rattle.snap_steps.proofs.Classes.Seeing.{seeing}
use Rattle.snap_steps.proofs.Parts.Epochs.{epoch_with}
use Rattle.snap_steps.proofs.Tables.{all_are}
use Rattle.snap_steps.proofs.Parts.Bases.{left_cut}

pub loads_next : (about : About) (slots id : ℕ) (me : Sat) → me.0.role ≡ Passing → Allows (Rule about) slots id me 0 (λ n. n) (next_loaded (step slots 0 0 0 none) me)
loads_next about slots id me passing s k wide at small = let is = next_is k.memory in let room = k.memory.room in let a = (k.about_known id me.0 at (ap is_live passing)).0 in (
  word_noted me.0 (Next (get_or s.words 0 0)),
  keeps,
  tt,
  noting about s.words s.views k 0 id me.0 (Next (get_or s.words 0 0)) at (omega arith),
  (refl, refl, omega arith, omega (arith, is, (k.notes id me.0 at).drawn_is)),
)

pub loads_gate : (about : About) (slots id : ℕ) (me : Sat) → Allows (Rule about) slots id me 1 (λ n. n) (gate_loaded (step slots 1 0 0 none) me)
loads_gate about slots id me s k wide at small = (word_noted me.0 (Gate (get_or s.words 1 0)), keeps, tt, noting about s.words s.views k 1 id me.0 (Gate (get_or s.words 1 0)) at tt, (refl, refl))

pub loads_left : (about : About) (slots id : ℕ) (me : Sat) → Allows (Rule about) slots id me 2 (λ n. n) (left_loaded (step slots 2 0 0 none) me)
loads_left about slots id me s k wide at small =
    let v : View = me.0 in let r : ℕ = get_or s.words 2 0 in let is : r ≡ k.m.left = left_is k.memory in let w : View = left_seen v r in
    let same = after_left_counts v.stage r in let g = k.gated in let half = g.half in
    let writing = total-set (λ u. in_write u.stage) s.views id v w at in
    let closing = term_le (λ u. is_closing u.stage) s.views id v at in
    let quiet = total-set (λ u. is_quiet u.stage) s.views id v w at in
    let one = g.one in
    let none_writes : 0 < total (λ u. is_quiet u.stage) (set s.views id w) → total (λ u. in_write u.stage) s.views ≡ 0 = λ some.
    dite (dec_le 1 (total (λ u. is_quiet u.stage) s.views)) (λ before. g.quiet (omega arith))
    (λ not_before. ⊎_elim (λ (z : 0 < is_quiet v.stage). absurd (not_before (omega (arith, term_le (λ u. is_quiet u.stage) s.views id v at))))
    (λ (z : (is_closing v.stage ≡ 1) × (r ≡ k.m.gate / 2)). omega (arith, z.0, z.1)) (after_left_quiet k.m.gate v.stage r (g.at id v at) (omega arith))) in (
      w,
      keeps,
      tt,
      turning about s.words s.views k id v at (set s.words 2 r) k.m (v.noted.notes ++ Left r ∷ []) v.noted.handed v.noted.epochs (after_left v.stage r) v.uses v.words.present v.fresh.copies v.debt v.way.reads v.way.place (loaded k.memory 2) refl refl (header_more k.m.next k.m.epoch v (Left r) (k.notes id v at) tt) (omega (arith, same.3)) (omega (arith, same.4)) refl (λ x. omega (arith, k.locked.writing id v at x, same.0)) ((k.present id v at).0, λ z. (k.present id v at).1 (omega (arith, same.0, z)))
          (gated_moves s.views id v w at k.m.gate k.m.left k.m.gate k.m.left g (omega (arith, same.0, same.1)) (omega (arith, same.1, one)) (λ some. omega (arith, none_writes some, same.0))
          (each_stays s.views id v w at (λ u. KnowsGate k.m.gate u.stage) g.at (λ p. after_left_at k.m.gate v.stage r p)))
          (used_moves s.views id v w at k.m.gate k.m.epoch k.m.gate k.m.epoch k.used refl refl refl (omega (arith, same.2)) (k.used.few id v at).0) (omega arith) (λ z. omega (arith, same.0)) (λ z. ap (λ st. after_left st r) (k.acting id v at z).0) (left_cut v.stage r)
          ((k.debts id v at).0, (λ z. (k.debts id v at).1 (omega (arith, same.0, z))), λ room ok. owed_itself s.views id v at (state_of k.m k.g) ok) (k.ways id v at, k.places id v at),
      (refl, refl),
    )

pub loads_epoch : (about : About) (slots id : ℕ) (me : Sat) → Allows (Rule about) slots id me 4 (λ n. n) (epoch_loaded (step slots 4 0 0 none) me)
loads_epoch about slots id me s k wide at small =
    let v : View = me.0 in let r : ℕ = get_or s.words 4 0 in let is : r ≡ k.m.epoch = epoch_is k.memory in let w : View = epoch_noted v r in let seen = k.history.seen id v at in (
      w,
      keeps,
      tt,
      seeing about s.words s.views k 4 id v w at (k.known id v at) (k.reached id v at) (k.ways id v at) (k.places id v at) (epoch_with v.stage k.m.epoch r v.words.present is (k.present id v at)) (header_more k.m.next k.m.epoch v (Epoch r) (k.notes id v at) (omega arith)) (k.worn id v at) (k.lasting id v at) (begins_itself v.seen) seen.0 seen.1,
      (refl, refl, λ e some. is ∙ sym (all_are k.m.epoch e v.words.present (k.present id v at).0 some)),
    )
