-- Loading the height of a held row's child keeps the rule.
use Rattle.std.proofs.Common.{◌≡◌, ◌≢◌, ◌<◌, ◌≤◌, ◌∙◌, [], ◌∷◌, inr, ℕ, refl, sym, arith, get_or, nat_lt, ⊎_elim}
use Rattle.std.proofs.lemmas.Bool.{cond_both}
use Rattle.std.proofs.lemmas.Bool.Decides.{nat_tests}
use mathlib.Core.Option as maybe
use Rattle.atomic_table.specs.Table.{step, keeps, Allows}
use Rattle.snap_rule.proofs.Debts.Heights.{child_loaded}
use Rattle.snap_rule.specs.Rule.{IsLive}
use Rattle.snap_rule.specs.State.{State as Table}
use Rattle.snap_rule.specs.declared.change.Doing.TheVariants.{Nothing}
use Rattle.snap_stamp.specs.Layout.{word_at}
use Rattle.snap_stamp.specs.declared.layout.Field.TheVariants.{Height}
use Rattle.snap_stamp.specs.declared.side.Side.{Side}
use Rattle.snap_steps.specs.Counting.{times}
use Rattle.snap_steps.specs.Facts.{AreFacts, IsBorn, IsKnown, fact}
use Rattle.snap_steps.specs.Memory.{field, row}
use Rattle.snap_steps.specs.Rule.Heights.{IsHeight}
use Rattle.snap_steps.specs.Rule.Locks.{KnowsRows}
use Rattle.snap_steps.specs.Rule.Worn.{KnowsWorn}
use Rattle.snap_steps.specs.States.{state_of, link_field}
use Rattle.snap_steps.specs.Steps.Fields.{is_last}
use Rattle.snap_steps.specs.Steps.Settling.{child_at, height_read, height_loaded}
use Rattle.snap_steps.specs.Steps.Told.{Sat}
use Rattle.snap_steps.specs.declared.rule.About.{About}
use Rattle.snap_steps.specs.declared.view.View.{View}
use Rattle.snap_steps.proofs.Cells.{cell_is}
use Rattle.snap_steps.proofs.Classes.Entering.{born_live}
use Rattle.snap_steps.proofs.Classes.Seeing.{trying}
use Rattle.snap_steps.proofs.Classes.Turning.{Rule}
use Rattle.snap_steps.proofs.Keeps.Changes.{held_plain}
use Rattle.snap_steps.proofs.Knowing.{known_is}
use Rattle.snap_steps.proofs.Parts.Debts.{owed_itself}
use Rattle.snap_steps.proofs.Parts.Worn.{or_cases, last_found}
use Rattle.snap_steps.proofs.Prefixes.{begins_itself}
use Rattle.snap_steps.proofs.Reached.{in_append, in_of}

-- `load_height`
pub loads_height : (about : About) (slots id : ℕ) (me : Sat) (r : ℕ) (d : Side) (child : ℕ) → child ≤ about.rows → child ≢ 0 → 0 < times r me.0.holds → (0 < times r me.0.trail.reached) × IsBorn me.0 r → IsKnown me.0.words.knows r (link_field d) child → me.0.doing ≡ Nothing
    → Allows (Rule about) slots id me (word_at child Height) (λ n. n) (height_loaded r d child (step slots (word_at child Height) 0 0 maybe.none) me)
loads_height about slots id me r d child low is_row held born link whole s k wide at small =
    let v : View = me.0 in let st : Table = state_of k.m k.g in
    let found : ℕ = get_or s.words (word_at child Height) 0 in let is : found ≡ field Height (row k.m.rows child) = cell_is k.memory child Height low in
    let w : View = height_read v r d child found in let seen = k.history.seen id v at in let known = k.known id v at in
    let live : IsLive st r = born_live st k.m.rows k.m.epoch v r k.table refl refl refl known (k.present id v at).0 (in_of k.g.linked v.trail.reached r (k.reached id v at) born.0) born.1 in
    let here : IsHeight st v.holds (child_at r d found) = record {
      held = held;
      live = live;
      height = (child_loaded st r d child k.table (inr live) (held_plain k id v at whole r held d) (known_is k.m.rows v.holds v.words.knows r (link_field d) child known link)).2 is_row ∙ sym is;
    } in
    let worn : KnowsWorn st w = λ saw. ⊎_elim (k.worn id v at) (last_found about s.words s.views k child Height found (sym is)) (or_cases v.noted.worn (is_last Height found) saw) in
    let facts : KnowsRows k.m.rows w = cond_both (nat_lt 0 (times child v.holds)) (fact child Height found ∷ v.words.knows) v.words.knows (λ l. AreFacts k.m.rows v.holds l) (λ on. (sym is, grind (arith, nat_tests), known)) (λ not. known) in (
      w,
      keeps,
      tt,
      trying about s.words s.views k (word_at child Height) id v w at facts (in_append k.g.linked v.trail.reached [] (k.reached id v at) tt) (k.ways id v at) (k.places id v at) (k.present id v at) (k.notes id v at) worn (k.lasting id v at) (k.tries id v at)
          (here, k.heights id v at) (k.debts id v at) (λ _ ok. owed_itself s.views id v at st ok) (begins_itself v.seen) seen.0 seen.1,
      refl,
    )
