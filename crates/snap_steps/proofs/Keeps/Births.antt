-- Loads of births keep the rule.
use Rattle.std.proofs.Common.{◌≡◌, inl, ⊎_elim, List, ℕ, ◌<◌, ◌≤◌, nat_lt, [], ◌∷◌, get_or, sym, refl, ap, ◌∙◌, arith}
use Rattle.std.proofs.lemmas.Bool.{cond_both}
use Rattle.std.proofs.lemmas.Bool.Decides.{nat_tests}
use Rattle.atomic_table.specs.Table.{step, keeps, Allows}
use Rattle.snap_rule.specs.State.{In}
use Rattle.snap_rule.specs.declared.reader.Point.{Point}
use Rattle.snap_rule.specs.declared.reader.Reading.{Reading}
use Rattle.snap_rule.specs.declared.reader.Reading.TheVariants.{On}
use Rattle.snap_stamp.specs.Layout.{word_at}
use Rattle.snap_stamp.specs.declared.layout.Field.TheVariants.{Birth}
use Rattle.snap_steps.specs.Counting.{times}
use Rattle.snap_steps.specs.Facts.{fact, AreFacts}
use Rattle.snap_steps.specs.Memory.{row}
use Rattle.snap_steps.specs.Rule.{Kept}
use Rattle.snap_steps.specs.Rule.Lasting.{AreLasting}
use Rattle.snap_steps.specs.Rule.Locks.{KnowsRows}
use Rattle.snap_steps.specs.Rule.Ways.{AllLinked}
use Rattle.snap_steps.specs.Rule.Worn.{KnowsWorn}
use Rattle.snap_steps.specs.States.{state_of}
use Rattle.snap_steps.specs.Steps.Births.{born, birth_noted, birth_loaded, way_birth_loaded, IsPast}
use Rattle.snap_steps.specs.Steps.Fields.{led_to, is_last}
use Rattle.snap_steps.specs.Steps.Told.{Sat}
use Rattle.snap_steps.specs.declared.rule.About.{About}
use Rattle.snap_steps.specs.declared.view.View.{View}
use Rattle.snap_steps.proofs.Cells.{cell_is, one_word}
use Rattle.snap_steps.proofs.Classes.Seeing.{seeing}
use Rattle.snap_steps.proofs.Classes.Turning.{Rule}
use Rattle.snap_steps.proofs.Notes.{header_more}
use Rattle.snap_steps.proofs.Parts.Worn.{or_cases, last_found}
use Rattle.snap_steps.proofs.Prefixes.{begins_itself}
use Rattle.snap_steps.proofs.Reached.{in_append, led_in, in_of}
use Rattle.snap_steps.proofs.Tables.{in_times, all_are}
use lib.ListN.{get_elem?}
use mathlib.Core.Option.{some}
use mathlib.Core.Option as maybe
use Rattle.snap_steps.specs.declared.view.WordNote.TheVariants as notes

-- what such a load finds
record Finds (about : About) (words : List ℕ) (views : List View) (k : Kept about words views) (v : View) (r b : ℕ) : Type 0 where
  pub facts : KnowsRows k.m.rows (born v r b)
  pub reached : AllLinked k.g.linked (born v r b).trail.reached
  pub worn : KnowsWorn (state_of k.m k.g) (born v r b)
  pub lasting : AreLasting (state_of k.m k.g) (born v r b).words.lasting
  pub past : IsPast v b

finds : (about : About) (words : List ℕ) (views : List View) (k : Kept about words views) (id : ℕ) (v : View) (r : ℕ) → get_elem? views id ≡ some v → r ≤ about.rows → 0 < times r v.trail.reached → Finds about words views k v r (get_or words (word_at r Birth) 0)
finds about words views k id v r at low came =
    let b : ℕ = get_or words (word_at r Birth) 0 in let is : b ≡ (row k.m.rows r).birth = cell_is k.memory r Birth low in let known = k.known id v at in
    let was : In r k.g.linked = in_of k.g.linked v.trail.reached r (k.reached id v at) came in record {
      facts = cond_both (nat_lt 0 (times r v.holds)) (fact r Birth b ∷ v.words.knows) v.words.knows (λ l. AreFacts k.m.rows v.holds l) (λ held. (sym is, grind (arith, nat_tests), known)) (λ not. known);
      reached = in_append k.g.linked v.trail.reached (led_to v r Birth b) (k.reached id v at) (led_in k.m k.g v r Birth b k.table (k.reached id v at) (sym is));
      worn = λ saw. ⊎_elim (k.worn id v at) (last_found about words views k r Birth b (sym is)) (or_cases v.noted.worn (is_last Birth b) saw);
      lasting = (record { linked = in_times r k.g.linked was; word = sym is; lasts = inl refl }, k.lasting id v at);
      past = λ e some_e. omega (arith, is, k.table.links.births r was, all_are k.m.epoch e v.words.present (k.present id v at).0 some_e);
    }

-- `load_birth`
pub loads_birth : (about : About) (slots id : ℕ) (me : Sat) (r : ℕ) → r ≤ about.rows → 0 < times r me.0.trail.reached → Allows (Rule about) slots id me (word_at r Birth) (λ n. n) (birth_loaded (step slots (word_at r Birth) 0 0 maybe.none) me)
loads_birth about slots id me r low came s k wide at small =
    let v : View = me.0 in let b : ℕ = get_or s.words (word_at r Birth) 0 in let seen = k.history.seen id v at in let f = finds about s.words s.views k id v r at low came in (
      born v r b,
      keeps,
      tt,
      seeing about s.words s.views k (word_at r Birth) id v (born v r b) at f.facts f.reached (k.ways id v at) (k.places id v at) (k.present id v at) (k.notes id v at) f.worn f.lasting (begins_itself v.seen) seen.0 seen.1,
      λ r' same. let t = one_word r r' Birth Birth same in (ap (λ (z : ℕ). (born v z b, me.1)) t.0, f.past),
    )

one_key : (k q : ℕ) (t u : Point) (r : Reading) → r ≡ On k t → r ≡ On q u → k ≡ q
one_key k q t u r a b = cc

-- `note_birth`
pub notes_birth : (about : About) (slots id : ℕ) (me : Sat) (r key : ℕ) (point : Point) → r ≤ about.rows → 0 < times r me.0.trail.reached → me.0.way.reads ≡ On key point → me.0.way.confirmed ≡ r ∷ []
    → Allows (Rule about) slots id me (word_at r Birth) (λ n. n) (way_birth_loaded (step slots (word_at r Birth) 0 0 maybe.none) me)
notes_birth about slots id me r key point low came way confirmed s k wide at small =
    let v : View = me.0 in let b : ℕ = get_or s.words (word_at r Birth) 0 in let seen = k.history.seen id v at in let f = finds about s.words s.views k id v r at low came in
    let w : View = birth_noted v key r b in (
      w,
      keeps,
      tt,
      seeing about s.words s.views k (word_at r Birth) id v w at f.facts f.reached (k.ways id v at) (k.places id v at) (k.present id v at) (header_more k.m.next k.m.epoch v (notes.Birth key b) (k.notes id v at) tt) f.worn f.lasting (begins_itself v.seen) seen.0 seen.1,
      λ r' key' point' same way'. let t = one_word r r' Birth Birth same in let q = one_key key key' point point' v.way.reads way way' in ((λ i. (birth_noted v (q i) (t.0 i) b, me.1)), f.past, confirmed ∙ ap (λ (z : ℕ). z ∷ []) t.0),
    )
