-- Confirming that a key is absent below the row at which its way ends keeps the rule.
use Rattle.snap_steps.proofs.Keeps.Writes.{absent_owed}
use Rattle.std.proofs.Common.{◌≡◌, ◌≢◌, ℕ, ◌⊎◌, inl, inr, false, get_or, set, sym, refl, ap, ◌∙◌, arith, None}
use Rattle.atomic_table.specs.Table.{step, keeps, Allows}
use Rattle.snap_model.specs.History.{told}
use Rattle.snap_model.specs.declared.call.Call.TheVariants.{Remove}
use Rattle.snap_model.specs.declared.call.Entry.{Entry}
use Rattle.snap_rule.proofs.Table.{absent_evolves, absent_keeps, absent_below}
use Rattle.snap_rule.specs.Reader.{PointOk}
use Rattle.snap_rule.specs.Rule.{IsLive}
use Rattle.snap_rule.specs.State.{State as Table, In, WasLinked}
use Rattle.snap_rule.specs.Tree.{find}
use Rattle.snap_rule.specs.declared.change.Doing.TheVariants.{Nothing}
use Rattle.snap_rule.specs.declared.reader.Point.TheVariants.{Standing}
use Rattle.snap_stamp.specs.Layout.{word_at}
use Rattle.snap_stamp.specs.declared.layout.Field.{Field}
use Rattle.snap_stamp.specs.declared.layout.Field.TheVariants.{Stamp}
use Rattle.snap_stamp.specs.declared.side.Side.{Side}
use Rattle.snap_steps.specs.Memory.{field, row}
use Rattle.snap_steps.specs.Facts.{IsBorn}
use Rattle.snap_steps.specs.Steps.Writes.{IsLeafPlace, entry_of, made_entry, ConfirmsAbsent}
use Rattle.snap_steps.specs.Stages.{in_write}
use Rattle.snap_steps.specs.Roles.{is_counted}
use Rattle.snap_steps.specs.Rule.Locks.{KnowsRows}
use Rattle.snap_steps.specs.States.{state_of}
use Rattle.snap_steps.specs.Steps.Told.{Sat}
use Rattle.snap_steps.specs.declared.view.View.{View}
use Rattle.snap_steps.specs.declared.view.Role.TheVariants.{Passing}
use Rattle.snap_steps.specs.declared.view.Stage.TheVariants.{Writing}
use Rattle.snap_steps.specs.declared.rule.About.{About}
use Rattle.snap_steps.proofs.Classes.Entering.{entering, born_live}
use Rattle.snap_steps.proofs.Classes.Turning.{Rule}
use Rattle.snap_steps.proofs.EachView.{each_stays}
use Rattle.snap_steps.proofs.Histories.{legal_more}
use Rattle.snap_steps.proofs.Keeps.Changes.{held_plain}
use Rattle.snap_steps.proofs.Keeps.Leaf.{below, standing_at}
use Rattle.snap_steps.proofs.Knowing.{known_is}
use Rattle.snap_steps.proofs.Memories.{loaded}
use Rattle.snap_steps.proofs.Parts.Apart.{apart_stays}
use Rattle.snap_steps.proofs.Parts.Locks.{locked_stays}
use Rattle.snap_steps.proofs.Tables.{Moves, Anywhere}
use mathlib.Core.Option as maybe
use Rattle.snap_rule.specs.Kinds.Entries as entry_kinds

-- the second load of a link of 0 at a place
pub confirms_below : (about : About) (slots id : ℕ) (me : Sat) (r key : ℕ) (f : Field) → me.0.role ≡ Passing → me.0.stage ≡ Writing false false → IsLeafPlace me.0 key r f → me.0.doing ≡ Nothing
    → Allows (Rule about) slots id me (word_at r f) (λ n. n) (ConfirmsAbsent key (step slots (word_at r f) 0 0 maybe.none) me)
confirms_below about slots id me r key f passing writing place whole s k wide at small =
    let v : View = me.0 in let known = k.known id v at in let st : Table = state_of k.m k.g in
    let d : Side = place.side in
    let e : Entry = entry_of v.who (Remove key) None in let w : View = made_entry v k.g.history e in
    let way : PointOk st v.seen key (Standing r place.stamp d) = standing_at st v.seen key r place.stamp d v.way.reads (k.ways id v at) place.way in
    let stamp : st.stamp r ≡ place.stamp = known_is k.m.rows v.holds v.words.knows r Stamp place.stamp known place.still in
    let live : r ≢ 0 → IsLive st r = λ nz. born_live st k.m.rows k.m.epoch v r k.table refl refl refl known (k.present id v at).0 (is_in st r nz way.stamp.reached) (is_born v r nz place.live) in
    let under = below st v.seen key r d way.faces (way.placed stamp) live in
    let none : st.link r d ≡ 0 = ap (λ (y : Field). field y (row k.m.rows r)) (sym place.by_side) ∙ known_is k.m.rows v.holds v.words.knows r f 0 known place.none in
    let absent : find k.g.tree key ≡ None = absent_below st key r d k.table way.faces under.stands (held_plain k id v at whole r place.held d) none in
    let none_there : told k.g.history key ≡ None = sym (k.table.tree.tells key) ∙ absent in
    let may : entry_kinds.MayConfirmAbsent st e = record { removal = refl; absent = absent } in
    let moves : Moves st (entry_kinds.absent_confirmed st e) Anywhere = (absent_evolves st e, absent_keeps st e k.table may, λ n _. record { stamp = refl; link = λ d. refl; links = λ d. refl; pending = λ d. refl; named = λ m x q. q; live = λ l. record { stands = l.stands; own = λ h. l.own (record { is_row = h.is_row; older = h.older }) } }) in
    let seen = k.history.seen id v at in let own = (k.history.mine id v at).0 (ap is_counted passing) in (
      w,
      keeps,
      tt,
      entering about s.words s.views k id v at (set s.words (word_at r f) (get_or s.words (word_at r f) 0)) k.m.rows e k.g v.trail.reached v.fresh.own v.fresh.wrote v.words.knows v.debt Anywhere (k.reached id v at) (loaded k.memory (word_at r f)) passing writing refl (sym none_there) moves (λ n d. refl) (λ j u there n c. tt)
          (locked_stays s.views id v w at k.m.rows k.locked refl refl (λ x. omega (arith, k.locked.writing id v at x, ap in_write writing)))
          (each_stays s.views id v w at (KnowsRows k.m.rows) k.known (λ p. p))
          (apart_stays s.views id v w at k.m.next k.m.next k.m.rows k.g.linked k.apart (omega arith) (λ p. p) (λ p. p)) (λ n. refl) (absent_owed k id v at e moves),
      (k.g.history, record { goes_on = seen.0; legal = legal_more k.g.history e k.history.legal (sym none_there); own = sym own.0 }, refl),
    )
  where
    is_in : (s : Table) (n : ℕ) → n ≢ 0 → WasLinked s n → In n s.linked
    is_in s n nz (inl z) = absurd (nz z)
    is_in s n nz (inr h) = h

    is_born : (v : View) (n : ℕ) → n ≢ 0 → (n ≡ 0) ⊎ IsBorn v n → IsBorn v n
    is_born v n nz (inl z) = absurd (nz z)
    is_born v n nz (inr h) = h
