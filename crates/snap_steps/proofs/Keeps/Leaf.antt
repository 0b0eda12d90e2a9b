-- Linking a leaf keeps the rule.
use Rattle.snap_rule.specs.Debt.{DebtOk}
use Rattle.snap_rule.specs.Debt.Changes.{DebtDoing}
use Rattle.snap_rule.specs.declared.debt.Debt.{Debt}
use Rattle.snap_rule.specs.declared.change.Doing.{Doing}
use Rattle.snap_steps.specs.Rule.Debts.{debts_of}
use Rattle.snap_steps.specs.Steps.Debts.{OwesNothing}
use Rattle.snap_steps.specs.Roles.{is_live}
use Rattle.snap_steps.proofs.Owing.{owes_none, held_free, listing_is}
use Rattle.snap_steps.proofs.Knowing.{known_word}
use Rattle.snap_steps.proofs.Parts.Heights.{leaves_apart, heights_same}
use Rattle.snap_rule.proofs.Debts.Trees.{leaf_owes}
use Rattle.snap_steps.specs.Facts.{word_in}
use Rattle.snap_steps.proofs.Parts.Heights.{link_height}
use Rattle.snap_rule.specs.declared.debt.Mark.{Mark}
use Rattle.std.proofs.Common.{Some, ◌≢◌, ◌≡◌, ℕ, refl, ◌⊎◌, inl, inr, List, subst, false, suc, ◌^◌, ◌<◌, ◌≤◌, [], ◌∷◌, ◌++◌, length, set, sym, ap, ◌∙◌, arith, None}
use lib.ListN.{get_elem?}
use mathlib.Core.Logic.{dite}
use mathlib.Core.Option.{some, some-injective}
use native.Mathlib.Decide.{ℕ_discrete}
use Rattle.atomic_table.specs.Table.{step, keeps, Allows}
use Rattle.snap_model.specs.History.{told}
use Rattle.snap_model.specs.declared.call.Call.TheVariants.{Put}
use Rattle.snap_model.specs.declared.call.Entry.{Entry}
use Rattle.snap_rule.proofs.LeftAlone.{leaf_apart}
use Rattle.snap_rule.proofs.Evolving.Silent.{leaf_evolves}
use Rattle.snap_rule.proofs.Table.{leaf_keeps, absent_below}
use Rattle.snap_rule.specs.Doing.{Concerns}
use Rattle.snap_rule.specs.Position.{IsPlaced}
use Rattle.snap_rule.specs.Position.{Faces}
use Rattle.snap_rule.specs.Reader.{PointOk}
use Rattle.snap_rule.specs.Rule.{IsLive}
use Rattle.snap_rule.specs.State.{State as Table, In, WasLinked, Beside}
use Rattle.snap_rule.specs.State.Change.{plain}
use Rattle.snap_rule.specs.Tree.{OnWay}
use Rattle.snap_rule.specs.Views.{ReadingOk}
use Rattle.snap_rule.specs.declared.change.Doing.TheVariants.{Nothing}
use Rattle.snap_rule.specs.declared.reader.Point.TheVariants.{Standing, NoLink}
use Rattle.snap_rule.specs.declared.reader.Reading.{Reading}
use Rattle.snap_rule.specs.declared.reader.Reading.TheVariants.{On}
use Rattle.snap_stamp.specs.Layout.{word_at}
use Rattle.snap_stamp.specs.Sides.{Toward}
use Rattle.snap_stamp.specs.declared.layout.Field.{Field}
use Rattle.snap_stamp.specs.declared.layout.Field.TheVariants.{Lock, Left, Right, Key, Birth, Stamp, Height, Value}
use Rattle.snap_stamp.specs.declared.side.Side.{Side}
use Rattle.snap_steps.specs.States.{link_field, with_word, state_of}
use Rattle.snap_steps.specs.Numbers.{times_drawn}
use Rattle.snap_steps.specs.Counting.{times, removed}
use Rattle.snap_steps.specs.Memory.{Row, field, with_field, row}
use Rattle.snap_steps.specs.Rule.Changes.{changing}
use Rattle.snap_steps.specs.Facts.{IsBorn, forgotten_row, fact, forgotten}
use Rattle.snap_steps.specs.Steps.Writes.{IsLeaf, IsLeafPlace, hung, entry_of, leaf_hung}
use Rattle.snap_steps.specs.Stages.{in_write}
use Rattle.snap_steps.specs.Roles.{is_counted}
use Rattle.snap_steps.specs.Rule.Locks.{is_taken}
use Rattle.snap_steps.specs.declared.view.View.{View}
use Rattle.snap_steps.specs.declared.view.Role.TheVariants.{Passing}
use Rattle.snap_steps.specs.declared.view.Stage.TheVariants.{Writing}
use Rattle.snap_steps.specs.declared.rule.About.{About}
use Rattle.snap_steps.proofs.Totals.{term_le}
use Rattle.snap_steps.proofs.Histories.{legal_more}
use Rattle.snap_steps.proofs.Cells.{changed, cell_set, row_same, field_same, field_other}
use Rattle.snap_steps.proofs.States.{sets}
use Rattle.snap_steps.proofs.Reached.{all_linked_grows}
use Rattle.snap_steps.proofs.Tables.{Moves, none_changing, in_times, all_are}
use Rattle.snap_steps.proofs.EachView.{none_total, each_others}
use Rattle.snap_steps.proofs.Parts.Locks.{others_apart, locks_stay}
use Rattle.snap_steps.proofs.Knowing.{facts_elsewhere, facts_left, known_is}
use Rattle.snap_steps.proofs.Parts.Linked.{apart_linked}
use Rattle.snap_steps.proofs.Parts.Marks.{stamps_same, link_stamp}
use Rattle.snap_steps.proofs.Classes.Entering.{entering, some_write, born_live}
use Rattle.snap_steps.proofs.Classes.Turning.{Rule}
use Rattle.snap_steps.specs.Steps.Told.{Sat}
use Rattle.snap_stamp.specs.declared.side.Side.TheVariants as sides
use Rattle.snap_rule.specs.Updates as updates
use Rattle.snap_rule.specs.Rule as rule
use mathlib.Core.Option as maybe
use Rattle.snap_rule.specs.Kinds.Entries as entry_kinds
use Rattle.snap_rule.specs.TreeChanges as tree_changes
use Rattle.snap_steps.specs.Rule.History.{whole}

pub no_lock : (d : Side) → link_field d ≢ Lock
no_lock sides.Left = λ e. cc
no_lock sides.Right = λ e. cc

pub with_link : (s : Table) (p : ℕ) (d : Side) (x : ℕ) → with_word s p (link_field d) x ≡ record s { link = updates.relink s.link p d x }
with_link s p sides.Left x = refl
with_link s p sides.Right x = refl

no_links : (F : Field → ℕ) → F Left ≡ 0 → F Right ≡ 0 → (d : Side) → F (link_field d) ≡ 0
no_links F l r sides.Left = l
no_links F l r sides.Right = r

-- what the way says of its last row, where the row is live or row 0
pub record Below (s : Table) (key parent : ℕ) (d : Side) : Type 0 where
  pub parent_live : rule.IsParent s parent d
  pub place : (parent ≡ 0) ⊎ OnWay s.tree key parent × Toward d key (s.key parent)
  pub stands : (parent ≡ 0) ⊎ OnWay s.tree key parent

pub below : (s : Table) (seen : List Entry) (key parent : ℕ) (d : Side) → Faces s parent key d → IsPlaced s seen parent key → (parent ≢ 0 → IsLive s parent) → Below s key parent d
below s seen key parent d (inl f) p live = record { parent_live = inl f; place = inl f.0; stands = inl f.0 }
below s seen key parent d (inr f) (inl z) live = absurd (f.0 z)
below s seen key parent d (inr f) (inr (inl w)) live = record { parent_live = inr (live f.0); place = inr (w.1, f.1); stands = inr w.1 }
below s seen key parent d (inr f) (inr (inr o)) live = let l = live f.0 in absurd (l.own o.shared)

-- the search stands at the row, whether it has looked at the link or not
pub standing_at : (s : Table) (seen : List Entry) (key n v : ℕ) (d : Side) (r : Reading) → ReadingOk s seen r → (r ≡ On key (Standing n v d)) ⊎ (r ≡ On key (NoLink n v d)) → PointOk s seen key (Standing n v d)
standing_at s seen key n v d r h (inl e) = subst (ReadingOk s seen) e h
standing_at s seen key n v d r h (inr e) = let t : PointOk s seen key (NoLink n v d) = subst (ReadingOk s seen) e h in t.0

abbrev debt_with : ℕ → List Mark → Debt
debt_with a l = record { to_do = Some a; list = l; turning = None }

-- `link_leaf`
pub links_leaf : (about : About) (slots id : ℕ) (me : Sat) (r key value parent : ℕ) (f : Field) → parent ≤ about.rows → key < 2 ^ 64 → me.0.role ≡ Passing → me.0.stage ≡ Writing false false → IsLeaf me.0 r key value → IsLeafPlace me.0 key parent f → me.0.doing ≡ Nothing → OwesNothing me.0
    → Allows (Rule about) slots id me (word_at parent f) (λ _. r) (λ _. leaf_hung key value parent f (step slots (word_at parent f) r 0 maybe.none) me r)
links_leaf about slots id me r key value parent f low small_key passing writing leaf place whole owes s k wide at small =
    let v : View = me.0 in let rows_wide = k.memory.wide in let near : parent < length k.m.rows = omega arith in
    let d : Side = place.side in let st : Table = state_of k.m k.g in
    let x : Row = with_field f r (row k.m.rows parent) in let rows' : List Row = changed k.m.rows parent f r in
    let is_lock : f ≢ Lock = λ e. no_lock d (sym place.by_side ∙ e) in
    let known = k.known id v at in let wrote = k.apart.wrote id v at in
    let way : PointOk st v.seen key (Standing parent place.stamp d) = standing_at st v.seen key parent place.stamp d v.way.reads (k.ways id v at) place.way in
    let stamp : st.stamp parent ≡ place.stamp = known_is k.m.rows v.holds v.words.knows parent Stamp place.stamp known place.still in
    let linked_parent : parent ≢ 0 → In parent k.g.linked = λ nz. is_in (state_of k.m k.g) parent nz way.stamp.reached in
    let live : parent ≢ 0 → IsLive st parent = λ nz. born_live st k.m.rows k.m.epoch v parent k.table refl refl refl known (k.present id v at).0 (linked_parent nz) (is_born v parent nz place.live) in
    let under = below st v.seen key parent d way.faces (way.placed stamp) live in
    let none : st.link parent d ≡ 0 = ap (λ (y : Field). field y (row k.m.rows parent)) (sym place.by_side) ∙ known_is k.m.rows v.holds v.words.knows parent f 0 known place.none in
    let own = k.apart.own id v at r leaf.own in
    let pos : 0 < r = dite (ℕ_discrete r 0) (λ z. absurd (omega (arith, own.1, ap (λ (y : ℕ). times y v.drawn) z, k.drawn.none_zero, term_le (times_drawn 0) s.views id v at))) (λ nz. omega arith) in
    let drawn_once = term_le (times_drawn r) s.views id v at in
    let is_next : r ≤ k.m.next = dite (native.Mathlib.Decide.dec_le r k.m.next) (λ l. l) (λ n. absurd (omega (arith, own.1, drawn_once, k.drawn.none_later r (omega arith)))) in
    let fresh = k.apart.fresh r pos own.0 in
    let none_pending : (y : Side) → k.g.pending parent y ≡ plain = λ y. k.changes parent y (none_total (λ u. changing parent y u.doing) s.views
    (λ j u there. dite (ℕ_discrete j id)
    (λ same. let own_view : u ≡ v = some-injective u v (sym there ∙ ap (get_elem? s.views) same ∙ at) in ap (λ (z : View). changing parent y z.doing) own_view ∙ ap (changing parent y) whole)
    (λ ne. none_changing u.doing u.holds parent y (k.held j u there) (others_apart s.views id v at k.m.rows parent k.locked place.held j u ne there)))) in
    let unlocked : (j : ℕ) (u : View) → get_elem? s.views j ≡ some u → times r u.holds ≡ 0 = λ j u there. omega (arith, term_le (λ y. times r y.holds) s.views j u there, k.locked.count r, ap is_taken fresh.0) in
    let clear : (j : ℕ) (u : View) → get_elem? s.views j ≡ some u → (n : ℕ) → Concerns u.doing n → (n ≢ parent) × (n ≢ r) = λ j u there n c. dite (ℕ_discrete j id)
    (λ same. let own_view : u ≡ v = some-injective u v (sym there ∙ ap (get_elem? s.views) same ∙ at) in absurd (subst (λ z. Concerns z n) (ap (λ (z : View). z.doing) own_view ∙ whole) c))
    (λ ne. ((λ q. omega (arith, k.held j u there n c, others_apart s.views id v at k.m.rows parent k.locked place.held j u ne there, ap (λ (i : ℕ). times i u.holds) q)), (λ q. omega (arith, k.held j u there n c, unlocked j u there, ap (λ (i : ℕ). times i u.holds) q)))) in
    let word : (h : Field) (y : ℕ) → Rattle.snap_steps.specs.Facts.IsKnown v.fresh.wrote r h y → field h (row k.m.rows r) ≡ y = λ h y. known_is k.m.rows v.fresh.own v.fresh.wrote r h y wrote in
    let e : Entry = entry_of v.who (Put key value) None in let w : View = hung v k.g.history e parent f r in
    let may : entry_kinds.MayLinkLeaf st parent d r e = record {
      writing = some_write s.views id v k.g.writers at k.writers (ap in_write writing);
      parent_live = under.parent_live;
      no_child = none;
      no_change = none_pending d;
      is_put = λ q. cc q;
      place = under.place;
      small = small_key;
      is_row = pos;
      fresh = λ is. omega (arith, in_times r k.g.linked is, own.0);
      key = word Key key leaf.key;
      value = word Value (suc value) leaf.value;
      height = word Height 1 leaf.height;
      links = no_links (λ h. field h (row k.m.rows r)) (word Left 0 leaf.left) (word Right 0 leaf.right);
      birth = word Birth leaf.birth leaf.is_birth ∙ all_are k.m.epoch leaf.birth v.words.present (k.present id v at).0 leaf.now;
      stamp = fresh.1;
    } in
    let b : Beside = record k.g { links = updates.relink (updates.changed k.g.links r (st.link r)) parent d r; tree = tree_changes.grown parent d (tree_changes.leaf_of r e) k.g.tree; linked = r ∷ k.g.linked } in
    let g' : Beside = record b { history = k.g.history ++ e ∷ []; writers = k.g.writers } in
    let s' : Table = state_of (record k.m { rows = rows' }) g' in
    let path : s' ≡ entry_kinds.leaf_linked st parent d r e = sets k.m g' parent f r near ∙ ap (λ (y : Field). with_word (state_of k.m g') parent y r) place.by_side ∙ with_link (state_of k.m g') parent d r in
    let away : ℕ → Type 0 = λ (n : ℕ). (n ≢ parent) × (n ≢ r) in
    let moves : Moves st s' away = subst (λ (z : Table). Moves st z away) (sym path) (leaf_evolves st parent d r e may, leaf_keeps st k.table parent d r e may, λ n q. leaf_apart st n parent d r e q.0 q.1) in
    let absent : told k.g.history key ≡ None = sym (k.table.tree.tells key) ∙ absent_below st key parent d k.table way.faces under.stands (none_pending d) none in
    let is_times : 0 < parent → 0 < times parent k.g.linked = λ l. in_times parent k.g.linked (linked_parent (λ z. omega arith)) in
    let seen = k.history.seen id v at in let mine = (k.history.mine id v at).0 (ap is_counted passing) in (
      w,
      keeps,
      tt,
      entering about s.words s.views k id v at (set s.words (word_at parent f) r) rows' e b (r ∷ v.trail.reached) (removed r v.fresh.own) (forgotten_row v.fresh.wrote r) (fact parent f r ∷ forgotten v.words.knows parent f) w.debt away (in_times r (r ∷ k.g.linked) (inl refl), all_linked_grows k.g.linked (r ∷ k.g.linked) (λ n i. inr i) v.trail.reached (k.reached id v at)) (cell_set k.memory parent f low r) passing writing refl (sym absent) moves (λ n y. refl) clear
          (locks_stay s.views id v at k.m.rows parent x w k.locked (field_other Lock f r (row k.m.rows parent) (λ z. is_lock (sym z))) near refl refl (sym (ap in_write writing)))
          (each_others s.views id v at w (λ j u ne there. facts_elsewhere k.m.rows parent x u.holds u.holds u.words.knows (k.known j u there) (others_apart s.views id v at k.m.rows parent k.locked place.held j u ne there) (λ y. omega arith))
          (ap (field f) (row_same k.m.rows parent x near) ∙ field_same f r (row k.m.rows parent), place.held, facts_left k.m.rows parent f r v.holds v.words.knows near known))
          (apart_linked k id v w at parent r x is_times leaf.own refl refl refl)
          (stamps_same k.m.rows parent x near (ap (λ (y : Field). (with_field y r (row k.m.rows parent)).stamp) place.by_side ∙ link_stamp d r (row k.m.rows parent))) (
            (λ j u ne there n c. leaves_apart st s' n (moves.2 n ((λ q. omega (arith, c, others_apart s.views id v at k.m.rows parent k.locked place.held j u ne there, ap (λ (i : ℕ). times i u.holds) q)), (λ q. omega (arith, c, unlocked j u there, ap (λ (i : ℕ). times i u.holds) q))))
                (heights_same k.m.rows parent x near (ap (λ (y : Field). (with_field y r (row k.m.rows parent)).height) place.by_side ∙ link_height d r (row k.m.rows parent)))),
            subst (λ (g : Doing). DebtDoing s' g w.debt) (sym whole) refl,
            λ room ok. subst (λ (z : Table). DebtOk z (updates.changed (debts_of s.views) id w.debt)) (sym path)
                (subst (λ (u : Debt). DebtOk (entry_kinds.leaf_linked st parent d r e) (updates.changed (debts_of s.views) id u)) (ap (debt_with key) (listing_is st parent (word_in v.words.knows parent Stamp) [] (known_word k.m.rows v.holds v.words.knows parent Stamp place.stamp known place.still)))
                (leaf_owes st (debts_of s.views) id parent d r e k.table ok may (held_free k id v at parent place.held) (owes_none k id v at (ap is_live passing) owes room))),
          ),
      (k.g.history, record { goes_on = seen.0; legal = legal_more k.g.history e k.history.legal (sym absent); own = sym mine.0 }, refl),
    )
  where
    is_in : (s : Table) (n : ℕ) → n ≢ 0 → WasLinked s n → In n s.linked
    is_in s n nz (inl z) = absurd (nz z)
    is_in s n nz (inr h) = h

    is_born : (v : View) (n : ℕ) → n ≢ 0 → (n ≡ 0) ⊎ IsBorn v n → IsBorn v n
    is_born v n nz (inl z) = absurd (nz z)
    is_born v n nz (inr h) = h
