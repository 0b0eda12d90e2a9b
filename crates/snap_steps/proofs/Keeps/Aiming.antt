-- Moving the to-do key keeps the rule.
use Rattle.std.proofs.Common.{◌≡◌, ◌<◌, ◌≤◌, ◌⊎◌, ◌∙◌, ⊎_elim, inl, inr, ℕ, zero, suc, refl, sym, ap, subst, arith, List, [], ◌∷◌, Some, None, get_or, nat_lt}
use Rattle.std.proofs.lemmas.Bool.{cond_both}
use Rattle.std.proofs.lemmas.Bool.Decides.{nat_tests}
use lib.ListN.{get_elem?}
use mathlib.Core.Option.{some}
use mathlib.Core.Option as maybe
use Rattle.atomic_table.specs.Table.{step, keeps, Allows}
use Rattle.snap_rule.proofs.Debts.Heights.{child_loaded, loaded_settled}
use Rattle.snap_rule.proofs.Debts.Kinds.{aim_owes, last_owes, up_owes}
use Rattle.snap_rule.proofs.Debts.Trees.{true_link}
use Rattle.snap_rule.proofs.Debts.Turns.{not_zero}
use Rattle.snap_rule.specs.Debt.{DebtOk, IsListed, no_debt}
use Rattle.snap_rule.specs.Debt.Changes.{DebtDoing}
use Rattle.snap_rule.specs.Debt.Kinds.{AimsAbove, AimsBeyond, MayAim, MayPassUp}
use Rattle.snap_rule.specs.Debt.Lists.{Aims, aimed, taken}
use Rattle.snap_rule.specs.Heights.{Loaded, LoadedOk}
use Rattle.snap_rule.specs.Rule.{IsLive, IsParent}
use Rattle.snap_rule.specs.Settled.{child_height, IsSettled}
use Rattle.snap_rule.specs.State.{State as Table, IsShared}
use Rattle.snap_rule.specs.Updates as updates
use Rattle.snap_rule.specs.declared.change.Doing.{Doing}
use Rattle.snap_rule.specs.declared.change.Doing.TheVariants.{Nothing}
use Rattle.snap_rule.specs.declared.debt.Debt.{Debt}
use Rattle.snap_rule.specs.declared.debt.Mark.{Mark}
use Rattle.snap_rule.specs.Views.{ReadingOk}
use Rattle.snap_stamp.specs.Layout.{word_at}
use Rattle.snap_stamp.specs.declared.layout.Field.{Field}
use Rattle.snap_stamp.specs.declared.layout.Field.TheVariants.{Key, Stamp, Height, Value}
use Rattle.snap_stamp.specs.declared.side.Side.{Side}
use Rattle.snap_stamp.specs.declared.side.Side.TheVariants as sides
use Rattle.snap_steps.specs.Counting.{times}
use Rattle.snap_steps.specs.Facts.{AreFacts, IsBorn, IsKnown, fact}
use Rattle.snap_steps.specs.Memory.{field, row}
use Rattle.snap_steps.specs.Owed.{ListsOnly}
use Rattle.snap_steps.specs.Rule.{Kept}
use Rattle.snap_steps.specs.Rule.Debts.{debts_of}
use Rattle.snap_steps.specs.Rule.Locks.{KnowsRows}
use Rattle.snap_steps.specs.Rule.Places.{IsPlace, PlaceKnown}
use Rattle.snap_steps.specs.Rule.Worn.{KnowsWorn}
use Rattle.snap_steps.specs.Stages.{in_write}
use Rattle.snap_steps.specs.States.{state_of, link_field}
use Rattle.snap_steps.specs.Steps.Changes.{AimsAt}
use Rattle.snap_steps.specs.Steps.Copies.{IsOlder}
use Rattle.snap_steps.specs.Steps.Debts.{aimed_at}
use Rattle.snap_steps.specs.Steps.Fields.{is_last}
use Rattle.snap_steps.specs.Steps.Settling.{HasHeight, IsBelowAim, IsHeldRow, IsLastOn, IsSeenSettled, MayAimAt, aimed_view, last_settled, passed_up, row_aimed, settled_last, up_passed}
use Rattle.snap_steps.specs.Steps.Told.{Sat}
use Rattle.snap_steps.specs.Steps.Unlinking.{HasKey, IsPair}
use Rattle.snap_steps.specs.declared.rule.About.{About}
use Rattle.snap_steps.specs.declared.view.View.{View}
use Rattle.snap_steps.proofs.Cells.{cell_is}
use Rattle.snap_steps.proofs.Classes.Entering.{born_live}
use Rattle.snap_steps.proofs.Classes.Seeing.{trying}
use Rattle.snap_steps.proofs.Classes.Turning.{Rule}
use Rattle.snap_steps.proofs.Keeps.Changes.{held_plain}
use Rattle.snap_steps.proofs.Keeps.Copies.{shared_is}
use Rattle.snap_steps.proofs.Keeps.Raising.{below_is}
use Rattle.snap_steps.proofs.Knowing.{known_is}
use Rattle.snap_steps.proofs.Owing.{aimed_is}
use Rattle.snap_steps.proofs.Parts.Counts.{in_write_le}
use Rattle.snap_steps.proofs.Parts.Debts.{debts_at}
use Rattle.snap_steps.proofs.Parts.Places.{last_beyond, standing_place}
use Rattle.snap_steps.proofs.Parts.Worn.{or_cases, last_found}
use Rattle.snap_steps.proofs.Prefixes.{begins_itself}
use Rattle.snap_steps.proofs.Reached.{in_append, in_of}
use Rattle.snap_steps.proofs.Tables.{all_are}

-- the debt once the to-do key is that of a row whose key is known, or of row 0
aimed_held : (s : Table) (n key : ℕ) (l : List Mark) → (n ≡ 0) ⊎ (s.key n ≡ key) → aimed s n l ≡ aimed_at n key l
aimed_held s zero key l h = refl
aimed_held s (suc n) key l (inl z) = absurd (omega (arith, z))
aimed_held s (suc n) key l (inr e) = aimed_is s (suc n) key l e

turns_none : (n key : ℕ) (l : List Mark) → (aimed_at n key l).turning ≡ None
turns_none zero key l = refl
turns_none (suc n) key l = refl

-- what a pass that is in no change knows under its locks
module _ {about : About} {words : List ℕ} {views : List View} (k : Kept about words views) (id : ℕ) (v : View) (at : get_elem? views id ≡ some v) (whole : v.doing ≡ Nothing) where
  abbrev st : Table
  st = state_of k.m k.g

  word_is : (n : ℕ) (f : Field) (y : ℕ) → IsKnown v.words.knows n f y → field f (row k.m.rows n) ≡ y
  word_is n f y = known_is k.m.rows v.holds v.words.knows n f y (k.known id v at)

  is_live : (n : ℕ) → 0 < times n v.trail.reached → IsBorn v n → IsLive st n
  is_live n l = born_live st k.m.rows k.m.epoch v n k.table refl refl refl (k.known id v at) (k.present id v at).0 (in_of k.g.linked v.trail.reached n (k.reached id v at) l)

  is_parent : (n : ℕ) (d : Side) → ((n ≡ 0) × (d ≡ sides.Right)) ⊎ ((0 < times n v.trail.reached) × IsBorn v n) → IsParent st n d
  is_parent n d h = ⊎_elim (λ z. inl z) (λ q. inr (is_live n q.0 q.1)) h

  link_is : (n : ℕ) (d : Side) (c : ℕ) → 0 < times n v.holds → IsParent st n d → IsKnown v.words.knows n (link_field d) c → k.g.links n d ≡ c
  link_is n d c held parent known = sym (true_link st n d k.table parent (held_plain k id v at whole n held d)) ∙ word_is n (link_field d) c known

  height_is : (n : ℕ) (d : Side) (h : ℕ) → 0 < times n v.holds → IsLive st n → HasHeight v n d h → child_height st n d ≡ h
  height_is n d h held live q = ⊎_elim
      (λ z. (child_loaded st n d 0 k.table (inr live) (held_plain k id v at whole n held d) (word_is n (link_field d) 0 z.0)).1 refl ∙ sym z.1)
      (λ z. below_is st v.holds v.heights n d h (k.heights id v at) z) q

  is_settled : (n : ℕ) → 0 < times n v.holds → IsLive st n → IsSeenSettled v n → IsSettled st n
  is_settled n held live q =
      let x : Loaded = record { left = k.g.links n sides.Left; right = k.g.links n sides.Right; value = st.value n; height = q.height; left_height = q.left; right_height = q.right } in
      let ok : LoadedOk st n x = record {
        left = refl;
        right = refl;
        value = refl;
        height = word_is n Height q.height q.is_height;
        left_height = height_is n sides.Left q.left held live q.has_left;
        right_height = height_is n sides.Right q.right held live q.has_right;
      } in
      loaded_settled st n x ok (
        q.balanced,
        ⊎_elim (λ y. inl (λ z. y.1 (sym (word_is n Value y.0 y.2) ∙ z))) (λ y. inr ((λ z. y.2 (sym (link_is n sides.Left y.0 held (inr live) y.4) ∙ z)), (λ z. y.3 (sym (link_is n sides.Right y.1 held (inr live) y.5) ∙ z)))) q.full,
      )

  aims_at : (n : ℕ) → AimsAt v n → Aims st v.debt n
  aims_at n q = (q.is_row, q.to_do ∙ ap Some (sym (word_is n Key q.key q.is_key)))

  -- the side on which a place's row is a parent
  place_parent : (key r x : ℕ) (d : Side) → (r ≡ 0) ⊎ ((0 < times r v.trail.reached) × IsBorn v r) → IsPlace st key r x d → IsParent st r d
  place_parent key r x d (inr q) p = inr (is_live r q.0 q.1)
  place_parent key r x d (inl z) p = ⊎_elim (λ f. inl f) (λ f. absurd (f.0 z)) p.faces

  own_row : (r : ℕ) → (r ≡ 0) ⊎ ((0 < times r v.trail.reached) × IsBorn v r) → (r ≡ 0) ⊎ (¬ IsShared st r)
  own_row r (inl z) = inl z
  own_row r (inr q) = inr (is_live r q.0 q.1).own

  -- the way ends there: its link is 0, or leads to a row of an earlier epoch
  ends_there : (r : ℕ) (d : Side) → 0 < times r v.holds → IsParent st r d → (IsKnown v.words.knows r (link_field d) 0) ⊎ ((child : ℕ) × IsKnown v.words.knows r (link_field d) child × IsOlder v child) → (k.g.links r d ≡ 0) ⊎ IsShared st (k.g.links r d)
  ends_there r d held parent (inl z) = inl (link_is r d 0 held parent z)
  ends_there r d held parent (inr q) =
      let shared = shared_is st v q.0 (k.lasting id v at) (λ e now. all_are k.m.epoch e v.words.present (k.present id v at).0 now) k.table.links.no_zero q.2 in
      inr (subst (IsShared st) (sym (link_is r d q.0 held parent q.1)) shared.0)

  last_one : (r : ℕ) → IsHeldRow v r → IsLastOn v r → AimsBeyond st v.debt r
  last_one r held last = ⊎_elim
      (λ q. let way = subst (ReadingOk st v.seen) q.0 (k.ways id v at) in go (standing_place st v.seen last.key r last.stamp last.side way.0) (inl q.1))
      (λ q. go (subst (PlaceKnown st) q.0 (k.places id v at)) q.1) last.at
    where
      go : IsPlace st last.key r last.stamp last.side → (IsKnown v.words.knows r (link_field last.side) 0) ⊎ ((child : ℕ) × IsKnown v.words.knows r (link_field last.side) child × IsOlder v child) → AimsBeyond st v.debt r
      go p ends = last_beyond st v.debt r last.key last.stamp last.side p (word_is r Stamp last.stamp last.still) (own_row r held.1) last.to_do
          (ends_there r last.side held.0 (place_parent last.key r last.stamp last.side held.1 p) ends)

  above : (r : ℕ) → IsBelowAim v r → AimsAbove st v.debt r
  above r q =
      let pair = q.pair in let live : IsParent st q.parent q.side = is_parent q.parent q.side pair.upper in
      let aims = aims_at q.parent q.aims in record {
        parent = q.parent;
        side = q.side;
        live = ⊎_elim (λ z. absurd (aims.0 z.0)) (λ l. l) live;
        child = link_is q.parent q.side r pair.held_parent live pair.child;
        is_row = not_zero st k.table r (is_live r pair.reached pair.born).stands;
        to_do = aims.1;
      }

  may_aim : (r : ℕ) → IsHeldRow v r → MayAimAt v r → MayAim st v.debt r
  may_aim r held (inl a) = inl (aims_at r a)
  may_aim r held (inr (inl last)) = inr (inl (last_one r held last))
  may_aim r held (inr (inr q)) = inr (inr (above r q))

  may_pass_up : (parent : ℕ) (p : Side) (r key : ℕ) → IsPair v parent p r → IsKnown v.words.knows r Key key → v.debt.to_do ≡ Some key → IsSeenSettled v r → MayPassUp st v.debt parent p r
  may_pass_up parent p r key pair known to_do settled =
      let live : IsParent st parent p = is_parent parent p pair.upper in let row_live : IsLive st r = is_live r pair.reached pair.born in record {
        parent_live = live;
        child = link_is parent p r pair.held_parent live pair.child;
        is_row = not_zero st k.table r row_live.stands;
        to_do = to_do ∙ ap Some (sym (word_is r Key key known));
        settled = is_settled r pair.held row_live settled;
      }

  key_is : (n key : ℕ) → HasKey v n key → (n ≡ 0) ⊎ (st.key n ≡ key)
  key_is n key (inl z) = inl z
  key_is n key (inr q) = inr (word_is n Key key q)

  aimed_owes : (r key : ℕ) → IsHeldRow v r → HasKey v r key → MayAimAt v r → DebtOk st (debts_of views) → DebtOk st (updates.changed (debts_of views) id (aimed_at r key v.debt.list))
  aimed_owes r key held has may ok =
      let debt_at : debts_of views id ≡ v.debt = debts_at views id v at in
      subst (λ (u : Debt). DebtOk st (updates.changed (debts_of views) id u)) (ap (λ (u : Debt). aimed st r u.list) debt_at ∙ aimed_held st r key v.debt.list (key_is r key has))
      (aim_owes st (debts_of views) id k.table ok r (subst (λ (u : Debt). MayAim st u r) (sym debt_at) (may_aim r held may)))

  up_passed_owes : (parent : ℕ) (p : Side) (r key parent_key : ℕ) → IsPair v parent p r → IsKnown v.words.knows r Key key → v.debt.to_do ≡ Some key → HasKey v parent parent_key → IsSeenSettled v r
      → DebtOk st (debts_of views) → DebtOk st (updates.changed (debts_of views) id (aimed_at parent parent_key (taken r v.debt.list)))
  up_passed_owes parent p r key parent_key pair known to_do has settled ok =
      let debt_at : debts_of views id ≡ v.debt = debts_at views id v at in
      subst (λ (u : Debt). DebtOk st (updates.changed (debts_of views) id u)) (ap (λ (u : Debt). aimed st parent (taken r u.list)) debt_at ∙ aimed_held st parent parent_key (taken r v.debt.list) (key_is parent parent_key has))
      (up_owes st (debts_of views) id k.table ok parent p r (subst (λ (u : Debt). MayPassUp st u parent p r) (sym debt_at) (may_pass_up parent p r key pair known to_do settled)))

  last_settled_owes : (r : ℕ) → 0 < times r v.holds → IsLive st r → IsSeenSettled v r → ListsOnly r v.debt.list → DebtOk st (debts_of views) → DebtOk st (updates.changed (debts_of views) id no_debt)
  last_settled_owes r held live settled only ok =
      last_owes st (debts_of views) id ok r (is_settled r held live settled) (λ n owes. only n (st.stamp n) (subst (λ (u : Debt). IsListed n (st.stamp n) u.list) (debts_at views id v at) owes))

  -- a pass that holds a row is in a write
  holder_writes : (n : ℕ) → 0 < times n v.holds → in_write v.stage ≡ 1
  holder_writes n held = omega (arith, held, k.locked.writing id v at n, in_write_le v.stage)

-- `pass_up`
pub passes_up : (about : About) (slots id : ℕ) (me : Sat) (i parent : ℕ) (p : Side) (r key parent_key : ℕ) → IsPair me.0 parent p r → IsKnown me.0.words.knows r Key key → me.0.debt.to_do ≡ Some key → HasKey me.0 parent parent_key → IsSeenSettled me.0 r → me.0.doing ≡ Nothing
    → Allows (Rule about) slots id me i (λ n. n) (up_passed parent parent_key r (step slots i 0 0 maybe.none) me)
passes_up about slots id me i parent p r key parent_key pair known to_do has settled whole s k wide at small =
    let v : View = me.0 in let st : Table = state_of k.m k.g in let w : View = passed_up v parent parent_key r in let seen = k.history.seen id v at in
    let writing : in_write v.stage ≡ 1 = holder_writes k id v at whole r pair.held in (
      w,
      keeps,
      tt,
      trying about s.words s.views k i id v w at (k.known id v at) (k.reached id v at) (k.ways id v at) (k.places id v at) (k.present id v at) (k.notes id v at) (k.worn id v at) (k.lasting id v at) (k.tries id v at)
          (k.heights id v at) (subst (λ (g : Doing). DebtDoing st g w.debt) (sym whole) (turns_none parent parent_key (taken r v.debt.list)), (λ z. absurd (omega (arith, z, writing))))
          (λ _ ok. up_passed_owes k id v at whole parent p r key parent_key pair known to_do has settled ok) (begins_itself v.seen) seen.0 seen.1,
      refl,
    )

-- `settle_last`
pub settles_last : (about : About) (slots id : ℕ) (me : Sat) (i r : ℕ) → 0 < times r me.0.holds → 0 < times r me.0.trail.reached → IsBorn me.0 r → IsSeenSettled me.0 r → ListsOnly r me.0.debt.list → me.0.doing ≡ Nothing
    → Allows (Rule about) slots id me i (λ n. n) (last_settled (step slots i 0 0 maybe.none) me)
settles_last about slots id me i r held reached born settled only whole s k wide at small =
    let v : View = me.0 in let st : Table = state_of k.m k.g in let w : View = settled_last v in let seen = k.history.seen id v at in
    let writing : in_write v.stage ≡ 1 = holder_writes k id v at whole r held in (
      w,
      keeps,
      tt,
      trying about s.words s.views k i id v w at (k.known id v at) (k.reached id v at) (k.ways id v at) (k.places id v at) (k.present id v at) (k.notes id v at) (k.worn id v at) (k.lasting id v at) (k.tries id v at)
          (k.heights id v at) (subst (λ (g : Doing). DebtDoing st g no_debt) (sym whole) refl, (λ z. absurd (omega (arith, z, writing))))
          (λ _ ok. last_settled_owes k id v at whole r held (is_live k id v at whole r reached born) settled only ok) (begins_itself v.seen) seen.0 seen.1,
      refl,
    )

-- `aim`
pub aims : (about : About) (slots id : ℕ) (me : Sat) (r key : ℕ) → r ≤ about.rows → IsHeldRow me.0 r → HasKey me.0 r key → MayAimAt me.0 r → me.0.doing ≡ Nothing
    → Allows (Rule about) slots id me (word_at r Stamp) (λ n. n) (row_aimed r key (step slots (word_at r Stamp) 0 0 maybe.none) me)
aims about slots id me r key low held has may whole s k wide at small =
    let v : View = me.0 in let st : Table = state_of k.m k.g in
    let found : ℕ = get_or s.words (word_at r Stamp) 0 in let is : found ≡ field Stamp (row k.m.rows r) = cell_is k.memory r Stamp low in
    let w : View = aimed_view v r key found in let seen = k.history.seen id v at in let known = k.known id v at in
    let writing : in_write v.stage ≡ 1 = holder_writes k id v at whole r held.0 in
    let worn : KnowsWorn st w = λ saw. ⊎_elim (k.worn id v at) (last_found about s.words s.views k r Stamp found (sym is)) (or_cases v.noted.worn (is_last Stamp found) saw) in
    let facts : KnowsRows k.m.rows w = cond_both (nat_lt 0 (times r v.holds)) (fact r Stamp found ∷ v.words.knows) v.words.knows (λ l. AreFacts k.m.rows v.holds l) (λ on. (sym is, grind (arith, nat_tests), known)) (λ not. known) in (
      w,
      keeps,
      tt,
      trying about s.words s.views k (word_at r Stamp) id v w at facts (in_append k.g.linked v.trail.reached [] (k.reached id v at) tt) (k.ways id v at) (k.places id v at) (k.present id v at) (k.notes id v at) worn (k.lasting id v at) (k.tries id v at)
          (k.heights id v at) (subst (λ (g : Doing). DebtDoing st g w.debt) (sym whole) (turns_none r key v.debt.list), (λ z. absurd (omega (arith, z, writing))))
          (λ _ ok. aimed_owes k id v at whole r key held has may ok) (begins_itself v.seen) seen.0 seen.1,
      refl,
    )
