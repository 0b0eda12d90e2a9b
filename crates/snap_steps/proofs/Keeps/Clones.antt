-- Seats of clones and their loads keep the rule.
use Rattle.std.proofs.Common.{◌≡◌, ◌≤◌, ◌∙◌, ◌⊎◌, ℕ, List, [], ◌∷◌, ◌++◌, inl, inr, get_or, sym, refl, ap, subst, arith, ⊎_elim, length}
use mathlib.Core.Option.{none}
use Rattle.atomic_table.proofs.Lists.{set_again}
use Rattle.atomic_table.specs.Table.{Splits, step, keeps, Allows}
use Rattle.snap_model.specs.History.{Begins}
use Rattle.snap_rule.specs.State.{State as Table, Beside, In, Represents, IsShared}
use Rattle.snap_rule.specs.Tree.{Tree, Node, EachRow}
use Rattle.snap_rule.specs.Tree.Tree.{empty, node}
use Rattle.snap_stamp.specs.Layout.{word_at}
use Rattle.snap_stamp.specs.declared.layout.Field.{Field}
use Rattle.snap_stamp.specs.declared.layout.Field.TheVariants.{Key, Birth, Stamp, Lock, Height, Left, Right, Value}
use Rattle.snap_stamp.specs.declared.side.Side.{Side}
use Rattle.snap_stamp.specs.declared.side.Side.TheVariants as sides
use Rattle.snap_steps.specs.Clones.{image_of, IsSubtree, NodeHas, FitsLink, TellsWord}
use Rattle.snap_steps.specs.Counting.{total}
use Rattle.snap_steps.specs.Memory.{Memory, field, row}
use Rattle.snap_steps.specs.Roles.{is_live}
use Rattle.snap_steps.specs.Rule.{Kept}
use Rattle.snap_steps.specs.Rule.Bases.{KeepsCause}
use Rattle.snap_steps.specs.Rule.Worn.{KnowsWorn}
use Rattle.snap_steps.specs.Stages.{has_cut, in_write, is_quiet, owes_count}
use Rattle.snap_steps.specs.States.{link_field, state_of}
use Rattle.snap_steps.specs.declared.view.Role.TheVariants.{Passing}
use Rattle.snap_steps.specs.Steps.Clones.{seat_of, root_loaded, writes_counted, CopiesCloneWord, stamp_noted, stamp_loaded, TellsCause}
use Rattle.snap_steps.specs.Steps.Fields.{is_last}
use Rattle.snap_steps.specs.Steps.Header.{word_noted}
use Rattle.snap_steps.specs.Steps.Told.{Sat}
use Rattle.snap_steps.specs.declared.rule.About.{About}
use Rattle.snap_steps.specs.declared.view.Balance.{Balance}
use Rattle.snap_steps.specs.declared.view.Balance.TheVariants.{Settled, RowsOut, StampOut}
use Rattle.snap_steps.specs.declared.view.Stage.{Stage}
use Rattle.snap_steps.specs.declared.view.Stage.TheVariants.{Idle, Writing, Closing}
use Rattle.snap_steps.specs.declared.view.View.{View}
use Rattle.snap_steps.specs.declared.view.WordNote.TheVariants.{Done}
use Rattle.snap_steps.proofs.Cells.{cell_is, one_word}
use Rattle.snap_steps.proofs.Classes.Adding.{clone_more}
use Rattle.snap_steps.proofs.Classes.Seeing.{seeing}
use Rattle.snap_steps.proofs.Classes.Turning.{Rule, noting}
use Rattle.snap_steps.proofs.EachView.{none_total}
use Rattle.snap_steps.proofs.Memories.{done_is}
use Rattle.snap_steps.proofs.Parts.Worn.{last_found, or_cases}
use Rattle.snap_steps.proofs.Prefixes.{begins_itself}
use Rattle.snap_steps.proofs.Tables.{in_times}
use Rattle.snap_steps.proofs.Totals.{term_le}

-- `split_view` and `twin`
pub seats_kept : (about : About) (id : ℕ) (v : View) → is_live v.role ≡ 1 → Splits (Rule about) id v v (seat_of v)
seats_kept about id v live s k at = subst (λ (l : List View). Kept about s.words (l ++ seat_of v ∷ [])) (sym (set_again s.views id v at)) (clone_more about s.words s.views k id v at live)

-- what is read within a tree
within_reads : (s : Table) (l : ℕ → Side → ℕ) (t u : Tree) → IsSubtree u t → Represents s l t → Represents s l u
within_reads s l empty u e r = subst (Represents s l) (sym e) r
within_reads s l (node n a b) u (inl e) r = subst (Represents s l) (sym e) r
within_reads s l (node n a b) u (inr (inl w)) r = within_reads s l a u w r.3
within_reads s l (node n a b) u (inr (inr w)) r = within_reads s l b u w r.4

within_each : (P : ℕ → Type 0) (t u : Tree) → IsSubtree u t → EachRow P t → EachRow P u
within_each P empty u e r = subst (EachRow P) (sym e) r
within_each P (node n a b) u (inl e) r = subst (EachRow P) (sym e) r
within_each P (node n a b) u (inr (inl w)) r = within_each P a u w r.1
within_each P (node n a b) u (inr (inr w)) r = within_each P b u w r.2

-- the stamp of the row that is the cause of a clone's balance
found_cause : (s : Table) (balance : Balance) (r found : ℕ) → s.stamp r ≡ found → KeepsCause s balance → TellsCause balance r found
found_cause s Settled r found is h e = absurd (cc)
found_cause s RowsOut r found is h e = absurd (cc)
found_cause s (StampOut row) r found is h e = let same : row ≡ r = cc in omega (arith, h.last, ap s.stamp same, is)

-- the words of a node's row
module _ (m : Memory) (g : Beside) (rows : ℕ) (n : Node) (a b : Tree) where
  abbrev word : Field → ℕ
  word f = field f (row m.rows n.row)

  has : Represents (state_of m g) (state_of m g).link (node n a b) → (f : Field) → NodeHas n a b f (word f)
  has r Key = r.0.key
  has r Birth = tt
  has r Stamp = tt
  has r Lock = tt
  has r Height = r.0.height
  has r Left = r.1
  has r Right = r.2
  has r Value = r.0.value

  fits : ((d : Side) → (word (link_field d) ≡ 0) ⊎ In (word (link_field d)) g.linked) → ((y : ℕ) → In y g.linked → y ≤ rows) → (f : Field) → FitsLink rows f (word f)
  fits links low Key = tt
  fits links low Birth = tt
  fits links low Stamp = tt
  fits links low Lock = tt
  fits links low Height = tt
  fits links low Left = ⊎_elim (λ (z : word Left ≡ 0). omega (arith, z)) (low (word Left)) (links sides.Left)
  fits links low Right = ⊎_elim (λ (z : word Right ≡ 0). omega (arith, z)) (low (word Right)) (links sides.Right)
  fits links low Value = tt

-- who is in no write owes no count
none_owes : (st : Stage) → in_write st ≡ 0 → owes_count st ≡ 0
none_owes Idle z = refl
none_owes (Writing made counted) z = absurd (omega (arith, z))
none_owes (Closing gate quiet cut) z = refl

module _ (about : About) (slots id : ℕ) (me : Sat) where
  low_row : (words : List ℕ) (views : List View) (k : Kept about words views) (y : ℕ) → In y k.g.linked → y ≤ about.rows
  low_row words views k y is = let l = k.apart.low y (in_times y k.g.linked is) in let room = k.memory.room in omega (arith, l.1)

  -- `load_root`
  pub loads_root : me.0.role ≡ Passing → has_cut me.0.stage ≡ 1 → Allows (Rule about) slots id me (word_at 0 Right) (λ n. n) (root_loaded (step slots (word_at 0 Right) 0 0 none) me)
  loads_root passing cut s k wide at small =
      let v : View = me.0 in let found : ℕ = get_or s.words (word_at 0 Right) 0 in let is : found ≡ (row k.m.rows 0).right = cell_is k.memory 0 Right (omega arith) in
      let seen = k.history.seen id v at in let still = (k.based id v at).1 cut in let laid = (k.about_known id v at (ap is_live passing)).0 in
      let low : (row k.m.rows 0).right ≤ about.rows = ⊎_elim (λ (z : (row k.m.rows 0).right ≡ 0). omega (arith, z)) (low_row s.words s.views k (row k.m.rows 0).right) (k.table.links.links 0 sides.Right (inl refl)) in (
        v,
        keeps,
        tt,
        seeing about s.words s.views k (word_at 0 Right) id v v at (k.known id v at) (k.reached id v at) (k.ways id v at) (k.places id v at) (k.present id v at) (k.notes id v at) (k.worn id v at) (k.lasting id v at) (begins_itself v.seen) seen.0 seen.1,
        (refl, is ∙ still.1, omega (arith, is, laid, low)),
      )

  -- `count_writes`
  pub counts_writes : me.0.role ≡ Passing → has_cut me.0.stage ≡ 1 → Allows (Rule about) slots id me 3 (λ n. n) (writes_counted (step slots 3 0 0 none) me)
  counts_writes passing cut s k wide at small =
      let v : View = me.0 in let found : ℕ = get_or s.words 3 0 in let is : found ≡ k.m.done = done_is k.memory in
      let seen = k.history.seen id v at in let still = (k.based id v at).1 cut in
      let idle : total (λ u. in_write u.stage) s.views ≡ 0 = k.gated.quiet (omega (arith, still.0, term_le (λ u. is_quiet u.stage) s.views id v at)) in
      let none_owe : total (λ u. owes_count u.stage) s.views ≡ 0 = none_total (λ u. owes_count u.stage) s.views (λ j u there. none_owes u.stage (omega (arith, idle, term_le (λ y. in_write y.stage) s.views j u there))) in (
        word_noted v (Done found),
        keeps,
        tt,
        noting about s.words s.views k 3 id v (Done found) at tt,
        (refl, refl, omega (arith, is, k.counted.all, none_owe, ap length still.2), subst (Begins v.seen) still.2 seen.0),
      )

  -- a load of a word of the clone
  pub copies : (r : ℕ) (f : Field) → r ≤ about.rows → is_live me.0.role ≡ 1 → Allows (Rule about) slots id me (word_at r f) (λ n. n) (CopiesCloneWord (step slots (word_at r f) 0 0 none) me)
  copies r f near live s k wide at small =
      let v : View = me.0 in let found : ℕ = get_or s.words (word_at r f) 0 in let is : found ≡ field f (row k.m.rows r) = cell_is k.memory r f near in
      let seen = k.history.seen id v at in let image = (k.based id v at).0.image in let laid = (k.about_known id v at live).0 in let t : Tree = image_of v in
      let st : Table = state_of k.m k.g in
      let tells : TellsWord v.rows t r f found = λ n a b within same.
      let reads : Represents st st.link (node n a b) = within_reads st st.link t (node n a b) within image.reads in
      let each = within_each (λ (y : ℕ). In y k.g.linked × IsShared st y) t (node n a b) within image.rows in
      let there : field f (row k.m.rows n.row) ≡ found = ap (λ (y : ℕ). field f (row k.m.rows y)) same ∙ sym is in
      (subst (NodeHas n a b f) there (has k.m k.g v.rows n a b reads f), subst (FitsLink v.rows f) there (fits k.m k.g v.rows n a b (links k n.row each.0.0) (λ y q. let l = low_row s.words s.views k y q in omega (arith, l, laid)) f)) in (
        v,
        keeps,
        tt,
        seeing about s.words s.views k (word_at r f) id v v at (k.known id v at) (k.reached id v at) (k.ways id v at) (k.places id v at) (k.present id v at) (k.notes id v at) (k.worn id v at) (k.lasting id v at) (begins_itself v.seen) seen.0 seen.1,
        λ r' f' same. let x = one_word r r' f f' same in (refl, subst (λ (y : ℕ). TellsWord v.rows t y f' found) x.0 (subst (λ (h : Field). TellsWord v.rows t r h found) x.1 tells)),
      )
    where
      links : {words : List ℕ} {views : List View} (k : Kept about words views) (r : ℕ) → In r k.g.linked → (d : Side) → (field (link_field d) (row k.m.rows r) ≡ 0) ⊎ In (field (link_field d) (row k.m.rows r)) k.g.linked
      links k r linked d = k.table.links.links r d (inr linked)

  -- `load_stamp`
  pub loads_stamp : (r : ℕ) → r ≤ about.rows → Allows (Rule about) slots id me (word_at r Stamp) (λ n. n) (stamp_loaded (step slots (word_at r Stamp) 0 0 none) me)
  loads_stamp r near s k wide at small =
      let v : View = me.0 in let found : ℕ = get_or s.words (word_at r Stamp) 0 in let is : found ≡ field Stamp (row k.m.rows r) = cell_is k.memory r Stamp near in
      let w : View = stamp_noted v r found in let seen = k.history.seen id v at in
      let worn : KnowsWorn (state_of k.m k.g) w = λ saw. ⊎_elim (k.worn id v at) (last_found about s.words s.views k r Stamp found (sym is)) (or_cases v.noted.worn (is_last Stamp found) saw) in (
        w,
        keeps,
        tt,
        seeing about s.words s.views k (word_at r Stamp) id v w at (k.known id v at) (k.reached id v at) (k.ways id v at) (k.places id v at) (k.present id v at) (k.notes id v at) worn (k.lasting id v at) (begins_itself v.seen) seen.0 seen.1,
        λ r' same. let x = (one_word r r' Stamp Stamp same).0 in (ap (λ (y : ℕ). (stamp_noted v y found, me.1)) x, subst (λ (y : ℕ). TellsCause v.base.balance y found) x (found_cause (state_of k.m k.g) v.base.balance r found (sym is) (k.based id v at).0.cause)),
      )
