-- Linking a lazy copy keeps the rule, and so do loads of shared rows.
use Rattle.snap_rule.specs.Debt.{DebtOk}
use Rattle.snap_rule.proofs.Debts.Trees.{copy_owes}
use Rattle.snap_steps.specs.Rule.Debts.{debts_of}
use Rattle.snap_steps.specs.Rule.Heights.{AreHeights}
use Rattle.snap_steps.proofs.Parts.Debts.{owed_itself, debt_known}
use Rattle.snap_steps.proofs.Parts.Heights.{leaves_apart, heights_same, heights_kept, link_height, copy_leaves}
use Rattle.std.proofs.Common.{Option, Some, None, ◌≡◌, ◌≢◌, ◌⊎◌, inl, inr, ⊎_elim, ℕ, ◌<◌, ◌≤◌, nat_lt, List, ◌∷◌, length, set, get_or, sym, refl, ap, ◌∙◌, subst, arith}
use Rattle.std.proofs.lemmas.Bool.{cond_both}
use Rattle.std.proofs.lemmas.Bool.Decides.{nat_tests}
use lib.ListN.{get_elem?}
use mathlib.Core.Logic.{dite}
use mathlib.Core.Option.{some}
use native.Mathlib.Decide.{ℕ_discrete}
use Rattle.atomic_table.specs.Table.{step, keeps, Allows}
use Rattle.snap_rule.proofs.LeftAlone.{copy_apart}
use Rattle.snap_rule.proofs.Evolving.Telling.{copy_evolves}
use Rattle.snap_rule.proofs.Table.{copy_keeps}
use Rattle.snap_rule.specs.Doing.{Concerns, DoingOk}
use Rattle.snap_rule.specs.Kinds.Clones.{MayLinkCopy}
use Rattle.snap_rule.specs.Rule.{IsLive, IsParent}
use Rattle.snap_rule.specs.State.{State as Table, In, IsShared, Beside}
use Rattle.snap_rule.specs.declared.change.Doing.TheVariants.{Nothing}
use Rattle.snap_stamp.specs.Layout.{word_at}
use Rattle.snap_stamp.specs.declared.layout.Field.{Field}
use Rattle.snap_stamp.specs.declared.layout.Field.TheVariants.{Lock, Left, Right, Key, Birth, Height, Value}
use Rattle.snap_stamp.specs.declared.side.Side.{Side}
use Rattle.snap_steps.specs.Numbers.{times_drawn}
use Rattle.snap_steps.specs.Counting.{times}
use Rattle.snap_steps.specs.Facts.{IsBorn, IsKnown, AreFacts, fact}
use Rattle.snap_steps.specs.Memory.{Row, field, with_field, row}
use Rattle.snap_steps.specs.Rule.Changes.{changing}
use Rattle.snap_steps.specs.Rule.Lasting.{IsLasting, AreLasting}
use Rattle.snap_steps.specs.Rule.Locks.{KnowsRows, is_taken}
use Rattle.snap_steps.specs.Rule.Worn.{KnowsWorn}
use Rattle.snap_steps.specs.Stages.{in_write}
use Rattle.snap_steps.specs.States.{link_field, state_of}
use Rattle.snap_steps.specs.Steps.Births.{learnt, lasting_loaded}
use Rattle.snap_steps.specs.Steps.Copies.{IsOlder, HasWord, IsCopy, copied, LinksCopy}
use Rattle.snap_steps.specs.Steps.Tilts.{IsCopyPlace, IsHeldLink, IsWriting}
use Rattle.snap_steps.specs.Steps.Fields.{led_to, is_last}
use Rattle.snap_steps.specs.Steps.Told.{Sat}
use Rattle.snap_steps.specs.declared.rule.About.{About}
use Rattle.snap_steps.specs.declared.view.View.{View}
use Rattle.snap_steps.proofs.Cells.{cell_is, cell_set, changed, one_word, row_same, field_same, field_other}
use Rattle.snap_steps.proofs.Classes.Entering.{some_write, born_live}
use Rattle.snap_steps.proofs.Classes.Rewriting.{rewriting}
use Rattle.snap_steps.proofs.Classes.Seeing.{seeing}
use Rattle.snap_steps.proofs.Classes.Turning.{Rule}
use Rattle.snap_steps.proofs.EachView.{each_others}
use Rattle.snap_steps.proofs.Keeps.Changes.{held_plain}
use Rattle.snap_steps.proofs.Keeps.Leaf.{no_lock, with_link}
use Rattle.snap_steps.proofs.Knowing.{facts_elsewhere, facts_left, known_is}
use Rattle.snap_steps.proofs.Parts.Lasting.{word_is, lasting_is}
use Rattle.snap_steps.proofs.Parts.Linked.{apart_linked}
use Rattle.snap_steps.proofs.Parts.Marks.{marks_stay, stamps_same, link_stamp}
use Rattle.snap_steps.proofs.Parts.Locks.{others_apart, locks_stay}
use Rattle.snap_steps.proofs.Parts.Worn.{or_cases, last_found}
use Rattle.snap_steps.proofs.Prefixes.{begins_itself}
use Rattle.snap_steps.proofs.Reached.{in_append, led_in, in_of, all_linked_grows}
use Rattle.snap_steps.proofs.States.{sets}
use Rattle.snap_steps.proofs.Tables.{Moves, in_times, times_in, all_are}
use Rattle.snap_steps.proofs.Totals.{total-set, term_le}
use Rattle.snap_rule.specs.TreeChanges as tree_changes
use Rattle.snap_rule.specs.Kinds.Clones as clone_kinds
use Rattle.snap_rule.specs.Updates as updates
use Rattle.snap_stamp.specs.declared.side.Side.TheVariants as sides
use mathlib.Core.Option as maybe

-- a row that a pass knows to be of an earlier epoch is shared
pub shared_is : (s : Table) (v : View) (r : ℕ) → AreLasting s v.words.lasting → ((e : ℕ) → 0 < times e v.words.present → e ≡ s.epoch) → ¬ In 0 s.linked → IsOlder v r → IsShared s r × In r s.linked
shared_is s v r lasting present no_zero h =
    let birth : IsLasting s (fact r Birth h.birth) = lasting_is s v.words.lasting r Birth h.birth lasting h.is_birth in
    let was : In r s.linked = times_in r s.linked birth.linked in
    (record { is_row = dite (ℕ_discrete r 0) (λ z. absurd (no_zero (subst (λ (x : ℕ). In x s.linked) z was))) (λ nz. omega arith); older = omega (arith, birth.word, h.older, present h.epoch h.now) }, was)

-- `load_shared`
pub loads_shared : (about : About) (slots id : ℕ) (me : Sat) (r : ℕ) (f : Field) → r ≤ about.rows → f ≢ Lock → IsOlder me.0 r → Allows (Rule about) slots id me (word_at r f) (λ n. n) (lasting_loaded (step slots (word_at r f) 0 0 maybe.none) me)
loads_shared about slots id me r f low no_lock older s k wide at small =
    let v : View = me.0 in let x : ℕ = get_or s.words (word_at r f) 0 in let is : x ≡ field f (row k.m.rows r) = cell_is k.memory r f low in let known = k.known id v at in
    let seen = k.history.seen id v at in let st : Table = state_of k.m k.g in
    let shared = shared_is st v r (k.lasting id v at) (λ e now. all_are k.m.epoch e v.words.present (k.present id v at).0 now) k.table.links.no_zero older in
    let facts : KnowsRows k.m.rows (learnt v r f x) = cond_both (nat_lt 0 (times r v.holds)) (fact r f x ∷ v.words.knows) v.words.knows (λ l. AreFacts k.m.rows v.holds l) (λ held. (sym is, grind (arith, nat_tests), known)) (λ not. known) in
    let worn : KnowsWorn st (learnt v r f x) = λ saw. ⊎_elim (k.worn id v at) (last_found about s.words s.views k r f x (sym is)) (or_cases v.noted.worn (is_last f x) saw) in
    let new : IsLasting st (fact r f x) = record { linked = in_times r k.g.linked shared.1; word = word_is k.m k.g r f ∙ sym is; lasts = inr (shared.0, no_lock) } in (
      learnt v r f x,
      keeps,
      tt,
      seeing about s.words s.views k (word_at r f) id v (learnt v r f x) at facts
          (in_append k.g.linked v.trail.reached (led_to v r f x) (k.reached id v at) (led_in k.m k.g v r f x k.table (k.reached id v at) (sym is))) (k.ways id v at) (k.places id v at) (k.present id v at)
          (k.notes id v at) worn (new, k.lasting id v at) (begins_itself v.seen) seen.0 seen.1,
      λ r' f' same. let t = one_word r r' f f' same in (λ i. (learnt v (t.0 i) (t.1 i) x, me.1)),
    )

-- what both places of a copy have
pub held_link : (v : View) (key : Option ℕ) (parent : ℕ) (d : Side) (child : ℕ) → IsCopyPlace v key parent d child → IsHeldLink v parent d child
held_link v (Some key) parent d child h = record { held = h.1.held; child_is = h.1.child_is; live = h.1.live }
held_link v None parent d child h = record { held = h.held; child_is = h.child_is; live = inr h.live }

-- `link_copy`
pub links_copy : (about : About) (slots id : ℕ) (me : Sat) (key : Option ℕ) (parent : ℕ) (d : Side) (child copy : ℕ) → parent ≤ about.rows → IsWriting me.0 → IsCopyPlace me.0 key parent d child → IsOlder me.0 child → IsCopy me.0 copy child → me.0.doing ≡ Nothing
    → Allows (Rule about) slots id me (word_at parent (link_field d)) (λ _. copy) (λ _. LinksCopy key (step slots (word_at parent (link_field d)) copy 0 maybe.none) me copy)
links_copy about slots id me key parent d child copy low writing place older filled whole s k wide at small =
    let v : View = me.0 in let above = held_link v key parent d child place in let rows_wide = k.memory.wide in let near : parent < length k.m.rows = omega arith in let f : Field = link_field d in
    let st : Table = state_of k.m k.g in let x : Row = with_field f copy (row k.m.rows parent) in let rows' : List Row = changed k.m.rows parent f copy in
    let w : View = copied v key parent f copy in
    let is_lock : f ≢ Lock = no_lock d in
    let known = k.known id v at in let wrote = k.apart.wrote id v at in let lasting = k.lasting id v at in
    let present : (e : ℕ) → 0 < times e v.words.present → e ≡ k.m.epoch = λ e now. all_are k.m.epoch e v.words.present (k.present id v at).0 now in
    let shared = shared_is st v child lasting present k.table.links.no_zero older in
    let child_link : st.link parent d ≡ child = known_is k.m.rows v.holds v.words.knows parent f child known above.child_is in
    let linked_parent : parent ≢ 0 → In parent k.g.linked = λ nz. in_of k.g.linked v.trail.reached parent (k.reached id v at) (is_live v parent nz above.live).0 in
    let live : parent ≢ 0 → IsLive st parent = λ nz. born_live st k.m.rows k.m.epoch v parent k.table refl refl refl known (k.present id v at).0 (linked_parent nz) (is_live v parent nz above.live).1 in
    let own = k.apart.own id v at copy filled.own in
    let pos : 0 < copy = dite (ℕ_discrete copy 0) (λ z. absurd (omega (arith, own.1, ap (λ (y : ℕ). times y v.drawn) z, k.drawn.none_zero, term_le (times_drawn 0) s.views id v at))) (λ nz. omega arith) in
    let fresh = k.apart.fresh copy pos own.0 in
    let unlocked : (j : ℕ) (u : View) → get_elem? s.views j ≡ some u → times copy u.holds ≡ 0 = λ j u there. omega (arith, term_le (λ y. times copy y.holds) s.views j u there, k.locked.count copy, ap is_taken fresh.0) in
    let ours : (h : Field) (y : ℕ) → IsKnown v.fresh.wrote copy h y → field h (row k.m.rows copy) ≡ y = λ h y. known_is k.m.rows v.fresh.own v.fresh.wrote copy h y wrote in
    let same : (h : Field) → HasWord v copy child h → field h (row k.m.rows copy) ≡ field h (row k.m.rows child) = λ h q. ours h q.word q.ours ∙ sym (lasting_is st v.words.lasting child h q.word lasting q.theirs).word ∙ word_is k.m k.g child h in
    let may : MayLinkCopy st parent d child copy = record {
      writing = some_write s.views id v k.g.writers at k.writers (ap in_write writing.2);
      parent_live = parent_is st above.live live;
      shared = shared.0;
      child = child_link;
      no_change = held_plain k id v at whole parent above.held d;
      is_row = pos;
      fresh = λ is. omega (arith, in_times copy k.g.linked is, own.0);
      key = same Key filled.key;
      value = same Value filled.value;
      height = same Height filled.height;
      links = both (λ h. field h (row k.m.rows copy)) (λ h. field h (row k.m.rows child)) (same Left filled.left) (same Right filled.right);
      birth = ours Birth filled.birth filled.is_birth ∙ present filled.birth filled.now;
      stamp = fresh.1;
    } in
    let b : Beside = record k.g { links = updates.relink (updates.changed k.g.links copy (st.link copy)) parent d copy; tree = tree_changes.renamed child copy k.g.tree; linked = copy ∷ k.g.linked; replaced = child ∷ k.g.replaced } in
    let s' : Table = state_of (record k.m { rows = rows' }) b in
    let path : s' ≡ clone_kinds.copy_linked st parent d child copy = sets k.m b parent f copy near ∙ with_link (state_of k.m b) parent d copy in
    let away : ℕ → Type 0 = λ (n : ℕ). (n ≢ parent) × (n ≢ copy) in
    let moves : Moves st s' away × DoingOk s' v.doing = (subst (λ (z : Table). Moves st z away) (sym path) (copy_evolves st parent d child copy may, copy_keeps st k.table parent d child copy may, λ n q. copy_apart st n parent d child copy may q.0 q.1), subst (DoingOk s') (sym whole) tt) in
    let is_times : 0 < parent → 0 < times parent k.g.linked = λ l. in_times parent k.g.linked (linked_parent (λ z. omega arith)) in
    let in_it : in_write v.stage ≡ 1 = ap in_write writing.2 in (
      w,
      keeps,
      tt,
      rewriting about s.words s.views k id v w at (set s.words (word_at parent f) copy) rows' b away (cell_set k.memory parent f low copy) moves
          (λ n e none. k.changes n e (omega (arith, none, total-set (λ u. changing n e u.doing) s.views id v w at)))
          (λ n c. absurd (subst (λ z. Concerns z n) whole c))
          (λ j u ne there n c. ((λ q. omega (arith, k.held j u there n c, others_apart s.views id v at k.m.rows parent k.locked above.held j u ne there, ap (λ (i : ℕ). times i u.holds) q)), (λ q. omega (arith, k.held j u there n c, unlocked j u there, ap (λ (i : ℕ). times i u.holds) q))))
          (locks_stay s.views id v at k.m.rows parent x w k.locked (field_other Lock f copy (row k.m.rows parent) (λ z. is_lock (sym z))) near refl refl refl)
          (each_others s.views id v at w (λ j u ne there. facts_elsewhere k.m.rows parent x u.holds u.holds u.words.knows (k.known j u there) (others_apart s.views id v at k.m.rows parent k.locked above.held j u ne there) (λ y. omega arith))
          (ap (field f) (row_same k.m.rows parent x near) ∙ field_same f copy (row k.m.rows parent), above.held, facts_left k.m.rows parent f copy v.holds v.words.knows near known))
          (in_times copy (copy ∷ k.g.linked) (inl refl), all_linked_grows k.g.linked (copy ∷ k.g.linked) (λ r h. inr h) v.trail.reached (k.reached id v at))
          (apart_linked k id v w at parent copy x is_times filled.own refl refl refl)
          (marks_stay s.views id v w k.m.rows rows' at k.marked (stamps_same k.m.rows parent x near (link_stamp d copy (row k.m.rows parent))) refl) (
            (λ j u ne there n c. leaves_apart st s' n (moves.0.2 n ((λ q. omega (arith, c, others_apart s.views id v at k.m.rows parent k.locked above.held j u ne there, ap (λ (i : ℕ). times i u.holds) q)), (λ q. omega (arith, c, unlocked j u there, ap (λ (i : ℕ). times i u.holds) q))))
                (heights_same k.m.rows parent x near (link_height d copy (row k.m.rows parent)))),
            subst (λ (z : Table). AreHeights z v.holds v.heights) (sym path) (heights_kept st (clone_kinds.copy_linked st parent d child copy) v.holds v.heights (λ n c. copy_leaves st parent d child copy n k.table may) (k.heights id v at)),
            debt_known st s' v k.table moves.0.0 (k.doing id v at) (λ n c. absurd (subst (λ z. Concerns z n) whole c)) (k.debts id v at),
            λ room ok. owed_itself s.views id v at s' (subst (λ (z : Table). DebtOk z (debts_of s.views)) (sym path) (copy_owes st (debts_of s.views) parent d child copy k.table ok may)),
          ),
      λ parent' d' word. let t = one_word parent parent' (link_field d) (link_field d') word in (λ i. (copied v key (t.0 i) (t.1 i) copy, me.1)),
    )
  where
    is_live : (v : View) (n : ℕ) → n ≢ 0 → ((n ≡ 0) × (d ≡ sides.Right)) ⊎ ((0 < times n v.trail.reached) × IsBorn v n) → (0 < times n v.trail.reached) × IsBorn v n
    is_live v n nz (inl z) = absurd (nz z.0)
    is_live v n nz (inr h) = h

    both : (F G : Field → ℕ) → F Left ≡ G Left → F Right ≡ G Right → (e : Side) → F (link_field e) ≡ G (link_field e)
    both F G l r sides.Left = l
    both F G l r sides.Right = r

    no_zero : parent ≡ 0 → 0 < times parent me.0.trail.reached → ⊥
    no_zero z h = let was = in_of k.g.linked me.0.trail.reached parent (k.reached id me.0 at) h in k.table.links.no_zero (subst (λ (n : ℕ). In n k.g.linked) z was)

    parent_is : (t : Table) → ((parent ≡ 0) × (d ≡ sides.Right)) ⊎ ((0 < times parent me.0.trail.reached) × IsBorn me.0 parent) → (parent ≢ 0 → IsLive t parent) → IsParent t parent d
    parent_is t (inl z) live = inl z
    parent_is t (inr h) live = dite (ℕ_discrete parent 0) (λ z. absurd (no_zero z h.0)) (λ nz. inr (live nz))
