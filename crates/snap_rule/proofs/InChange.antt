-- A pass in a change: its own next step, and other passes' steps.
use Rattle.std.proofs.Common.{◌≡◌, ◌≢◌, ℕ, ◌+◌, ◌⊎◌, inl, inr, refl, ap, sym, ◌∙◌, subst, ap₂, arith}
use Rattle.snap_rule.specs.Tree.{Stands}
use Rattle.snap_stamp.specs.Sides.{other}
use Rattle.snap_stamp.specs.declared.side.Side.{Side}
use Rattle.snap_stamp.specs.declared.side.Side.TheVariants.{Left, Right}
use Rattle.snap_rule.specs.State.{State, Change}
use Rattle.snap_stamp.specs.Stamps.{IsUnmarked, IsLowering}
use Rattle.snap_rule.specs.State.Change.{plain, unlinking, lowering, raising}
use Rattle.snap_rule.specs.Rule.{TreeOk, ChangesOk, IsLive, LinkFits, IsParent}
use Rattle.snap_rule.specs.Updates.{relink}
use Rattle.snap_rule.specs.Kinds.Unlinking.{unlinked_marked, MayMarkUnlinked, only_child, MaySplice}
use Rattle.snap_rule.specs.Kinds.Rotation.{shrinking_marked, lowered_linked, MayLinkLowered, raised_linked, MayLinkRaised, parent_linked, MayLinkParent, MayClearShrinking}
use Rattle.snap_rule.specs.Doing.{Concerns, IsRotation, NotNamed, DoingOk, Apart}
use Rattle.snap_rule.specs.declared.change.Doing.{Doing}
use Rattle.snap_rule.specs.declared.change.Doing.TheVariants.{Nothing, Unlinked, Shrunk, Lowered, Lifted, Turned}
use Rattle.snap_rule.proofs.Updates.{changed_same, relink_other, same_place, relink_same, relink_away}
use Rattle.snap_rule.proofs.Trees.Rows.{stands_rotated}
use Rattle.snap_rule.proofs.Parts.Changes.{parent_after_unlink}
use Rattle.snap_rule.proofs.Parts.Tree.{other_side}

pub live_same : (s s' : State) (n : ℕ) → (Stands n s.tree → Stands n s'.tree) → s'.birth n ≡ s.birth n → s'.epoch ≡ s.epoch → IsLive s n → IsLive s' n
live_same s s' n f b e l = record { stands = f l.stands; own = λ u. l.own (record { is_row = u.is_row; older = (let a = u.older in omega arith) }) }

pub parent_same : (s s' : State) (n : ℕ) (d : Side) → (IsLive s n → IsLive s' n) → IsParent s n d → IsParent s' n d
parent_same s s' n d f (inl z) = inl z
parent_same s s' n d f (inr l) = inr (f l)

pub unlink_doing : (s : State) (parent : ℕ) (d : Side) (row : ℕ) → TreeOk s → ChangesOk s → MayMarkUnlinked s parent d row
    → DoingOk (unlinked_marked s parent d row) (Unlinked parent d row (only_child s row))
unlink_doing s parent d row tree_ok changes_ok may = record {
  parent_live = parent_after_unlink s parent d row tree_ok changes_ok may;
  change = relink_same s.pending parent d (unlinking row);
  child = relink_same s.links parent d (only_child s row);
}

pub shrink_doing : (s : State) (parent : ℕ) (p : Side) (row : ℕ) (d : Side) (raised : ℕ) → IsRotation s parent p row d raised
    → IsUnmarked (s.stamp row) → s.pending row d ≡ plain → NotNamed s row
    → DoingOk (shrinking_marked s row) (Shrunk parent p row d raised)
shrink_doing s parent p row d raised t u q z =
    let s' : State = shrinking_marked s row in
    let live : (n : ℕ) → IsLive s n → IsLive s' n = λ n. live_same s s' n (λ h. h) refl refl in
    record {
      turn = record { parent_live = parent_same s s' parent p (live parent) t.parent_live; live = live row t.live; raised_live = live raised t.raised_live; child = t.child; raised_child = t.raised_child; parent_plain = t.parent_plain; row_plain = t.row_plain; apart = t.apart };
      marked = (let e = changed_same s.stamp row (s.stamp row + 2) in omega arith);
      row_link = q;
      not_named = z;
    }

-- what `link_lowered` needs, and after it
pub lower_doing : (s : State) (parent : ℕ) (p : Side) (row : ℕ) (d : Side) (raised : ℕ) → s.writers ≢ 0 → ChangesOk s
    → s.pending raised (other d) ≡ plain → DoingOk s (Shrunk parent p row d raised)
    → MayLinkLowered s row d raised × DoingOk (lowered_linked s row d raised) (Lowered parent p row d raised)
lower_doing s parent p row d raised writing changes_ok free h =
    let t = h.turn in
    let v : ℕ = s.link raised (other d) in
    let s' : State = lowered_linked s row d raised in
    let live : (n : ℕ) → IsLive s n → IsLive s' n = λ n. live_same s s' n (λ i. i) refl refl in
    let word : s.link raised (other d) ≡ s.links raised (other d) = subst (LinkFits s raised (other d)) free (changes_ok.fits raised (other d) (inr t.raised_live.stands)) in (
      record { writing = writing; live = t.live; raised_live = t.raised_live; marked = h.marked },
      record {
        turn = record {
          parent_live = parent_same s s' parent p (live parent) t.parent_live;
          live = live row t.live;
          raised_live = live raised t.raised_live;
          child = relink_other s.link row d v parent p t.apart.1 ∙ t.child;
          raised_child = t.raised_child;
          parent_plain = relink_other s.pending row d (lowering v) parent p t.apart.1 ∙ t.parent_plain;
          row_plain = relink_away s.pending row d (lowering v) row (other d) (λ q. other_side d q.1) ∙ t.row_plain;
          apart = t.apart;
        };
        marked = h.marked;
        row_link = relink_same s.pending row d (lowering v) ∙ ap lowering (sym (relink_same s.link row d v));
        middle = relink_same s.link row d v ∙ word;
        not_named = λ n e q. elim (same_place n row e d) [
          | inl x ↦ (let y : lowering v ≡ raising row = sym (ap₂ (relink s.pending row d (lowering v)) x.0 x.1 ∙ relink_same s.pending row d (lowering v)) ∙ q in cc y)
          | inr x ↦ h.not_named n e (sym (relink_away s.pending row d (lowering v) n e x) ∙ q)
        ];
      },
    )

-- what `link_raised` needs, and after it
pub lift_doing : (s : State) (parent : ℕ) (p : Side) (row : ℕ) (d : Side) (raised : ℕ) → s.writers ≢ 0 → DoingOk s (Lowered parent p row d raised)
    → MayLinkRaised s row d raised × DoingOk (raised_linked s row d raised) (Lifted parent p row d raised)
lift_doing s parent p row d raised writing h =
    let t = h.turn in
    let s' : State = raised_linked s row d raised in
    let live : (n : ℕ) → IsLive s n → IsLive s' n = λ n. live_same s s' n (λ i. i) refl refl in
    let away : (n : ℕ) (e : Side) → n ≢ raised → relink s.pending raised (other d) (raising row) n e ≡ s.pending n e = λ n e z. relink_other s.pending raised (other d) (raising row) n e z in
    let link : (n : ℕ) (e : Side) → n ≢ raised → relink s.link raised (other d) row n e ≡ s.link n e = λ n e z. relink_other s.link raised (other d) row n e z in
    let not_raised : row ≢ raised = λ q. t.apart.0 (sym q) in (
      record { writing = writing; live = t.live; raised_live = t.raised_live; marked = h.marked },
      record {
        turn = record {
          parent_live = parent_same s s' parent p (live parent) t.parent_live;
          live = live row t.live;
          raised_live = live raised t.raised_live;
          child = link parent p t.apart.2 ∙ t.child;
          raised_child = t.raised_child;
          parent_plain = away parent p t.apart.2 ∙ t.parent_plain;
          row_plain = away row (other d) not_raised ∙ t.row_plain;
          apart = t.apart;
        };
        marked = h.marked;
        row_link = away row d not_raised ∙ h.row_link ∙ ap lowering (sym (link row d not_raised));
        middle = link row d not_raised ∙ h.middle;
        raised_link = relink_same s.pending raised (other d) (raising row);
        named_once = λ n e q. elim (same_place n raised e (other d)) [ inl x ↦ x | inr x ↦ absurd (h.not_named n e (sym (relink_away s.pending raised (other d) (raising row) n e x) ∙ q)) ];
      },
    )

-- what `link_parent` needs, and after it
pub raise_doing : (s : State) (parent : ℕ) (p : Side) (row : ℕ) (d : Side) (raised : ℕ) → s.writers ≢ 0 → DoingOk s (Lifted parent p row d raised)
    → MayLinkParent s parent p row d raised × DoingOk (parent_linked s parent p row d raised) (Turned row)
raise_doing s parent p row d raised writing h =
    let t = h.turn in
    let s' : State = parent_linked s parent p row d raised in
    let first : ℕ → Side → Change = relink s.pending row d plain in
    let not_raised : row ≢ raised = λ q. t.apart.0 (sym q) in (
      record { writing = writing; parent_live = t.parent_live; live = t.live; raised_live = t.raised_live; child = t.child; marked = h.marked; no_change = t.parent_plain; lowered = h.row_link; raising_is = h.raised_link; apart = t.apart; raised_child = t.raised_child; middle = h.middle },
      record {
        live = live_same s s' row (stands_rotated row d s.tree row) refl refl t.live;
        marked = h.marked;
        no_change = λ e. relink_other first raised (other d) plain row e not_raised ∙ row_free e;
        not_named = λ n e q. elim (same_place n raised e (other d)) [
          | inl x ↦ (let y : plain ≡ raising row = sym (ap₂ (relink first raised (other d) plain) x.0 x.1 ∙ relink_same first raised (other d) plain) ∙ q in cc y)
          | inr x ↦ elim (same_place n row e d) [
            | inl w ↦ (let y : plain ≡ raising row = sym (relink_away first raised (other d) plain n e x ∙ ap₂ first w.0 w.1 ∙ relink_same s.pending row d plain) ∙ q in cc y)
            | inr w ↦ x (h.named_once n e (sym (relink_away first raised (other d) plain n e x ∙ relink_away s.pending row d plain n e w) ∙ q))
          ]
        ];
      },
    )
  where
    sides : (d e : Side) → (e ≡ d) ⊎ (e ≡ other d)
    sides Left Left = inl refl
    sides Left Right = inr refl
    sides Right Right = inl refl
    sides Right Left = inr refl

    row_free : (e : Side) → relink s.pending row d plain row e ≡ plain
    row_free e = elim (sides d e) [
      | inl q ↦ subst (λ (x : Side). relink s.pending row d plain row x ≡ plain) (sym q) (relink_same s.pending row d plain)
      | inr q ↦ subst (λ (x : Side). relink s.pending row d plain row x ≡ plain) (sym q) (relink_away s.pending row d plain row (other d) (λ x. other_side d x.1) ∙ h.turn.row_plain)
    ]

-- what `splice` and `clear_shrinking` need
pub splice_doing : (s : State) (parent : ℕ) (d : Side) (row only : ℕ) → s.writers ≢ 0 → DoingOk s (Unlinked parent d row only)
    → MaySplice s parent d row × (s.links parent d ≡ only)
splice_doing s parent d row only writing h = (record { writing = writing; parent_live = h.parent_live; change = h.change }, h.child)

pub clear_doing : (s : State) (row : ℕ) → s.writers ≢ 0 → DoingOk s (Turned row) → MayClearShrinking s row
clear_doing s row writing h = record { writing = writing; live = h.live; marked = h.marked; no_change = h.no_change; not_named = h.not_named }

-- a step that leaves the rows of a change alone
module _ (s s' : State) where
  turn_kept : (parent : ℕ) (p : Side) (row : ℕ) (d : Side) (raised : ℕ) → Apart s s' parent → Apart s s' row → Apart s s' raised
      → IsRotation s parent p row d raised
      → IsRotation s' parent p row d raised
  turn_kept parent p row d raised a b c t = record {
    parent_live = parent_same s s' parent p a.live t.parent_live;
    live = b.live t.live;
    raised_live = c.live t.raised_live;
    child = a.link p ∙ t.child;
    raised_child = b.links d ∙ t.raised_child;
    parent_plain = a.pending p ∙ t.parent_plain;
    row_plain = b.pending (other d) ∙ t.row_plain;
    apart = t.apart;
  }

  pub doing_kept : (g : Doing) → ((n : ℕ) → Concerns g n → Apart s s' n) → DoingOk s g → DoingOk s' g
  doing_kept Nothing f h = tt
  doing_kept (Unlinked parent d row only) f h = let a = f parent refl in record { parent_live = parent_same s s' parent d a.live h.parent_live; change = a.pending d ∙ h.change; child = a.links d ∙ h.child }
  doing_kept (Shrunk parent p row d raised) f h =
      let a = f parent (inl refl) in let b = f row (inr (inl refl)) in let c = f raised (inr (inr refl)) in
      record { turn = turn_kept parent p row d raised a b c h.turn; marked = subst IsLowering (sym b.stamp) h.marked; row_link = b.pending d ∙ h.row_link; not_named = λ n e q. h.not_named n e (b.named n e q) }
  doing_kept (Lowered parent p row d raised) f h =
      let a = f parent (inl refl) in let b = f row (inr (inl refl)) in let c = f raised (inr (inr refl)) in
      record { turn = turn_kept parent p row d raised a b c h.turn; marked = subst IsLowering (sym b.stamp) h.marked; row_link = b.pending d ∙ h.row_link ∙ ap lowering (sym (b.link d)); middle = b.link d ∙ h.middle ∙ sym (c.links (other d)); not_named = λ n e q. h.not_named n e (b.named n e q) }
  doing_kept (Lifted parent p row d raised) f h =
      let a = f parent (inl refl) in let b = f row (inr (inl refl)) in let c = f raised (inr (inr refl)) in
      record {
        turn = turn_kept parent p row d raised a b c h.turn;
        marked = subst IsLowering (sym b.stamp) h.marked;
        row_link = b.pending d ∙ h.row_link ∙ ap lowering (sym (b.link d));
        middle = b.link d ∙ h.middle ∙ sym (c.links (other d));
        raised_link = c.pending (other d) ∙ h.raised_link;
        named_once = λ n e q. h.named_once n e (b.named n e q);
      }
  doing_kept (Turned row) f h = let b = f row refl in record { live = b.live h.live; marked = subst IsLowering (sym b.stamp) h.marked; no_change = λ e. b.pending e ∙ h.no_change e; not_named = λ n e q. h.not_named n e (b.named n e q) }
