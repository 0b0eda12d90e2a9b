-- A table that evolves keeps what the rule says of a reader.
use Rattle.std.proofs.Common.{◌≡◌, ℕ, ◌<◌, ◌%◌, inl, inr, List, None, ap, sym, ◌∙◌, subst, arith}
use native.Mathlib.Decide.{ℕ_discrete}
use mathlib.Core.Logic.{dite}
use Rattle.snap_model.specs.History.{Begins, told}
use Rattle.snap_model.specs.declared.call.Entry.{Entry}
use Rattle.snap_rule.specs.Tree.{Tree, find, value_word}
use Rattle.snap_stamp.specs.declared.side.Side.{Side}
use Rattle.snap_rule.specs.State.{State, In, WasLinked, IsShared, IsImage}
use Rattle.snap_stamp.specs.Stamps.{IsUnmarked, IsUnlinked}
use Rattle.snap_rule.specs.Evolves.{Evolves}
use Rattle.snap_rule.specs.Position.{OnImage, IsPlaced, Faces, IsRecorded, IsStanding}
use Rattle.snap_rule.specs.ChildCheck.{WasAbsent, HasTold, IsGone, IsCandidate, IsChild}
use Rattle.snap_rule.specs.Reader.{PointOk, ReaderOk}
use Rattle.snap_rule.specs.declared.reader.Point.{Point}
use Rattle.snap_rule.specs.declared.reader.Point.TheVariants.{Standing, NoLink, Linked, Stamped, Relinked, Confirmed, ConfirmedNone, Matched}
use Rattle.snap_rule.proofs.Moments.{begins_trans, later_history, now, at_moment, seen_less}
use Rattle.snap_rule.proofs.Trees.{reads_same, each_at, each_stands, each_root}

module _ (s s' : State) (ev : Evolves s s') where
  reached_kept : (n : ℕ) → WasLinked s n → WasLinked s' n
  reached_kept n (inl e) = inl e
  reached_kept n (inr h) = inr (ev.linked n h)

  shared_kept : (n : ℕ) → In n s.linked → IsShared s n → IsShared s' n
  shared_kept n h u = let b = ev.birth n h in let e = ev.epoch in record { is_row = u.is_row; older = omega (arith, u.older) }

  -- an image stays as it is
  pub image_kept : (n : ℕ) (t : Tree) → IsImage s n t → IsImage s' n t
  image_kept n t i = record {
    top = i.top;
    reads = reads_same s s' s.link s'.link t i.reads (λ m h. let p = each_at (λ r. In r s.linked × IsShared s r) t m i.rows h in let w = ev.shared m p.0 p.1 in (w.key, w.value, w.height, w.link));
    rows = each_stands (λ r. In r s'.linked × IsShared s' r) t (λ m h. let p = each_at (λ r. In r s.linked × IsShared s r) t m i.rows h in (ev.linked m p.0, shared_kept m p.0 p.1));
  }

  image_linked : (n : ℕ) (t : Tree) → 0 < n → IsImage s n t → In n s.linked
  image_linked n t z i = (subst (λ (m : ℕ). In m s.linked × IsShared s m) i.top (each_root (λ r. In r s.linked × IsShared s r) t (λ e. omega (arith, e, i.top, z)) i.rows)).0

  on_image_kept : (seen : List Entry) (n k : ℕ) → OnImage s seen n k → OnImage s' seen n k
  on_image_kept seen n k o = record {
    shared = shared_kept n (image_linked n o.image o.shared.is_row o.is_image) o.shared;
    image = o.image;
    is_image = image_kept n o.image o.is_image;
    tells = later_history seen s.history s'.history (λ p. find o.image k ≡ told p k) ev.history o.tells;
  }

  placed_less : (seen seen' : List Entry) (n k : ℕ) → Begins seen seen' → IsPlaced s' seen' n k → IsPlaced s' seen n k
  placed_less seen seen' n k b (inl e) = inl e
  placed_less seen seen' n k b (inr (inl w)) = inr (inl w)
  placed_less seen seen' n k b (inr (inr o)) = inr (inr (record { shared = o.shared; image = o.image; is_image = o.is_image; tells = seen_less seen seen' s'.history (λ p. find o.image k ≡ told p k) b o.tells }))

  still_placed : (seen : List Entry) (n k : ℕ) → Begins seen s.history → IsUnmarked (s.stamp n) → s'.stamp n ≡ s.stamp n → IsPlaced s seen n k
      → IsPlaced s' seen n k
  still_placed seen n k b u e (inl z) = inl z
  still_placed seen n k b u e (inr (inl w)) = placed_less seen s'.history n k (begins_trans seen s.history s'.history b ev.history) (ev.place n k w.1 w.0 u e)
  still_placed seen n k b u e (inr (inr o)) = inr (inr (on_image_kept seen n k o))

  -- a stamp that is the recorded one was it all the while
  same_stamp : (n v : ℕ) → IsRecorded s n v → s'.stamp n ≡ v → s.stamp n ≡ v
  same_stamp n v r e = let g = ev.stamp n r.reached in omega (arith, r.recorded)

  recorded_kept : (n v : ℕ) → IsRecorded s n v → IsRecorded s' n v
  recorded_kept n v r = let g = ev.stamp n r.reached in record { reached = reached_kept n r.reached; unmarked = r.unmarked; recorded = omega (arith, r.recorded) }

  pub position_kept : (seen : List Entry) (k n v : ℕ) → Begins seen s.history → IsRecorded s n v → (s.stamp n ≡ v → IsPlaced s seen n k)
      → s'.stamp n ≡ v
      → IsPlaced s' seen n k
  position_kept seen k n v b r p e = let q = same_stamp n v r e in still_placed seen n k b (rw q r.unmarked) (e ∙ sym q) (p q)

  faces_kept : (k n : ℕ) (d : Side) → WasLinked s n → Faces s n k d → Faces s' n k d
  faces_kept k n d h (inl f) = inl f
  faces_kept k n d (inl z) (inr f) = absurd (f.0 z)
  faces_kept k n d (inr h) (inr f) = inr (f.0, rw (ev.key n h) f.1)

  standing_kept : (seen : List Entry) (k n v : ℕ) (d : Side) → Begins seen s.history → IsStanding s seen k n v d → IsStanding s' seen k n v d
  standing_kept seen k n v d b h = record {
    stamp = recorded_kept n v h.stamp;
    faces = faces_kept k n d h.stamp.reached h.faces;
    placed = position_kept seen k n v b h.stamp h.placed;
  }

  absent_kept : (seen : List Entry) (k : ℕ) → WasAbsent s seen k → WasAbsent s' seen k
  absent_kept seen k a = later_history seen s.history s'.history (λ p. told p k ≡ None) ev.history a

  -- a value that changed is what the map has now
  told_kept : (seen : List Entry) (c k : ℕ) → Begins seen s.history → In c s.linked → s.key c ≡ k → HasTold s seen c k → HasTold s' seen c k
  told_kept seen c k b h q a = dite (ℕ_discrete (s'.value c) (s.value c))
      (λ e. at_moment seen s'.history (λ p. s.value c ≡ value_word (told p k)) (λ p. s'.value c ≡ value_word (told p k)) (λ p w. e ∙ w) (later_history seen s.history s'.history (λ p. s.value c ≡ value_word (told p k)) ev.history a))
      (λ n. now seen s'.history (λ p. s'.value c ≡ value_word (told p k)) (begins_trans seen s.history s'.history b ev.history) (ev.value c h n ∙ ap (λ (x : ℕ). value_word (told s'.history x)) q))

  -- a row that has come to be unlinked has no value, and its key was absent
  unlinked_kept : (seen : List Entry) (c : ℕ) → Begins seen s.history → In c s.linked → (IsUnlinked (s.stamp c) → IsGone s seen c)
      → IsUnlinked (s'.stamp c)
      → IsGone s' seen c
  unlinked_kept seen c b h f m = dite (ℕ_discrete (s.stamp c % 2) 1)
      (λ e. let u = f e in record { no_value = ev.gone c h e ∙ u.no_value; absent = rw (ev.key c h) (absent_kept seen (s.key c) u.absent) })
      (λ n. let u = ev.unlinked c h n m in record { no_value = u.0; absent = rw (ev.key c h) (now seen s'.history (λ p. told p (s.key c) ≡ None) (begins_trans seen s.history s'.history b ev.history) u.1) })

  candidate_kept : (seen : List Entry) (k c w : ℕ) → Begins seen s.history → In c s.linked → IsRecorded s c w → IsCandidate s seen k c w
      → IsCandidate s' seen k c w
  candidate_kept seen k c w b h r a = record {
    placed = position_kept seen k c w b r a.placed;
    tells = λ e. let q = sym (ev.key c h) ∙ e in told_kept seen c k b h q (a.tells q);
  }

  child_kept : (c w : ℕ) → IsChild s c w → IsChild s' c w
  child_kept c w h = record { linked = ev.linked c h.linked; stamp = recorded_kept c w h.stamp }

  pub point_kept : (seen : List Entry) (k : ℕ) (t : Point) → Begins seen s.history → PointOk s seen k t → PointOk s' seen k t
  point_kept seen k (Standing n v d) b h = standing_kept seen k n v d b h
  point_kept seen k (NoLink n v d) b h = (standing_kept seen k n v d b h.0, λ e. absent_kept seen k (h.1 (same_stamp n v h.0.stamp e)))
  point_kept seen k (Linked n v d c) b h = (standing_kept seen k n v d b h.0, ev.linked c h.1)
  point_kept seen k (Stamped n v d c w) b h = (standing_kept seen k n v d b h.0, child_kept c w h.1, unlinked_kept seen c b h.1.linked h.2)
  point_kept seen k (Relinked n v c w) b h = (recorded_kept n v h.0, child_kept c w h.1, λ e. candidate_kept seen k c w b h.1.linked h.1.stamp (h.2 (same_stamp n v h.0 e)))
  point_kept seen k (Confirmed c w) b h = (child_kept c w h.0, candidate_kept seen k c w b h.0.linked h.0.stamp h.1)
  point_kept seen k ConfirmedNone b h = absent_kept seen k h
  point_kept seen k (Matched c) b h = (ev.linked c h.0, ev.key c h.0 ∙ h.1, told_kept seen c k b h.0 h.1 h.2)

  pub reader_kept : (seen : List Entry) (k : ℕ) (t : Point) → ReaderOk s seen k t → ReaderOk s' seen k t
  reader_kept seen k t h = record {
    begins = begins_trans seen s.history s'.history h.begins ev.history;
    at_point = point_kept seen k t h.begins h.at_point;
  }
