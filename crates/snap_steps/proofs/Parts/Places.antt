-- What is known of places, once the table has evolved, and how a reader comes to know one.
use Rattle.std.proofs.Common.{◌≡◌, ◌∙◌, ◌⊎◌, inl, inr, ℕ, Some, List, sym, subst, arith}
use Rattle.snap_model.specs.declared.call.Entry.{Entry}
use Rattle.snap_rule.specs.Debt.Kinds.{AimsBeyond}
use Rattle.snap_rule.specs.Evolves.{Evolves}
use Rattle.snap_rule.specs.Position.{Faces, IsPlaced, IsStanding}
use Rattle.snap_rule.specs.State.{State as Table, In, IsShared, WasLinked}
use Rattle.snap_rule.specs.Tree.{OnWay}
use Rattle.snap_rule.specs.Views.{ReadingOk}
use Rattle.snap_rule.specs.declared.debt.Debt.{Debt}
use Rattle.snap_rule.specs.declared.reader.Point.TheVariants.{Standing, NoLink, Linked, Stamped, Relinked, Confirmed, ConfirmedNone, Matched}
use Rattle.snap_rule.specs.declared.reader.Reading.{Reading}
use Rattle.snap_rule.specs.declared.reader.Reading.TheVariants.{On, Resting}
use Rattle.snap_stamp.specs.Sides.{Toward}
use Rattle.snap_stamp.specs.Stamps.{IsUnmarked}
use Rattle.snap_stamp.specs.declared.side.Side.{Side}
use Rattle.snap_steps.specs.Each.{Each}
use Rattle.snap_steps.specs.Rule.Places.{IsPlace, PlaceKnown, KnowsPlace}
use Rattle.snap_steps.specs.Steps.Way.{goes_from}
use Rattle.snap_steps.specs.declared.view.View.{View}

faces_kept : (s s' : Table) → Evolves s s' → (k n : ℕ) (d : Side) → WasLinked s n → Faces s n k d → Faces s' n k d
faces_kept s s' ev k n d h (inl f) = inl f
faces_kept s s' ev k n d (inl z) (inr f) = absurd (f.0 z)
faces_kept s s' ev k n d (inr h) (inr f) = inr (f.0, subst (λ (x : ℕ). Toward d k x) (sym (ev.key n h)) f.1)

-- a place stays one: a row that comes to be shared stays so
pub place_evolves : (s s' : Table) → Evolves s s' → (k n x : ℕ) (d : Side) → IsPlace s k n x d → IsPlace s' k n x d
place_evolves s s' ev k n x d h =
    let g = ev.stamp n h.stamp.reached in record {
      stamp = record { reached = reached h.stamp.reached; unmarked = h.stamp.unmarked; recorded = omega (arith, h.stamp.recorded) };
      faces = faces_kept s s' ev k n d h.stamp.reached h.faces;
      placed = λ e. let q : s.stamp n ≡ x = omega (arith, h.stamp.recorded) in go (subst IsUnmarked (sym q) h.stamp.unmarked) (e ∙ sym q) h.stamp.reached (h.placed q);
    }
  where
    reached : WasLinked s n → WasLinked s' n
    reached (inl z) = inl z
    reached (inr i) = inr (ev.linked n i)

    older : In n s.linked → IsShared s n → IsShared s' n
    older i o = record { is_row = o.is_row; older = let a = o.older in let b = ev.birth n i in let c = ev.epoch in omega arith }

    still : IsPlaced s' s'.history n k → (n ≡ 0) ⊎ IsShared s' n ⊎ (¬ IsShared s' n) × OnWay s'.tree k n
    still (inl z) = inl z
    still (inr (inl w)) = inr (inr w)
    still (inr (inr o)) = inr (inl o.shared)

    go : IsUnmarked (s.stamp n) → s'.stamp n ≡ s.stamp n → WasLinked s n → (n ≡ 0) ⊎ IsShared s n ⊎ (¬ IsShared s n) × OnWay s.tree k n → (n ≡ 0) ⊎ IsShared s' n ⊎ (¬ IsShared s' n) × OnWay s'.tree k n
    go m e i (inl z) = inl z
    go m e (inl z) (inr w) = inl z
    go m e (inr i) (inr (inl o)) = inr (inl (older i o))
    go m e (inr i) (inr (inr w)) = still (ev.place n k w.1 w.0 m e)

pub place_known_evolves : (s s' : Table) → Evolves s s' → (p : Reading) → PlaceKnown s p → PlaceKnown s' p
place_known_evolves s s' ev Resting h = tt
place_known_evolves s s' ev (On k (Standing n v d)) h = place_evolves s s' ev k n v d h
place_known_evolves s s' ev (On k (NoLink n v d)) h = tt
place_known_evolves s s' ev (On k (Linked n v d c)) h = tt
place_known_evolves s s' ev (On k (Stamped n v d c w)) h = tt
place_known_evolves s s' ev (On k (Relinked n v c w)) h = tt
place_known_evolves s s' ev (On k (Confirmed c w)) h = tt
place_known_evolves s s' ev (On k ConfirmedNone) h = tt
place_known_evolves s s' ev (On k (Matched c)) h = tt

pub places_evolve : (s s' : Table) (views : List View) → Evolves s s' → Each (KnowsPlace s) views → Each (KnowsPlace s') views
places_evolve s s' views ev h j u at = place_known_evolves s s' ev u.way.place (h j u at)

-- where a reader stands is a place
pub standing_place : (s : Table) (seen : List Entry) (k n v : ℕ) (d : Side) → IsStanding s seen k n v d → IsPlace s k n v d
standing_place s seen k n v d h = record { stamp = h.stamp; faces = h.faces; placed = λ e. go (h.placed e) }
  where
    go : IsPlaced s seen n k → (n ≡ 0) ⊎ IsShared s n ⊎ (¬ IsShared s n) × OnWay s.tree k n
    go (inl z) = inl z
    go (inr (inl w)) = inr (inr w)
    go (inr (inr o)) = inr (inl o.shared)

-- so it knows its place once it has gone on
pub place_goes : (s : Table) (seen : List Entry) (r p : Reading) → ReadingOk s seen r → PlaceKnown s p → PlaceKnown s (goes_from r p)
place_goes s seen Resting p h known = known
place_goes s seen (On k (Standing n v d)) p h known = standing_place s seen k n v d h
place_goes s seen (On k (NoLink n v d)) p h known = known
place_goes s seen (On k (Linked n v d c)) p h known = known
place_goes s seen (On k (Stamped n v d c w)) p h known = known
place_goes s seen (On k (Relinked n v c w)) p h known = known
place_goes s seen (On k (Confirmed c w)) p h known = known
place_goes s seen (On k ConfirmedNone) p h known = known
place_goes s seen (On k (Matched c)) p h known = known

-- the last row of this epoch on the way of the to-do key: while it has its stamp, nothing is owed beyond it
pub last_beyond : (s : Table) (v : Debt) (r key x : ℕ) (d : Side) → IsPlace s key r x d → s.stamp r ≡ x → (r ≡ 0) ⊎ (¬ IsShared s r) → v.to_do ≡ Some key → (s.links r d ≡ 0) ⊎ IsShared s (s.links r d) → AimsBeyond s v r
last_beyond s v r key x d p still own to_do ends = record {
  key = key;
  side = d;
  to_do = to_do;
  place = go own (p.placed still);
  faces = p.faces;
  ends = ends;
}
  where
    go : (r ≡ 0) ⊎ (¬ IsShared s r) → (r ≡ 0) ⊎ IsShared s r ⊎ (¬ IsShared s r) × OnWay s.tree key r → (r ≡ 0) ⊎ OnWay s.tree key r
    go o (inl z) = inl z
    go (inl z) (inr w) = inl z
    go (inr u) (inr (inl t)) = absurd (u t)
    go (inr u) (inr (inr w)) = inr w.1
