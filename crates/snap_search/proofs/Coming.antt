-- The loads of a search that may begin again, on its step down from a spot.
use Rattle.std.proofs.Common.{◌≡◌, ◌≢◌, ◌⊎◌, inl, inr, ℕ, ◌%◌, ◌≤◌, nat_lt, cond, List, [], ◌∷◌, None, refl, sym, ap, ◌∙◌, subst, arith}
use Rattle.snap_prelude.specs.{Becomes, Confirmed, Entry, Extends, goes_from, HasAnswer, HasBound, Known}
use Rattle.snap_prelude.specs.{Left, Linked, Matched, NoLink, now_confirmed, On, place_by, Point, read_on, Reading}
use Rattle.snap_prelude.specs.{Relinked, Resting, Right, settled_at, Stamped, Standing, Toward, value_of}
use Rattle.snap_search.specs.Down.{Came, HasCome, IsFrom, IsLed, Passes, Strays}
use Rattle.snap_search.specs.Leads.{LeadsTo, LeadsLast, stand}
use Rattle.snap_search.specs.Prelude.{at_top, Ends, Spot, Walks}
use Rattle.snap_search.proofs.Walking.{answer_none, answer_some, bound, child_reached, chosen, ends, ends_on, fails, loads, none_first, other, same_place, some_first, still_confirmed, then_loads, toward, walks_none, walks_on}
use Rattle.snap_steps.specs.Steps.Way.{next_point}

-- it stands at the spot
pub stands : (s : Spot) (k : Known) (key : ℕ) → k.view.way.reads ≡ On key (stand s) → Came s k k key (stand s)
stands s k key at = record { walks = walks_none k (On key (stand s)) at; seen = refl; from = refl }

module _ (s : Spot) (from old new : Known) (key : ℕ) (t : Point) (x : ℕ) (a : Came s from old key t) (e : Becomes old new (read_on old.view x)) where
  on : (q : Point) → next_point key t x ≡ On key q → IsFrom s new.view key q → Came s from new key q
  on q goes is = record { walks = then_loads from old new key t x (On key q) a.walks e goes; seen = ap (λ (k : Known). k.view.seen) e ∙ a.seen; from = is }

  off : next_point key t x ≡ at_top key → Strays from new key
  off goes = record { walks = then_loads from old new key t x (at_top key) a.walks e goes; seen = ap (λ (k : Known). k.view.seen) e ∙ a.seen }

  still : (c : ℕ) → place_by key t old.view.way.place ≡ old.view.way.place → HasCome s old.view key c → HasCome s new.view key c
  still c stays h = let l = loads old new key t x (next_point key t x) a.walks.at e refl in (same_place old new key t x a.walks.at e stays ∙ h.0, omega (arith, h.1, l.kept c))

pub leads : (rows : ℕ) (s : Spot) (from old new : Known) (key : ℕ) (t : Point) (x : ℕ) → Came s from old key t → Becomes old new (read_on old.view x) → HasBound old.view x → old.view.rows ≡ rows → LeadsTo rows (Came s from new key) (Strays from new key) t x
leads rows s from old new key (Standing n v d) x a e h r =
    let place : new.view.way.place ≡ On key (stand s) = ap (λ (k : Known). k.view.way.place) e ∙ ap (λ (q : Reading). goes_from q old.view.way.place) a.walks.at ∙ ap (On key) a.from in (
      subst (λ (m : ℕ). x ≤ m) r (bound old.view key n v x d a.walks.at h),
      λ z. on s from old new key (Standing n v d) x a e (NoLink n v d) (none_first key n v x d z) place,
      λ ne. on s from old new key (Standing n v d) x a e (Linked n v d x) (some_first key n v x d ne) (place, child_reached old new key n v x d a.walks.at e ne),
    )
leads rows s from old new key (Linked n v d c) x a e h r = (
  λ z. on s from old new key (Linked n v d c) x a e (Stamped n v d c x) (chosen (x % 4) 0 (On key (Stamped n v d c x)) (at_top key) z) (still s from old new key (Linked n v d c) x a e c refl a.from),
  λ ne. off s from old new key (Linked n v d c) x a e (other (x % 4) 0 (On key (Stamped n v d c x)) (at_top key) ne),
)
leads rows s from old new key (Stamped n v d c w) x a e h r = (
  λ z. on s from old new key (Stamped n v d c w) x a e (Relinked n v c w) (chosen x c (On key (Relinked n v c w)) (at_top key) z) (still s from old new key (Stamped n v d c w) x a e c refl a.from),
  λ ne. off s from old new key (Stamped n v d c w) x a e (other x c (On key (Relinked n v c w)) (at_top key) ne),
)
leads rows s from old new key (Relinked n v c w) x a e h r = (
  λ z. on s from old new key (Relinked n v c w) x a e (Confirmed c w) (chosen x v (On key (Confirmed c w)) (at_top key) z)
      (still s from old new key (Relinked n v c w) x a e c refl a.from, ap (λ (k : Known). k.view.way.confirmed) e ∙ ap (λ (q : Reading). now_confirmed q x old.view.way.confirmed) a.walks.at ∙ chosen x v (c ∷ []) [] z),
  λ ne. off s from old new key (Relinked n v c w) x a e (other x v (On key (Confirmed c w)) (at_top key) ne),
)
leads rows s from old new key elsewhere x a e h r = tt

-- the load of the child's key
module _ (s : Spot) (from old new : Known) (key c w x : ℕ) (a : Came s from old key (Confirmed c w)) (e : Becomes old new (read_on old.view x)) where
  led : IsLed s new.view key c
  led = (still s from old new key (Confirmed c w) x a e c refl a.from.0, still_confirmed old new key c w x a.walks.at e ∙ a.from.1)

  pub matches : x ≡ key → Came s from new key (Matched c)
  matches z = on s from old new key (Confirmed c w) x a e (Matched c) (chosen x key (On key (Matched c)) (On key (Standing c w (cond (nat_lt key x) Left Right))) z) led

  pub passes : (next : Spot) → x ≢ key → Toward next.side key x → next.row ≡ c → next.stamp ≡ w → Passes s from new key c next
  passes next ne side row stamp = record {
    row = row;
    walks = then_loads from old new key (Confirmed c w) x (On key (stand next)) a.walks e (toward key x c w next.side ne side ∙ (λ i. On key (Standing (sym row i) (sym stamp i) next.side)));
    seen = ap (λ (k : Known). k.view.seen) e ∙ a.seen;
    led = led;
  }

-- and the last one
pub leads_last : (s : Spot) (from old new : Known) (key : ℕ) (t : Point) (x : ℕ) (h : List Entry) → Came s from old key t → Extends old.view h → Becomes old new (settled_at old.view h x) → HasAnswer old.view.way.reads x h → LeadsLast (Ends from new key) (Walks from new (at_top key)) t x
leads_last s from old new key (NoLink n v d) x h a more e tells = (
  λ z. ends_on from old new key (On key (NoLink n v d)) None a.walks (ends old new key (NoLink n v d) x h None a.walks.at more e (chosen x v Resting (at_top key) z) (answer_none key n v d x h old.view.way.reads a.walks.at tells z)),
  λ ne. walks_on from old new (On key (NoLink n v d)) (at_top key) a.walks (fails old new key (NoLink n v d) x h (at_top key) a.walks.at more e (other x v Resting (at_top key) ne)),
)
leads_last s from old new key (Matched c) x h a more e tells = ends_on from old new key (On key (Matched c)) (value_of x) a.walks (ends old new key (Matched c) x h (value_of x) a.walks.at more e refl (answer_some key c x h old.view.way.reads a.walks.at tells))
leads_last s from old new key elsewhere x h a more e tells = tt

-- whichever check failed
pub strayed : (old new : Known) (key : ℕ) → Strays old new key ⊎ Walks old new (at_top key) → Walks old new (at_top key)
strayed old new key (inl s) = s.walks
strayed old new key (inr w) = w
