-- What a pass keeps of what it knew, over loads and stores in its own rows.
use Rattle.std.proofs.Common.{Option, Some, None, ⊎_elim, ◌≡◌, ◌⊎◌, inl, inr, ℕ, Bool, true, false, cond, ◌||◌, ap, nat_lt, List, [], ◌∷◌, ◌++◌, refl, sym, ◌∙◌, subst, arith}
use Rattle.snap_copy.specs.Filling.{Keeps}
use Rattle.snap_search.proofs.{Walking.times-append, Working.grows_on, Working.grows_same, Working.with_more}
use Rattle.snap_prelude.specs.{all_noted, AllAre, Among, Birth, ChildHeight, drew, epoch_noted}
use Rattle.snap_prelude.specs.{fact, Field, Grows, HasHeight, is_last, IsAbove, IsBelow, IsBorn}
use Rattle.snap_prelude.specs.{IsCopyPlace, IsKnown, IsOlder, IsTilt, Leans, learnt, led_to}
use Rattle.snap_prelude.specs.{link_field, own_word_stored, read, Side, Stamp, times, View, WordNote}

pub keeps_on : (u v w : View) → Keeps u v → Keeps v w → Keeps u w
keeps_on u v w a b = record {
  stage = b.stage ∙ a.stage;
  holds = b.holds ∙ a.holds;
  heights = b.heights ∙ a.heights;
  place = b.place ∙ a.place;
  copies = b.copies ∙ a.copies;
  knows = λ r f x h. b.knows r f x (a.knows r f x h);
  reached = λ r. omega (arith, a.reached r, b.reached r);
  present = λ e h. b.present e (a.present e h);
  lasting = λ r f x h. b.lasting r f x (a.lasting r f x h);
  worn = λ h. b.worn (a.worn h);
  refused = grows_on u.words.refused v.words.refused w.words.refused a.refused b.refused;
}

more_known : (v : View) (r : ℕ) (f : Field) (x q : ℕ) (g : Field) (y : ℕ) → IsKnown v.words.knows q g y → IsKnown (read v r f x).words.knows q g y
more_known v r f x q g y h = go (nat_lt 0 (times r v.holds))
  where
    go : (b : Bool) → IsKnown (cond b (fact r f x ∷ v.words.knows) v.words.knows) q g y
    go true = inr h
    go false = h

read_grows : (v : View) (r : ℕ) (f : Field) (x : ℕ) → Grows v.words.refused (read v r f x).words.refused
read_grows v r f x = go (is_last f x)
  where
    go : (b : Bool) → Grows v.words.refused (cond b (v.words.refused ++ fact r f x ∷ []) v.words.refused)
    go true = (fact r f x ∷ [], refl)
    go false = grows_same v.words.refused v.words.refused refl

pub read_keeps : (v : View) (r : ℕ) (f : Field) (x : ℕ) → Keeps v (read v r f x)
read_keeps v r f x = record { stage = refl; holds = refl; heights = refl; place = refl; copies = refl; knows = more_known v r f x; reached = λ n. omega (arith, times-append n v.trail.reached (led_to v r f x)); present = λ e h. h; lasting = λ q g y h. h; worn = λ h. ap (λ (b : Bool). b || is_last f x) h; refused = read_grows v r f x }

pub learnt_keeps : (v : View) (r : ℕ) (f : Field) (x : ℕ) → Keeps v (learnt v r f x)
learnt_keeps v r f x = record { stage = refl; holds = refl; heights = refl; place = refl; copies = refl; knows = more_known v r f x; reached = λ n. omega (arith, times-append n v.trail.reached (led_to v r f x)); present = λ e h. h; lasting = λ q g y h. inr h; worn = λ h. ap (λ (b : Bool). b || is_last f x) h; refused = read_grows v r f x }

pub epoch_keeps : (v : View) (e : ℕ) → Keeps v (epoch_noted v e)
epoch_keeps v e = record { stage = refl; holds = refl; heights = refl; place = refl; copies = refl; knows = λ q g y h. h; reached = λ n. omega arith; present = λ x h. with_more v.stage e x v.words.present h; lasting = λ q g y h. h; worn = λ h. h; refused = grows_same v.words.refused v.words.refused refl }

pub stored_keeps : (v : View) (r : ℕ) (f : Field) (x : ℕ) → Keeps v (own_word_stored v r f x)
stored_keeps v r f x = record { stage = refl; holds = refl; heights = refl; place = refl; copies = refl; knows = λ q g y h. h; reached = λ n. omega arith; present = λ e h. h; lasting = λ q g y h. h; worn = λ h. h; refused = grows_same v.words.refused v.words.refused refl }

pub drew_keeps : (v : View) (l : List WordNote) (r : ℕ) → Keeps v (drew (all_noted v l) r)
drew_keeps v l r = record { stage = refl; holds = refl; heights = refl; place = refl; copies = refl; knows = λ q g y h. h; reached = λ n. omega arith; present = λ e h. h; lasting = λ q g y h. h; worn = λ h. h; refused = grows_same v.words.refused v.words.refused refl }

pub noted_keeps : (v : View) (l : List WordNote) → Keeps v (all_noted v l)
noted_keeps v l = record { stage = refl; holds = refl; heights = refl; place = refl; copies = refl; knows = λ q g y h. h; reached = λ n. omega arith; present = λ e h. h; lasting = λ q g y h. h; worn = λ h. h; refused = grows_same v.words.refused v.words.refused refl }

pub older_still : (v w : View) (r : ℕ) → Keeps v w → IsOlder v r → IsOlder w r
older_still v w r k h = record { birth = h.birth; is_birth = k.lasting r Birth h.birth h.is_birth; epoch = h.epoch; now = k.present h.epoch h.now; older = h.older }

born_still : (v w : View) (r : ℕ) → Keeps v w → IsBorn v r → IsBorn w r
born_still v w r k h = record { birth = h.birth; is_birth = k.knows r Birth h.birth h.is_birth; now = k.present h.birth h.now; stamp = h.stamp; is_stamp = k.knows r Stamp h.stamp h.is_stamp; unmarked = h.unmarked }

above_still : (v w : View) (key parent : ℕ) (side : Side) (child : ℕ) → Keeps v w → IsAbove v key parent side child → IsAbove w key parent side child
above_still v w key parent side child k h = record {
  held = subst (Among parent) (sym k.holds) h.held;
  stamp = h.stamp;
  place = k.place ∙ h.place;
  still = k.knows parent Stamp h.stamp h.still;
  child_is = k.knows parent _ child h.child_is;
  live = lives h.live;
  one_key = subst (AllAre key) (sym k.copies) h.one_key;
}
  where
    lives : ((parent ≡ 0) × (side ≡ Side.Right)) ⊎ ((Among parent v.trail.reached) × IsBorn v parent) → ((parent ≡ 0) × (side ≡ Side.Right)) ⊎ ((Among parent w.trail.reached) × IsBorn w parent)
    lives (inl z) = inl z
    lives (inr l) = inr (omega (arith, l.0, k.reached parent), born_still v w parent k l.1)

height_still : (v w : View) (r : ℕ) (d : Side) (x : ℕ) → Keeps v w → HasHeight v r d x → HasHeight w r d x
height_still v w r d x k h = ⊎_elim (λ z. inl (k.knows r (link_field d) 0 z.0, z.1)) (λ z. inr (subst (λ (l : List ChildHeight). IsBelow l r d x) (sym k.heights) z)) h

leans_still : (v w : View) (upper : ℕ) (d : Side) → Keeps v w → Leans v upper d → Leans w upper d
leans_still v w upper d k h = record {
  held = subst (Among upper) (sym k.holds) h.held;
  high = h.high;
  low = h.low;
  is_high = height_still v w upper d h.high k h.is_high;
  is_low = height_still v w upper _ h.low k h.is_low;
  tilts = h.tilts;
}

tilt_still : (v w : View) (upper parent : ℕ) (side : Side) → Keeps v w → IsTilt v upper parent side → IsTilt w upper parent side
tilt_still v w upper parent side k h = record {
  higher = h.higher;
  leans = leans_still v w upper h.higher k h.leans;
  at = ⊎_elim (λ z. inl z) (λ z. inr (k.knows upper (link_field h.higher) parent z.0, z.1)) h.at;
  child = h.child;
  some_child = h.some_child;
  leads = k.knows parent (link_field side) h.child h.leads;
}

-- either place
pub place_still : (v w : View) (key : Option ℕ) (parent : ℕ) (side : Side) (child : ℕ) → Keeps v w → IsCopyPlace v key parent side child → IsCopyPlace w key parent side child
place_still v w (Some key) parent side child k h = (k.stage ∙ h.0, above_still v w key parent side child k h.1)
place_still v w None parent side child k h = record {
  held = subst (Among parent) (sym k.holds) h.held;
  live = (omega (arith, h.live.0, k.reached parent), born_still v w parent k h.live.1);
  child_is = k.knows parent (link_field side) child h.child_is;
  upper = h.upper;
  tilt = tilt_still v w h.upper parent side k h.tilt;
}
