-- The greatest notes.
use Rattle.std.proofs.Common.{◌≡◌, ◌≤◌, ◌<◌, eqb, ℕ, zero, suc, cond, Bool, true, false, List, [], ◌∷◌, inl, inr, refl, ap, subst, arith, le-ltb, nat_lt}
use Rattle.snap_prelude.specs.{all_epochs, all_handed, Done, Epoch, epochs_after}
use Rattle.snap_prelude.specs.{Gate, handed_after, In, Next, Trouble, WordNote}
use Rattle.snap_steps.specs.declared.view.WordNote.TheVariants.{Left, Birth}
use Rattle.snap_update.specs.Answers.{is_older, older_births}

one_handed : (h : ℕ) (n : WordNote) → h ≤ handed_after h n
one_handed h (Next n) = omega arith
one_handed h (Gate g) = omega arith
one_handed h (Left a) = omega arith
one_handed h (Done d) = omega arith
one_handed h (Epoch e) = omega arith
one_handed h (Birth k b) = omega arith
one_handed h Trouble = omega arith

one_epochs : (h : ℕ) (n : WordNote) → h ≤ epochs_after h n
one_epochs h (Next n) = omega arith
one_epochs h (Gate g) = omega arith
one_epochs h (Left a) = omega arith
one_epochs h (Done d) = omega arith
one_epochs h (Epoch e) = omega arith
one_epochs h (Birth k b) = omega arith
one_epochs h Trouble = omega arith

pub handed_grows : (h : ℕ) (more : List WordNote) → h ≤ all_handed h more
handed_grows h [] = omega arith
handed_grows h (n ∷ ns) = omega (arith, one_handed h n, handed_grows (handed_after h n) ns)

pub epochs_grow : (h : ℕ) (more : List WordNote) → h ≤ all_epochs h more
epochs_grow h [] = omega arith
epochs_grow h (n ∷ ns) = omega (arith, one_epochs h n, epochs_grow (epochs_after h n) ns)

pub in_handed : (h x : ℕ) (more : List WordNote) → In (Next x) more → x ≤ all_handed h more
in_handed h x [] i = absurd i
in_handed h x (n ∷ ns) (inl e) = let s : x ≤ handed_after h n = subst (λ (m : WordNote). x ≤ handed_after h m) e (omega arith) in omega (arith, s, handed_grows (handed_after h n) ns)
in_handed h x (n ∷ ns) (inr i) = in_handed (handed_after h n) x ns i

pub in_epochs : (h x : ℕ) (more : List WordNote) → In (Epoch x) more → x ≤ all_epochs h more
in_epochs h x [] i = absurd i
in_epochs h x (n ∷ ns) (inl e) = let s : x ≤ epochs_after h n = subst (λ (m : WordNote). x ≤ epochs_after h m) e (omega arith) in omega (arith, s, epochs_grow (epochs_after h n) ns)
in_epochs h x (n ∷ ns) (inr i) = in_epochs (epochs_after h n) x ns i

abbrev chosen : Bool → Bool → ℕ
chosen s t = cond s (cond t 1 0) 0

-- no birth is older than the first epoch
none_older : (k : ℕ) (n : WordNote) → is_older k 0 n ≡ 0
none_older k (Birth j b) = either (eqb j k) (nat_lt b 0) (le-ltb b 0 (omega arith))
  where
    either : (s t : Bool) → t ≡ false → chosen s t ≡ 0
    either true t e = ap (λ (x : Bool). chosen true x) e
    either false t e = refl
none_older k (Next n) = refl
none_older k (Gate g) = refl
none_older k (Left a) = refl
none_older k (Done d) = refl
none_older k (Epoch e) = refl
none_older k Trouble = refl

none_older_all : (k : ℕ) (more : List WordNote) → older_births k 0 more ≡ 0
none_older_all k [] = refl
none_older_all k (n ∷ ns) = omega (arith, none_older k n, none_older_all k ns)

pub some_epoch : (k e n : ℕ) (more : List WordNote) → n < older_births k e more → 0 < e
some_epoch k zero n more h = absurd (omega (arith, h, none_older_all k more))
some_epoch k (suc e) n more h = omega arith
