-- The files of a run, from what the workers handed over.
use Rattle.std.specs.Global.{Global}
use Rattle.snap_prelude.proofs.Common.{option_or, option_to_list}
use Rattle.std.proofs.Common.{zero, suc, ◌≡◌, ◌<◌, ℕ, Bool, true, false, List, [], ◌∷◌, ◌++◌, Option, Some, None, length, get_or, refl, ◌∙◌, ap, subst, arith, cond, Vec, bytes_eq, is_some}
use Rattle.snap_fits.specs.Fits.{Front}
use Rattle.snap_io.specs.Prelude.{Changes, Files, IfTold}
use Rattle.snap_crew.specs.Prelude.{AreBlank, IsTextIf}
use Rattle.snap_write.specs.Outputs.{HasBegun, HasWritten, Outputs, blank, names_of, text_for}
use Rattle.snap_write.proofs.Causes.{same_name}
use Rattle.snap_write.proofs.Written.{after_written, begun_after, begun_more, changes_after, changes_as, names_of-append}
use Rattle.snap_run.specs.Files.{last_file, last_in}
use Rattle.snap_run.proofs.{Pairs.Differ, Pairs.differ_apart, Pairs.differ_left, Pairs.differ_right}

-- files that were made are empty
blank_text : (names : List (List ℕ)) (i : ℕ) (d : List ℕ) → i < length names → text_for (blank names) (get_or names i d) ≡ Some []
blank_text [] i d l = absurd (omega (arith, l))
blank_text (n ∷ names) zero d l = same (bytes_eq n n) (same_name n)
  where
    same : (b : Bool) → b ≡ true → cond b (Some []) (text_for (blank names) n) ≡ Some []
    same true e = refl
    same false e = absurd cc
blank_text (n ∷ names) (suc i) d l = either (bytes_eq n (get_or names i d)) (blank_text names i d (omega (arith, l)))
  where
    either : (b : Bool) → text_for (blank names) (get_or names i d) ≡ Some [] → cond b (Some []) (text_for (blank names) (get_or names i d)) ≡ Some []
    either true h = refl
    either false h = h

pub made_blank : (names : List (List ℕ)) (old new : Option Files) → Changes old new (HasWritten (blank names)) → IfTold new (AreBlank names)
made_blank names None None made = tt
made_blank names None (Some g) made = absurd made
made_blank names (Some f) None made = absurd made
made_blank names (Some f) (Some g) made = λ i d l. made (get_or names i d) ∙ ap (λ o. option_or o (f (get_or names i d))) (blank_text names i d l)

-- files of two lists, one after the other
module _ (xs ys : Outputs) (all : Differ (names_of (xs ++ ys))) where
  both : Differ (names_of xs ++ names_of ys)
  both = subst (λ (ns : List (List ℕ)). Differ ns) (names_of-append xs ys) all

  pub left_differ : Differ (names_of xs)
  left_differ = differ_left (names_of xs) (names_of ys) both

  pub right_differ : Differ (names_of ys)
  right_differ = differ_right (names_of xs) (names_of ys) both

  pub both_written : (old mid new : Option Files) → Changes old mid (HasWritten xs) → Changes mid new (HasWritten ys) → Changes old new (HasWritten (xs ++ ys))
  both_written old mid new a b = changes_after (HasWritten xs) (HasWritten ys) (HasWritten (xs ++ ys)) (λ f g h. after_written xs ys f g h (differ_apart xs ys both)) old mid new a b

  pub second_begun : (old mid new : Option Files) → Changes old mid (HasWritten xs) → Changes mid new (HasBegun ys) → Changes old new (HasBegun (xs ++ ys))
  second_begun old mid new a b = changes_after (HasWritten xs) (HasBegun ys) (HasBegun (xs ++ ys)) (λ f g h. begun_after xs ys f g h (differ_apart xs ys both)) old mid new a b

  pub first_begun : (old new : Option Files) → Changes old new (HasBegun xs) → Changes old new (HasBegun (xs ++ ys))
  first_begun old new a = changes_as (HasBegun xs) (HasBegun (xs ++ ys)) (λ f g. begun_more xs ys f g) old new a

-- the final file
pub last_is : (last : Option (List ℕ)) (text : Option (Vec ℕ Global)) (front : Front) → IsTextIf (is_some last) text front → last_in last text ≡ last_file last front
last_is None None front h = refl
last_is None (Some text) front h = refl
last_is (Some name) None front h = absurd h
last_is (Some name) (Some text) front h = ap (λ (t : List ℕ). (name, t) ∷ []) h

pub last_names : (last : Option (List ℕ)) (front : Front) → names_of (last_file last front) ≡ option_to_list last
last_names None front = refl
last_names (Some name) front = refl
