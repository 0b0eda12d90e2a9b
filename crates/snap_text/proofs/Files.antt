-- The pairs of a load file are few.
use Rattle.std.proofs.Common.{◌≡◌, ◌≤◌, ℕ, suc, Bool, true, false, cond, List, [], ◌∷◌, length, Option, Some, None, refl, ap, subst, arith}
use Rattle.std.specs.Prelude.{All, find, bytes_eq}
use Rattle.snap_model.specs.SortedMap.{Pairs}
use Rattle.snap_text.specs.Loads.{most_pairs}
use Rattle.snap_text.specs.LoadFiles.{Loads, HaveFewPairs, file_of, pairs_of}

abbrev or_else : {X : Type 0} → Option X → X → X
or_else None d = d
or_else (Some y) d = y

pub found : {X : Type 0} (P : X → Type 0) (test : X → Bool) (l : List X) (x : X) → All P l → find test l ≡ Some x → P x
found P test [] x all e = absurd cc
found {X} P test (f ∷ fs) x all e = go (test f) e (λ h. found P test fs x (λ k d l. all (suc k) d (omega (arith, l))) h)
  where
    go : (b : Bool) → cond b (Some f) (find test fs) ≡ Some x → (find test fs ≡ Some x → P x) → P x
    go true h r = subst P (ap (λ (o : Option X). or_else o f) h) (all 0 f (omega arith))
    go false h r = r h

abbrev in_file : Option (List ℕ × Pairs) → Pairs
in_file None = []
in_file (Some file) = file.1

pub few_pairs : (l : Loads) (name : List ℕ) → HaveFewPairs l → length (pairs_of l name) ≤ most_pairs
few_pairs l name all = go (file_of l name) refl
  where
    go : (o : Option (List ℕ × Pairs)) → file_of l name ≡ o → length (in_file o) ≤ most_pairs
    go None e = omega arith
    go (Some x) e = found (λ (f : List ℕ × Pairs). length f.1 ≤ most_pairs) (λ (f : List ℕ × Pairs). bytes_eq f.0 name) l x all e
