-- Why a file could not be written.
use Rattle.std.specs.Prelude.{◌||◌, IsErrAnd, IfErr, bytes_eq}
use Rattle.std.proofs.Common.{◌≡◌, ◌⊎◌, ◌≤◌, ◌<◌, ℕ, Bool, true, false, List, [], ◌∷◌, get_or, length, Result, Ok, Err, inl, inr, refl, sym, ◌∙◌, ap, subst, arith}
use Rattle.std.proofs.lemmas.List.Folds.{list_any_at}
use Rattle.std.proofs.lemmas.Slice.Eq.{bytes_eq-Decides}
use Rattle.snap_io.specs.Causes.{Rose}
use Rattle.snap_write.specs.Outputs.{IsUnwritten, is_named}
use Rattle.snap_write.specs.declared.unwritten.Unwritten.{Unwritten}
use Rattle.snap_write.specs.declared.unwritten.Unwritten.TheVariants as why

pub rose_behind : (a b c : ℕ) → a ≤ b → Rose b c → Rose a c
rose_behind a b c later rose = omega arith

pub rose_before : (a b c : ℕ) → b ≤ c → Rose a b → Rose a c
rose_before a b c later rose = omega arith

pub same_name : (name : List ℕ) → bytes_eq name name ≡ true
same_name name = (bytes_eq-Decides name name).1 refl

-- one file, or another of the same list
pub unwritten_file : (file : List ℕ) (fault : Type 0) (w : Unwritten) → (w ≡ why.Memory) ⊎ (w ≡ why.File file) → fault → IsUnwritten (file ∷ []) fault w
unwritten_file file fault w (inl e) f = subst (IsUnwritten (file ∷ []) fault) (sym e) f
unwritten_file file fault w (inr e) f = subst (IsUnwritten (file ∷ []) fault) (sym e) (ap (λ b. b || false) (same_name file), f)

pub unwritten_wider : (names more : List (List ℕ)) (fault wider : Type 0) (w : Unwritten) → ((name : List ℕ) → is_named names name ≡ true → is_named more name ≡ true) → (fault → wider) → IsUnwritten names fault w → IsUnwritten more wider w
unwritten_wider names more fault wider why.Memory within rises u = rises u
unwritten_wider names more fault wider (why.File file) within rises u = (within file u.0, rises u.1)

-- a name that stands at a place of the list
one_at : (names : List (List ℕ)) (i : ℕ) (d x name : List ℕ) → i < length names → x ≡ get_or names i d → is_named (x ∷ []) name ≡ true → is_named names name ≡ true
one_at names i d x name within is one = list_any_at (λ known. bytes_eq known name) names i d within (ap (λ n. bytes_eq n name) (sym is) ∙ alone (bytes_eq x name) one)
  where
    alone : (b : Bool) → (b || false) ≡ true → b ≡ true
    alone true e = refl
    alone false e = absurd cc

pub unwritten_at : (names : List (List ℕ)) (i : ℕ) (d x : List ℕ) (a b c : ℕ) (w : Unwritten) → i < length names → x ≡ get_or names i d → a ≤ b → IsUnwritten (x ∷ []) (Rose b c) w → IsUnwritten names (Rose a c) w
unwritten_at names i d x a b c w within is later u = unwritten_wider (x ∷ []) names (Rose b c) (Rose a c) w (λ name one. one_at names i d x name within is one) (λ rose. rose_behind a b c later rose) u

pub if_err : {T E : Type 0} (r : Result T E) (P : E → Type 0) (x : E) → IsErrAnd r (λ e. e ≡ x) → P x → IfErr r P
if_err (Ok t) P x is p = tt
if_err (Err e) P x is p = subst P (sym is) p
