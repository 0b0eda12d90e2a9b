-- A call that failed and changed no file meets what a shelf promises after a failure.
use Rattle.std.proofs.Common.{◌≡◌, ℕ, List, Option, Some, None, Err, ap, sym, ◌∙◌, inl}
use Rattle.std.proofs.lemmas.List.{append-nil}
use Rattle.snap_io.specs.Shelves.{Appends, Creates, Files, GrowsBy}
use Rattle.snap_io.specs.declared.failed.Failed.{Failed}

pub failed_create : (name : List ℕ) (old new : Files) (e : Failed) → new ≡ old → Creates {T = Unit {0}} name (Err e) old new
failed_create name old new e same = ((λ other _. ap (λ f. f other) same), inl (ap (λ f. f name) same))

not_grown : (bytes : List ℕ) (e : Failed) (old new : Option (List ℕ)) → new ≡ old → GrowsBy {T = Unit {0}} bytes (Err e) old new
not_grown bytes e None new same = same
not_grown bytes e (Some held) new same = (0, same ∙ ap Some (sym (append-nil held)))

pub failed_append : (name bytes : List ℕ) (old new : Files) (e : Failed) → new ≡ old → Appends {T = Unit {0}} name bytes (Err e) old new
failed_append name bytes old new e same =
    ((λ other _. ap (λ f. f other) same), not_grown bytes e (old name) (new name) (ap (λ f. f name) same))
