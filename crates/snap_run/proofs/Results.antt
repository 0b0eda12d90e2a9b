-- Facts of results, and of what was written before a failure.
use Rattle.std.proofs.Common.{ℕ, List, ◌++◌, Option, Some, None, inl, inr, Result, Ok, Err, IfOk, OnErr, OnOk}
use Rattle.snap_desk.proofs.Names.{among_left, among_right}
use Rattle.snap_io.specs.Prelude.{Puts}
use Rattle.snap_write.specs.{Outputs.IsUnwritten, declared.unwritten.Unwritten.Unwritten}
use Rattle.snap_run.specs.Worlds.{Tells}
use Rattle.snap_write.proofs.Causes.{unwritten_wider}

pub on_ok : {T E : Type 0} (r : Result T E) (P Q : Type 0) → (P → Q) → OnOk r P → OnOk r Q
on_ok (Ok x) P Q f h = f h
on_ok (Err e) P Q f h = tt

-- one of the first files, or one of the later ones, could not be written
pub stop_left : (xs ys : List (List ℕ)) (fault wider : Type 0) (w : Unwritten) → (fault → wider) → IsUnwritten xs fault w → IsUnwritten (xs ++ ys) wider w
stop_left xs ys fault wider w rises u = unwritten_wider xs (xs ++ ys) fault wider w (λ name is. among_left xs ys name is) rises u

pub stop_right : (xs ys : List (List ℕ)) (fault wider : Type 0) (w : Unwritten) → (fault → wider) → IsUnwritten ys fault w → IsUnwritten (xs ++ ys) wider w
stop_right xs ys fault wider w rises u = unwritten_wider ys (xs ++ ys) fault wider w (λ name is. among_right xs ys name is) rises u

-- a text that was put is told
pub told_by : {T E : Type 0} (before now : Option (List ℕ)) (text : List ℕ) (r : Result T E) (rose : Type 0) → Puts before now text r → OnErr r rose → Tells before now rose text
told_by None None text r rose puts failed = inl tt
told_by None (Some n) text r rose puts failed = absurd puts
told_by (Some b) None text r rose puts failed = absurd puts
told_by (Some b) (Some n) text (Ok x) rose puts failed = inl puts
told_by (Some b) (Some n) text (Err e) rose puts failed = inr (failed, record { part = puts.0; is = puts.1 })

pub both_ok : {T E : Type 0} (r : Result T E) (P Q R : T → Type 0) → ((x : T) → P x → Q x → R x) → IfOk r P → IfOk r Q → IfOk r R
both_ok (Ok x) P Q R f p q = f x p q
both_ok (Err e) P Q R f p q = tt
