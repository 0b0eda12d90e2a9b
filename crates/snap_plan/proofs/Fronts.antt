-- Reading a file piece by piece.
use Rattle.std.proofs.Common.{◌≡◌, ◌<◌, ◌≤◌, ◌+◌, ℕ, List, [], ◌++◌, length, take, drop, Option, Some, None, Ok, refl, sym, ◌∙◌, ap, inl, inr, length-append, length-drop, arith}
use Rattle.std.proofs.Math.Seq.{take-add}
use Rattle.std.proofs.lemmas.List.{length-take-le, take_all}
use Rattle.snap_io.specs.declared.failed.Failed.{Failed}
use Rattle.snap_io.specs.Shelves.{Files, OfFile, Gives, ReadsFrom, Sizes}
use Rattle.snap_plan.specs.Reading.{IsFrontOf, IsFront, IsWhole}

-- nothing is the front of a file of which the size was told
pub front_empty : (files : Option Files) (name : List ℕ) (size : ℕ) → Sizes {E = Failed} files name (Ok size) → IsFront files name []
front_empty None name size sizes = tt
front_empty (Some f) name size sizes = of_file (f name) sizes
  where
    of_file : (file : Option (List ℕ)) → OfFile file (λ bytes. size ≡ length bytes) → OfFile file (λ bytes. IsFrontOf bytes [])
    of_file None h = h
    of_file (Some bytes) h = (refl, omega arith)

-- a front as long as the told size is the whole
pub front_whole : (files : Option Files) (name bytes : List ℕ) (size : ℕ) → Sizes {E = Failed} files name (Ok size) → IsFront files name bytes → size ≤ length bytes → IsWhole files name bytes
front_whole None name bytes size sizes front long = tt
front_whole (Some f) name bytes size sizes front long = of_file (f name) sizes front
  where
    of_file : (file : Option (List ℕ)) → OfFile file (λ b. size ≡ length b) → OfFile file (λ b. IsFrontOf b bytes) → file ≡ Some bytes
    of_file None h front = absurd h
    of_file (Some file) h front = ap Some (sym (front.0 ∙ take_all (length bytes) file (omega (arith, h, long))))

-- a piece that was read behind a front makes a longer front
pub front_grows : (files : Option Files) (name bytes into : List ℕ) (n : ℕ) → IsFront files name bytes → ReadsFrom {E = Failed} files name (length bytes) (Ok n) into → IsFront files name (bytes ++ take n into)
front_grows None name bytes into n front reads = tt
front_grows (Some f) name bytes into n front reads = of_file (f name) front reads
  where
    of_file : (file : Option (List ℕ)) → OfFile file (λ b. IsFrontOf b bytes) → OfFile file (λ b. Gives b (length bytes) n into) → OfFile file (λ b. IsFrontOf b (bytes ++ take n into))
    of_file None front reads = front
    of_file (Some file) front reads =
        let got : length (take n into) ≡ n = ap length reads.0 ∙ length-take-le n (drop (length bytes) file) reads.1 in
        let both : length (bytes ++ take n into) ≡ length bytes + n = length-append bytes (take n into) ∙ ap (λ k. length bytes + k) got in
        let behind = length-drop (length bytes) file in (
          (ap (λ (l : List ℕ). l ++ take n into) front.0 ∙ ap (λ (l : List ℕ). take (length bytes) file ++ l) reads.0 ∙ sym (take-add (length bytes) n file)) ∙ ap (λ k. take k file) (sym both),
          omega (arith, both, behind, reads.1, front.1),
        )

-- where a read into a piece with room gave nothing, the front is the whole
pub front_ends : (files : Option Files) (name bytes into : List ℕ) → IsFront files name bytes → ReadsFrom {E = Failed} files name (length bytes) (Ok 0) into → 0 < length into → IsWhole files name bytes
front_ends None name bytes into front reads room = tt
front_ends (Some f) name bytes into front reads room = of_file (f name) front reads
  where
    of_file : (file : Option (List ℕ)) → OfFile file (λ b. IsFrontOf b bytes) → OfFile file (λ b. Gives b (length bytes) 0 into) → file ≡ Some bytes
    of_file None front reads = absurd front
    of_file (Some file) front reads = elim (reads.2 refl) [
      | inl none ↦ absurd (omega (arith, none, room))
      | inr end ↦ ap Some (sym (front.0 ∙ take_all (length bytes) file end))
    ]
