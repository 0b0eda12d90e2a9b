-- The passes that a table begins with are at rest.
use Rattle.std.proofs.Common.{◌≡◌, refl, ℕ, zero, suc, List, [], ◌∷◌, All, sym, ◌∙◌}
use Rattle.snap_prelude.proofs.Common.{All-cons, All-nil}
use Rattle.std.proofs.lemmas.List.Elements.{All-append, All-same}
use Rattle.snap_bench.specs.Passes.{IsAtRest}
use Rattle.snap_prelude.specs.{first_passes, IsOpened, Known, Laid, newcomer}

abbrev known : Laid → ℕ → Known
known t n = record { table = t.table; view = newcomer t.rows t.passes n }

rests : (t : Laid) (n : ℕ) → IsAtRest t (known t n)
rests t n = ((refl, refl, refl), record { idle = refl; free = refl; whole = refl })

first_rest : (t : Laid) (n : ℕ) → All (IsAtRest t) (first_passes t.table t.rows t.passes n)
first_rest t zero = All-nil (IsAtRest t)
first_rest t (suc n) = All-append (IsAtRest t) (first_passes t.table t.rows t.passes n) (known t n ∷ []) (first_rest t n) (All-cons (IsAtRest t) (known t n) [] (rests t n) (All-nil (IsAtRest t)))

pub opened_rest : (t : Laid) (passes : List Known) (rows count : ℕ) → IsOpened t passes rows count → All (IsAtRest t) passes
opened_rest t passes rows count o = All-same (IsAtRest t) passes (first_passes t.table t.rows t.passes count) (o.all ∙ same) (first_rest t count)
  where
    same : first_passes t.table rows count count ≡ first_passes t.table t.rows t.passes count
    same = λ i. first_passes t.table (sym o.rows_are i) (sym o.passes_are i) count
