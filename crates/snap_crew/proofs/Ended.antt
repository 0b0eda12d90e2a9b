-- The end of a run, by the workers' receipts.
use Rattle.std.proofs.Common.{◌≡◌, ◌<◌, ◌+◌, ◌-◌, ℕ, Bool, List, length, Result, Ok, Err, sym, subst, arith, IfOk, slice_index_or}
use Rattle.snap_prelude.specs.{Known}
use Rattle.snap_service.specs.Prelude.{Admits, AreSeated, fronts_of, Tables}
use Rattle.snap_crew.specs.Prelude.{AreWorkers, Ending, IsEnd, IsEnding, IsTextIf}

module _ (tables : Tables) (kit : List Known) (receipts : List (List Known)) (last wanted : Bool) (same : last ≡ wanted) where
  pub is_end : (ending : Ending) → tables.kits ≡ length receipts + 1 → ((i : ℕ) (d : List Known) → i < length receipts → AreSeated tables (slice_index_or receipts i d))
      → ((i : ℕ) (d : List Known) → i < length receipts → Admits kit (slice_index_or receipts i d)) → IsEnding tables kit wanted ending → IsEnd tables receipts last ending
  is_end ending kits seated admits h = record {
    fits = λ w d l. h.fits w (slice_index_or receipts w d) (seated w d l) (admits w d l);
    workers = subst (λ (n : ℕ). AreWorkers n last ending.fronts) (omega (arith, kits)) (subst (λ (b : Bool). AreWorkers (tables.kits - 1) b ending.fronts) (sym same) h.workers);
    closed = h.closed;
    text = subst (λ (b : Bool). IsTextIf b ending.last (fronts_of ending.fronts 0)) (sym same) h.text;
  }

  pub if_ended : {E : Type 0} (r : Result Ending E) → tables.kits ≡ length receipts + 1 → ((i : ℕ) (d : List Known) → i < length receipts → AreSeated tables (slice_index_or receipts i d))
      → ((i : ℕ) (d : List Known) → i < length receipts → Admits kit (slice_index_or receipts i d)) → IfOk r (IsEnding tables kit wanted) → IfOk r (IsEnd tables receipts last)
  if_ended (Ok ending) kits seated admits h = is_end ending kits seated admits h
  if_ended (Err e) kits seated admits h = tt
