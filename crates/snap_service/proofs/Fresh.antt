-- A session on a new kit has met no commands.
use Rattle.std.proofs.Common.{zero, suc, ◌≡◌, ℕ, false, List, [], ◌∷◌, length, Option, None, arith, refl, ap, sym, ◌∙◌, subst, replicate, slice_get, slice_index_or}
use Rattle.snap_fits.specs.Sessions.{Track}
use Rattle.snap_fits.proofs.Runs.{served_begins}
use Rattle.snap_prelude.specs.{Cloned, Known, Laid}
use Rattle.snap_service.specs.Prelude.{AreSeated, AreTables, course, FitsSlot, free_slots, HasServed, IsFresh}
use Rattle.snap_service.specs.Prelude.{IsWellFormed, kept, new_kit, new_session, SessionState, setting, Tables, track}

none_kept : (n i : ℕ) → kept (slice_index_or (replicate n None) i None) ≡ None
none_kept zero i = refl
none_kept (suc n) zero = refl
none_kept (suc n) (suc i) = none_kept n i

none_fits : (tables : Tables) (n i : ℕ) → FitsSlot tables (slice_index_or (replicate n None) i None)
none_fits tables zero i = tt
none_fits tables (suc n) zero = tt
none_fits tables (suc n) (suc i) = none_fits tables n i

places_free : (n : ℕ) → (let free : List (Option (ℕ × Cloned)) = replicate n None in length free ≡ n)
places_free zero = refl
places_free (suc n) = ap suc (places_free n)

pub well_opened : (tables : Tables) (kit : List Known) (clones : List (Option (ℕ × Cloned))) → AreTables tables → AreSeated tables kit → clones ≡ free_slots → (let s : SessionState = record { tables = tables; passes = kit; in_use = 0; clones = clones } in IsWellFormed s)
well_opened tables kit clones ok seated free = record {
  service = ok;
  seated = seated;
  a_table_in_use = omega (arith, ok.a_table, seated.a_pass_each);
  a_place_each = ap length free ∙ places_free 64;
  clones = λ i. subst (λ (cs : List (Option (ℕ × Cloned))). FitsSlot tables (slice_index_or cs i None)) (sym free) (none_fits tables 64 i);
}

abbrev pub new_track : ℕ → Track
new_track w = record { who = w; seen = []; mine = []; handed = 0; epochs = 0; cuts = []; worn = false }

new_at : (w : ℕ) (laid : List Laid) (t : ℕ) → track w (slice_get (new_kit laid w) t) ≡ new_track w
new_at w [] t = refl
new_at w (x ∷ xs) zero = refl
new_at w (x ∷ xs) (suc t) = new_at w xs t

pub fresh : (tables : Tables) (kit : List Known) (s : SessionState) → s ≡ new_session tables kit → IsFresh tables kit s
fresh tables kit s is loads w new =
    let e : s ≡ new_session tables (new_kit tables.laid w) = is ∙ ap (new_session tables) new in
    subst (λ (x : SessionState). HasServed loads w [] [] [] x) (sym e)
    (served_begins (setting tables loads) w (course w (new_session tables (new_kit tables.laid w))) (record {
      in_use = refl;
      who = λ t. ap (λ (x : Track). x.who) (new_at w tables.laid t);
      seen = λ t. ap (λ (x : Track). x.seen) (new_at w tables.laid t);
      mine = λ t. ap (λ (x : Track). x.mine) (new_at w tables.laid t);
      cuts = λ t. ap (λ (x : Track). x.cuts) (new_at w tables.laid t);
      clones = λ n. none_kept 64 n;
    }))
