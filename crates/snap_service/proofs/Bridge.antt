-- From what a session's command does, by the promises of the tables' calls, to what counts of it.
use Rattle.std.proofs.Common.{zero, suc, ◌≡◌, ◌≢◌, ◌<◌, ◌≤◌, ◌-◌, ◌^◌, ℕ, true, false, true≢false, List, [], ◌∷◌, ◌++◌, length, Option, Some, None, get_or, inl, inr, refl, ap, sym, ◌∙◌, subst, arith, slice_get, slice_set, slice_index_or, unwrap_or, IsSome, take, min, ◌⊎◌}
use Rattle.snap_prelude.proofs.Common.{get_or-set_other, get_or-set_same, slice_get-get_or}
use Rattle.snap_fits.specs.Fits.{Setting, TellsDepth, put_reply, remove_reply, value_reply, pair_reply}
use Rattle.snap_fits.specs.Sessions.{Track, Served, exported}
use Rattle.snap_fits.specs.Steps as steps
use Rattle.snap_fits.proofs.Runs.{served_goes_on}
use Rattle.snap_prelude.specs.{after, at, Call, ceiling, Cloned, Command, count, first_pair, floor, higher, image}
use Rattle.snap_prelude.specs.{IsSettledTree, Known, last_pair, lower, Pairs, Put, Remove, Reply, TakesBack}
use Rattle.snap_view.specs.{Balances.TellsBalance, declared.balance.Settled.Settled}
use Rattle.snap_view.specs.declared.balance.Settled.TheVariants.{Yes, RowsOut, StampOut}
use Rattle.snap_service.specs.Prelude.{CanRun, clone_at, course, FitsSlot, is_yes, IsWellFormed, kept, kept_of}
use Rattle.snap_service.specs.Prelude.{LoadsPairs, map_in, Measured, Measures, nobody, pass_at, pass_in_use, Serves}
use Rattle.snap_service.specs.Prelude.{ServesOn, SessionState, setting, table_place, track, track_of, with_pass}
use Rattle.snap_service.specs.Prelude.{with_pass_at, with_slot, Wrote}
use Rattle.snap_text.specs.LoadFiles.{Loads, pairs_of}
use Rattle.snap_service.proofs.Tracks.{cut, learnt, put_all, read, refused, worn_learnt, wrote}

get_set_other : {X : Type 0} (xs : List X) (i j : ℕ) (x : X) → j ≢ i → slice_get (slice_set xs i x) j ≡ slice_get xs j
get_set_other [] i j x n = refl
get_set_other (y ∷ xs) zero zero x n = absurd (n refl)
get_set_other (y ∷ xs) zero (suc j) x n = refl
get_set_other (y ∷ xs) (suc i) zero x n = refl
get_set_other (y ∷ xs) (suc i) (suc j) x n = get_set_other xs i j x (λ e. n (ap suc e))

get_set_same : {X : Type 0} (xs : List X) (i : ℕ) (x : X) → i < length xs → slice_get (slice_set xs i x) i ≡ Some x
get_set_same [] i x l = absurd (omega (arith, l))
get_set_same (y ∷ xs) zero x l = refl
get_set_same (y ∷ xs) (suc i) x l = get_set_same xs i x (omega (arith, l))

module _ (w : ℕ) (a : SessionState) (place : ℕ) (pass : Known) (within : place < length a.passes) where
  here_old : (course w a).passes place ≡ track_of (pass_at a.passes place)
  here_old = ap (track w) (slice_get-get_or a.passes place nobody within)

  here_new : (course w (with_pass_at a place pass)).passes place ≡ track_of pass
  here_new = ap (track w) (get_set_same a.passes place pass within)

  there : (t : ℕ) → t ≢ place → (course w (with_pass_at a place pass)).passes t ≡ (course w a).passes t
  there t n = ap (track w) (get_set_other a.passes place t pass n)

  here : (P : Track → Track → Type 0) → P (track_of (pass_at a.passes place)) (track_of pass) → P ((course w a).passes place) ((course w (with_pass_at a place pass)).passes place)
  here P h = subst (λ (x : Track). P x ((course w (with_pass_at a place pass)).passes place)) (sym here_old) (subst (λ (x : Track). P (track_of (pass_at a.passes place)) x) (sym here_new) h)

on_pass : (w : ℕ) (a : SessionState) (pass : Known) → a.in_use < length a.passes → (P : Track → Track → Type 0) → P (track_of (pass_in_use a)) (track_of pass) → steps.OnPass (course w a) (course w (with_pass a pass)) P
on_pass w a pass within P h = record { here = here w a a.in_use pass within P h; others = there w a a.in_use pass within; in_use = refl }

-- the depth of a clone
is_settled : (old new : Cloned) (balance : Settled) → TellsBalance old new balance → is_yes balance ≡ true → IsSettledTree (image old)
is_settled old new Yes t e = t.0
is_settled old new (RowsOut rows) t e = absurd (true≢false (sym e))
is_settled old new (StampOut row) t e = absurd (true≢false (sym e))

why_not : (rows : ℕ) (old new : Cloned) (p k : Known) (balance : Settled) → old.rows ≡ rows → TellsBalance old new balance → TakesBack p k new → is_yes balance ≡ false → (rows ≤ old.next) ⊎ (k.view.noted.worn ≡ true)
why_not rows old new p k Yes is t back e = absurd (true≢false e)
why_not rows old new p k (RowsOut n) is t back e = inl (let all = t.1 in omega (arith, all, is))
why_not rows old new p k (StampOut row) is t back e = inr (worn_learnt p k new back (ap (λ (c : Cloned). c.worn) t.4))

deep_told : (s : Setting) (live : ℕ × Cloned) (asked : Cloned) (old pass : Known) (r : Reply) → live.1.rows ≡ s.rows → Measures live.1 asked r → TakesBack old pass asked → TellsDepth r (length (after live.1.base)) (steps.Deep s (kept_of live) (track_of pass))
deep_told s live asked old pass r rows m back = (
  m.deep,
  is_yes m.balance,
  m.reply,
  record {
    can = record { many = m.many; shallow = λ e. m.shallow (is_settled live.1 asked m.balance m.tells e) };
    low = m.low;
    cause = why_not s.rows live.1 asked old pass m.balance rows m.tells back;
  },
)

measured_step : (w : ℕ) (loads : Loads) (a b : SessionState) (c : Option (ℕ × Cloned)) (r : Reply) → IsWellFormed a → FitsSlot a.tables c → Measured c a r b → steps.DepthAnswers (setting a.tables loads) (course w a) (kept c) r (course w b) × steps.SameClones (course w a) (course w b)
measured_step w loads a b None r ok fits h = absurd h
measured_step w loads a b (Some live) r ok fits h =
    let within : live.0 < length a.passes = omega (arith, fits.within, ok.seated.a_pass_each) in
    let rows : live.1.rows ≡ a.tables.rows = fits.at.1 ∙ ok.service.rows_are live.0 fits.within in
    let new : SessionState = with_pass_at a live.0 h.1 in
    let told : TellsDepth r (length (after live.1.base)) (steps.Deep (setting a.tables loads) (kept_of live) (track_of h.1)) = deep_told (setting a.tables loads) live h.0 (pass_at a.passes live.0) h.1 r rows h.3 h.4 in
    subst (λ (s : SessionState). steps.DepthAnswers (setting a.tables loads) (course w a) (kept (Some live)) r (course w s) × steps.SameClones (course w a) (course w s)) (sym h.2) (
      (
        record { here = here w a live.0 h.1 within steps.Learns (learnt (pass_at a.passes live.0) h.1 h.0 h.4); others = there w a live.0 h.1 within; in_use = refl },
        subst (λ (x : Track). TellsDepth r (length (after live.1.base)) (steps.Deep (setting a.tables loads) (kept_of live) x)) (sym (here_new w a live.0 h.1 within)) told,
      ),
      λ n. refl,
    )

wrote_step : (rows : ℕ) (call : Call) (reply_of : Option ℕ → Reply) (old new : Known) (r : Reply) → Wrote rows call reply_of old r new → steps.WriteAnswers rows call reply_of r (track_of old) (track_of new)
wrote_step rows call reply_of old new r (inl h) = inl (h.0, h.1, wrote old new call h.0 h.2)
wrote_step rows call reply_of old new r (inr h) = inr (h.0, refused rows old new call h.1)

loaded_step : (rows : ℕ) (pairs : Pairs) (old new : Known) (r : Reply) → LoadsPairs rows pairs old r new → steps.LoadAnswers rows pairs r (track_of old) (track_of new)
loaded_step rows pairs old new r (inl h) = inl (h.0, put_all old pairs new h.1)
loaded_step rows pairs old new r (inr h) = inr (h.0, h.1, h.2, h.3, track_of h.4, put_all old (take h.0 pairs) h.4 h.5, refused rows h.4 new (Put h.1.0 h.1.1) h.6)

asked : (c : Option (ℕ × Cloned)) (P : Pairs → Type 0) → IsSome c → P (map_in c) → steps.OfKept (kept c) P
asked None P s h = absurd cc
asked (Some live) P s h = h

same : (w : ℕ) (a b : SessionState) → b ≡ a → steps.Same (course w a) (course w b)
same w a b e = record {
  passes = λ t. ap (λ (s : SessionState). (course w s).passes t) e;
  in_use = ap (λ (s : SessionState). s.in_use) e;
  clones = λ n. ap (λ (s : SessionState). (course w s).clones n) e;
}

slot_set : (w : ℕ) (a b : SessionState) (slot : ℕ) (c : Option (ℕ × Cloned)) → slot < length a.clones → (let clones : List (Option (ℕ × Cloned)) = slice_set a.clones slot c in b.clones ≡ clones) → steps.OneClone (course w a) (course w b) slot (kept c)
slot_set w a b slot c l e = (
  ap (λ (cs : List (Option (ℕ × Cloned))). kept (slice_index_or cs slot None)) e ∙ ap kept (get_or-set_same a.clones slot c None l),
  λ i n. ap (λ (cs : List (Option (ℕ × Cloned))). kept (slice_index_or cs i None)) e ∙ ap kept (get_or-set_other a.clones slot i c None n),
)

used : (place : Option ℕ) (d : ℕ) → IsSome place → unwrap_or place d ≡ unwrap_or place 0
used None d h = absurd cc
used (Some t) d h = refl

pub taken_within : (s : SessionState) (slot : ℕ) → IsSome (clone_at s slot) → slot < length s.clones
taken_within s slot h = go s.clones slot h
  where
    go : (cs : List (Option (ℕ × Cloned))) (i : ℕ) → IsSome (get_or cs i None) → i < length cs
    go [] i h = absurd cc
    go (c ∷ cs) zero h = omega arith
    go (c ∷ cs) (suc i) h = let r = go cs i h in omega (arith, r)

pub stepped : (w : ℕ) (loads : Loads) (a b : SessionState) (c : Command) (r : Reply) → IsWellFormed a → CanRun a loads c → Serves loads a c r b → steps.Steps (setting a.tables loads) (course w a) c r (course w b)
stepped w loads a b (Command.Table name) r ok can h = (
  h.0,
  ap (λ (s : SessionState). s.in_use) h.1 ∙ used (table_place a.tables.names name) a.in_use can,
  λ t. ap (λ (s : SessionState). (course w s).passes t) h.1,
  λ n. ap (λ (s : SessionState). (course w s).clones n) h.1,
)
stepped w loads a b (Command.Put key value) r ok can h =
    subst (λ (s : SessionState). steps.Steps (setting a.tables loads) (course w a) (Command.Put key value) r (course w s)) (sym h.1)
    (on_pass w a h.0 ok.a_table_in_use (steps.WriteAnswers a.tables.rows (Put key value) put_reply r) (wrote_step a.tables.rows (Put key value) put_reply (pass_in_use a) h.0 r h.2), λ n. refl)
stepped w loads a b (Command.Remove key) r ok can h =
    subst (λ (s : SessionState). steps.Steps (setting a.tables loads) (course w a) (Command.Remove key) r (course w s)) (sym h.1)
    (on_pass w a h.0 ok.a_table_in_use (steps.WriteAnswers a.tables.rows (Remove key) remove_reply r) (wrote_step a.tables.rows (Remove key) remove_reply (pass_in_use a) h.0 r h.2), λ n. refl)
stepped w loads a b (Command.Get key) r ok can h =
    subst (λ (s : SessionState). steps.Steps (setting a.tables loads) (course w a) (Command.Get key) r (course w s)) (sym h.1)
    ((h.2, h.3, on_pass w a h.0 ok.a_table_in_use (λ old new. steps.TrackReads old new key h.2) (read (pass_in_use a) h.0 key h.2 h.4)), λ n. refl)
stepped w loads a b (Command.Load file) r ok can h =
    subst (λ (s : SessionState). steps.Steps (setting a.tables loads) (course w a) (Command.Load file) r (course w s)) (sym h.1)
    (on_pass w a h.0 ok.a_table_in_use (steps.LoadAnswers a.tables.rows (pairs_of loads file) r) (loaded_step a.tables.rows (pairs_of loads file) (pass_in_use a) h.0 r h.2), λ n. refl)
stepped w loads a b (Command.Snap slot name) r ok can h =
    let after : SessionState = with_slot (with_pass a h.1) slot (Some (a.in_use, h.2)) in
    subst (λ (s : SessionState). steps.Steps (setting a.tables loads) (course w a) (Command.Snap slot name) r (course w s)) (sym h.3) (
      h.0,
      h.2.base,
      h.2.next,
      (let x = on_pass w a h.1 ok.a_table_in_use (λ old new. steps.TrackCuts old new h.2.base h.2.next) (cut (pass_in_use a) h.1 h.2 h.4) in record { here = x.here; others = x.others; in_use = refl }),
      slot_set w a after slot (Some (a.in_use, h.2)) (let f = can.0 in omega (arith, f, ok.a_place_each)) refl,
    )
stepped w loads a b (Command.Forget slot name) r ok can h =
    subst (λ (s : SessionState). steps.Steps (setting a.tables loads) (course w a) (Command.Forget slot name) r (course w s)) (sym h.1)
    (h.0, asked (clone_at a slot) (λ _. Unit {0}) can tt, slot_set w a (with_slot a slot None) slot None (taken_within a slot can) refl, (λ t. refl), refl)
stepped w loads a b (Command.See slot key) r ok can h = (same w a b h.0, asked (clone_at a slot) (λ map. r ≡ value_reply (at map key)) can h.1)
stepped w loads a b (Command.First slot) r ok can h = (same w a b h.0, asked (clone_at a slot) (λ map. r ≡ pair_reply (first_pair map)) can h.1)
stepped w loads a b (Command.Last slot) r ok can h = (same w a b h.0, asked (clone_at a slot) (λ map. r ≡ pair_reply (last_pair map)) can h.1)
stepped w loads a b (Command.Floor slot key) r ok can h = (same w a b h.0, asked (clone_at a slot) (λ map. r ≡ pair_reply (floor map key)) can h.1)
stepped w loads a b (Command.Lower slot key) r ok can h = (same w a b h.0, asked (clone_at a slot) (λ map. r ≡ pair_reply (lower map key)) can h.1)
stepped w loads a b (Command.Ceiling slot key) r ok can h = (same w a b h.0, asked (clone_at a slot) (λ map. r ≡ pair_reply (ceiling map key)) can h.1)
stepped w loads a b (Command.Higher slot key) r ok can h = (same w a b h.0, asked (clone_at a slot) (λ map. r ≡ pair_reply (higher map key)) can h.1)
stepped w loads a b (Command.Count slot lo hi) r ok can h = (same w a b h.0, asked (clone_at a slot) (λ map. r ≡ Reply.Count (min (count map lo hi) (2 ^ 64 - 1))) can h.1)
stepped w loads a b (Command.Export slot lo hi file) r ok can h = (same w a b h.0, asked (clone_at a slot) (λ map. r ≡ Reply.Exported (count map lo hi)) can h.1)
stepped w loads a b (Command.Depth slot) r ok can h = measured_step w loads a b (clone_at a slot) r ok (ok.clones slot) h

measured_tables : (a b : SessionState) (c : Option (ℕ × Cloned)) (r : Reply) → Measured c a r b → b.tables ≡ a.tables
measured_tables a b None r h = absurd h
measured_tables a b (Some live) r h = ap (λ (s : SessionState). s.tables) h.2

pub tables_stay : (loads : Loads) (a b : SessionState) (c : Command) (r : Reply) → Serves loads a c r b → b.tables ≡ a.tables
tables_stay loads a b (Command.Table name) r h = ap (λ (s : SessionState). s.tables) h.1
tables_stay loads a b (Command.Put key value) r h = ap (λ (s : SessionState). s.tables) h.1
tables_stay loads a b (Command.Remove key) r h = ap (λ (s : SessionState). s.tables) h.1
tables_stay loads a b (Command.Get key) r h = ap (λ (s : SessionState). s.tables) h.1
tables_stay loads a b (Command.Load file) r h = ap (λ (s : SessionState). s.tables) h.1
tables_stay loads a b (Command.Snap slot name) r h = ap (λ (s : SessionState). s.tables) h.3
tables_stay loads a b (Command.Forget slot name) r h = ap (λ (s : SessionState). s.tables) h.1
tables_stay loads a b (Command.See slot key) r h = ap (λ (s : SessionState). s.tables) h.0
tables_stay loads a b (Command.First slot) r h = ap (λ (s : SessionState). s.tables) h.0
tables_stay loads a b (Command.Last slot) r h = ap (λ (s : SessionState). s.tables) h.0
tables_stay loads a b (Command.Floor slot key) r h = ap (λ (s : SessionState). s.tables) h.0
tables_stay loads a b (Command.Lower slot key) r h = ap (λ (s : SessionState). s.tables) h.0
tables_stay loads a b (Command.Ceiling slot key) r h = ap (λ (s : SessionState). s.tables) h.0
tables_stay loads a b (Command.Higher slot key) r h = ap (λ (s : SessionState). s.tables) h.0
tables_stay loads a b (Command.Count slot lo hi) r h = ap (λ (s : SessionState). s.tables) h.0
tables_stay loads a b (Command.Export slot lo hi file) r h = ap (λ (s : SessionState). s.tables) h.0
tables_stay loads a b (Command.Depth slot) r h = measured_tables a b (clone_at a slot) r h

pub serves_on : (loads : Loads) (a b : SessionState) (c : Command) (r : Reply) → IsWellFormed a → CanRun a loads c → Serves loads a c r b → ServesOn loads a c r b
serves_on loads a b c r ok can h w cs rs es v =
    let S : Setting → Type 0 = λ s. Served s w (cs ++ c ∷ []) (rs ++ r ∷ []) (es ++ exported (course w a) c) (course w b) in
    subst S (ap (λ t. setting t loads) (sym (tables_stay loads a b c r h))) (served_goes_on (setting a.tables loads) w cs rs es (course w a) (course w b) c r v (stepped w loads a b c r ok can h))
