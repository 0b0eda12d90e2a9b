-- How much one command adds to the uses of a session's passes.
use Rattle.std.proofs.Common.{zero, suc, ◌≡◌, ◌≤◌, ◌<◌, ◌+◌, ◌^◌, ℕ, List, [], ◌∷◌, length, get_or, take, Option, Some, None, inl, inr, ap, sym, ◌∙◌, subst, arith, slice_set}
use Rattle.std.proofs.lemmas.List.{length-take}
use Rattle.snap_prelude.proofs.Common.{slice_get_within}
use Rattle.snap_prelude.specs.{Call, Cloned, Command, Known, Pairs, Reply}
use Rattle.snap_text.specs.LoadFiles.{Loads, pairs_of}
use Rattle.snap_service.specs.Prelude.{clone_at, FitsSlot, IsWellFormed, LoadsPairs, Measured, most_uses, nobody}
use Rattle.snap_service.specs.Prelude.{pass_at, pass_in_use, PutAll, Serves, SessionState, Wrote}

uses_at : (ps : List Known) (i : ℕ) → i < length ps → (get_or ps i nobody).view.uses ≤ most_uses ps
uses_at [] i l = absurd (omega (arith, l))
uses_at (q ∷ ps) zero l = omega arith
uses_at (q ∷ ps) (suc i) l = omega (arith, uses_at ps i (omega (arith, l)))

most_set : (ps : List Known) (i : ℕ) (p : Known) (b : ℕ) → most_uses ps ≤ b → p.view.uses ≤ b → most_uses (slice_set ps i p) ≤ b
most_set [] i p b m u = m
most_set (q ∷ ps) zero p b m u = omega (arith, m, u)
most_set (q ∷ ps) (suc i) p b m u = omega (arith, m, most_set ps i p b (omega (arith, m)) u)

wrote_uses : (rows : ℕ) (call : Call) (old : Known) (r : Reply) (new : Known) (reply_of : _) → Wrote rows call reply_of old r new → new.view.uses ≡ old.view.uses + 1
wrote_uses rows call old r new reply_of (inl h) = let x = h.2 in ap (λ (k : Known). k.view.uses) x.is
wrote_uses rows call old r new reply_of (inr h) = let x = h.1 in ap (λ (k : Known). k.view.uses) x.is

put_uses : (old : Known) (xs : Pairs) (new : Known) → PutAll old xs new → new.view.uses ≡ old.view.uses + length xs
put_uses old [] new h = ap (λ (k : Known). k.view.uses) h ∙ omega arith
put_uses old (x ∷ xs) new h = let y = h.1.1 in omega (arith, put_uses h.0 xs new h.2, ap (λ (k : Known). k.view.uses) y.is)

loaded_uses : (rows : ℕ) (pairs : Pairs) (old : Known) (r : Reply) (new : Known) → LoadsPairs rows pairs old r new → new.view.uses ≤ old.view.uses + length pairs
loaded_uses rows pairs old r new (inl h) = omega (arith, put_uses old pairs new h.1)
loaded_uses rows pairs old r new (inr h) = let y = h.6 in omega (arith, put_uses old (take h.0 pairs) h.4 h.5, length-take h.0 pairs, slice_get_within pairs h.0 h.1 h.3, ap (λ (k : Known). k.view.uses) y.is)

set_uses_at : (a b : SessionState) (t : ℕ) (pass : Known) (n : ℕ) → t < length a.passes → b.passes ≡ slice_set a.passes t pass → pass.view.uses ≤ (pass_at a.passes t).view.uses + n → most_uses b.passes ≤ most_uses a.passes + n
set_uses_at a b t pass n within is up = subst (λ (ps : List Known). most_uses ps ≤ most_uses a.passes + n) (sym is) (most_set a.passes t pass (most_uses a.passes + n) (omega arith) (omega (arith, up, uses_at a.passes t within)))

module _ (a b : SessionState) (ok : IsWellFormed a) (pass : Known) (n : ℕ) (is : b.passes ≡ slice_set a.passes a.in_use pass) (up : pass.view.uses ≤ (pass_in_use a).view.uses + n) where
  set_uses : most_uses b.passes ≤ most_uses a.passes + n
  set_uses = set_uses_at a b a.in_use pass n ok.a_table_in_use is up

measured_uses : (a b : SessionState) (c : Option (ℕ × Cloned)) (r : Reply) → length a.passes ≡ length a.tables.laid → FitsSlot a.tables c → Measured c a r b → most_uses b.passes ≤ most_uses a.passes + 0
measured_uses a b None r all fits h = absurd h
measured_uses a b (Some live) r all fits h = set_uses_at a b live.0 h.1 0 (let l = fits.within in omega (arith, l, all)) (ap (λ (s : SessionState). s.passes) h.2) (let x = h.4 in omega (arith, ap (λ (k : Known). k.view.uses) x.pass))

same_uses : (a b : SessionState) → b.passes ≡ a.passes → most_uses b.passes ≤ most_uses a.passes + 2 ^ 22
same_uses a b e = omega (arith, ap most_uses e)

pub uses_after : (loads : Loads) (a b : SessionState) (c : Command) (r : Reply) → IsWellFormed a → ((file : List ℕ) → length (pairs_of loads file) ≤ 2 ^ 22) → Serves loads a c r b → most_uses b.passes ≤ most_uses a.passes + 2 ^ 22
uses_after loads a b (Command.Table name) r ok few h = same_uses a b (ap (λ (s : SessionState). s.passes) h.1)
uses_after loads a b (Command.Put key value) r ok few h = omega (arith, set_uses a b ok h.0 1 (ap (λ (s : SessionState). s.passes) h.1) (omega (arith, wrote_uses a.tables.rows _ (pass_in_use a) r h.0 _ h.2)))
uses_after loads a b (Command.Remove key) r ok few h = omega (arith, set_uses a b ok h.0 1 (ap (λ (s : SessionState). s.passes) h.1) (omega (arith, wrote_uses a.tables.rows _ (pass_in_use a) r h.0 _ h.2)))
uses_after loads a b (Command.Get key) r ok few h = omega (arith, set_uses a b ok h.0 0 (ap (λ (s : SessionState). s.passes) h.1) (let x = h.4 in omega (arith, ap (λ (k : Known). k.view.uses) x.is)))
uses_after loads a b (Command.Load file) r ok few h = omega (arith, few file, set_uses a b ok h.0 (length (pairs_of loads file)) (ap (λ (s : SessionState). s.passes) h.1) (loaded_uses a.tables.rows (pairs_of loads file) (pass_in_use a) r h.0 h.2))
uses_after loads a b (Command.Snap slot name) r ok few h = omega (arith, set_uses a b ok h.1 1 (ap (λ (s : SessionState). s.passes) h.3) (let x = h.4 in omega (arith, ap (λ (k : Known). k.view.uses) x.cut.is)))
uses_after loads a b (Command.Forget slot name) r ok few h = same_uses a b (ap (λ (s : SessionState). s.passes) h.1)
uses_after loads a b (Command.See slot key) r ok few h = same_uses a b (ap (λ (s : SessionState). s.passes) h.0)
uses_after loads a b (Command.First slot) r ok few h = same_uses a b (ap (λ (s : SessionState). s.passes) h.0)
uses_after loads a b (Command.Last slot) r ok few h = same_uses a b (ap (λ (s : SessionState). s.passes) h.0)
uses_after loads a b (Command.Floor slot key) r ok few h = same_uses a b (ap (λ (s : SessionState). s.passes) h.0)
uses_after loads a b (Command.Lower slot key) r ok few h = same_uses a b (ap (λ (s : SessionState). s.passes) h.0)
uses_after loads a b (Command.Ceiling slot key) r ok few h = same_uses a b (ap (λ (s : SessionState). s.passes) h.0)
uses_after loads a b (Command.Higher slot key) r ok few h = same_uses a b (ap (λ (s : SessionState). s.passes) h.0)
uses_after loads a b (Command.Count slot lo hi) r ok few h = same_uses a b (ap (λ (s : SessionState). s.passes) h.0)
uses_after loads a b (Command.Export slot lo hi file) r ok few h = same_uses a b (ap (λ (s : SessionState). s.passes) h.0)
uses_after loads a b (Command.Depth slot) r ok few h = omega (arith, measured_uses a b (clone_at a slot) r ok.seated.a_pass_each (ok.clones slot) h)
