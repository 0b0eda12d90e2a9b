-- Each command is served with one of its replies, and exports the text of what is exported.
use Rattle.std.proofs.Common.{◌≡◌, ◌≤◌, ◌+◌, ◌++◌, ℕ, List, [], ◌∷◌, Option, Some, None, length, inl, inr, refl, ap, sym, ◌∙◌, subst, arith, append_assoc, append-nil, IsSome, map}
use Rattle.snap_fits.specs.Fits.{Told, put_reply, remove_reply, value_reply, pair_reply}
use Rattle.snap_fits.specs.Sessions.{exported, exported_from}
use Rattle.snap_prelude.specs.{Cloned, Command, range, Reply}
use Rattle.snap_text.specs.{Replies.IsReplyOf, Replies.reply_text, Tables.table_text, LoadFiles.Loads}
use Rattle.snap_service.specs.Prelude.{CanRun, clone_at, course, kept, map_in, Measured, Serves, SessionState, text_of}
use Rattle.snap_crew.specs.Prelude.{exported_file, full_of, fulls_of, fulls_with, lines_of, lines_with, table_files}

put_is : (k v : ℕ) (r : Reply) (was : Option ℕ) → r ≡ put_reply was → IsReplyOf (Command.Put k v) r
put_is k v r None e = subst (IsReplyOf (Command.Put k v)) (sym e) tt
put_is k v r (Some x) e = subst (IsReplyOf (Command.Put k v)) (sym e) tt

remove_is : (k : ℕ) (r : Reply) (was : Option ℕ) → r ≡ remove_reply was → IsReplyOf (Command.Remove k) r
remove_is k r None e = subst (IsReplyOf (Command.Remove k)) (sym e) tt
remove_is k r (Some x) e = subst (IsReplyOf (Command.Remove k)) (sym e) tt

of_value : (c : Command) (r : Reply) (x : Option ℕ) → IsReplyOf c Reply.Absent → ((v : ℕ) → IsReplyOf c (Reply.Value v)) → r ≡ value_reply x → IsReplyOf c r
of_value c r None absent some e = subst (IsReplyOf c) (sym e) absent
of_value c r (Some v) absent some e = subst (IsReplyOf c) (sym e) (some v)

of_pair : (c : Command) (r : Reply) (x : Option (ℕ × ℕ)) → IsReplyOf c Reply.Absent → ((k v : ℕ) → IsReplyOf c (Reply.Pair k v)) → r ≡ pair_reply x → IsReplyOf c r
of_pair c r None absent some e = subst (IsReplyOf c) (sym e) absent
of_pair c r (Some p) absent some e = subst (IsReplyOf c) (sym e) (some p.0 p.1)

measured_reply : (a b : SessionState) (n : ℕ) (c : Option (ℕ × Cloned)) (r : Reply) → Measured c a r b → IsReplyOf (Command.Depth n) r
measured_reply a b n None r h = absurd h
measured_reply a b n (Some live) r h = subst (IsReplyOf (Command.Depth n)) (sym h.3.reply) tt

-- each command is served with one of its replies
pub serves_reply : (loads : Loads) (a b : SessionState) (c : Command) (r : Reply) → Serves loads a c r b → IsReplyOf c r
serves_reply loads a b (Command.Table name) r h = subst (IsReplyOf (Command.Table name)) (sym h.0) tt
serves_reply loads a b (Command.Put k v) r h = elim h.2 [
  | inl z ↦ put_is k v r z.0 z.1
  | inr z ↦ subst (IsReplyOf (Command.Put k v)) (sym z.0) tt
]
serves_reply loads a b (Command.Remove k) r h = elim h.2 [
  | inl z ↦ remove_is k r z.0 z.1
  | inr z ↦ subst (IsReplyOf (Command.Remove k)) (sym z.0) tt
]
serves_reply loads a b (Command.Get k) r h = of_value (Command.Get k) r h.2 tt (λ v. tt) h.3
serves_reply loads a b (Command.Load file) r h = elim h.2 [
  | inl z ↦ subst (IsReplyOf (Command.Load file)) (sym z.0) tt
  | inr z ↦ subst (IsReplyOf (Command.Load file)) (sym z.2) tt
]
serves_reply loads a b (Command.Snap n name) r h = subst (IsReplyOf (Command.Snap n name)) (sym h.0) tt
serves_reply loads a b (Command.Forget n name) r h = subst (IsReplyOf (Command.Forget n name)) (sym h.0) tt
serves_reply loads a b (Command.See n k) r h = of_value (Command.See n k) r _ tt (λ v. tt) h.1
serves_reply loads a b (Command.First n) r h = of_pair (Command.First n) r _ tt (λ k v. tt) h.1
serves_reply loads a b (Command.Last n) r h = of_pair (Command.Last n) r _ tt (λ k v. tt) h.1
serves_reply loads a b (Command.Floor n k) r h = of_pair (Command.Floor n k) r _ tt (λ k v. tt) h.1
serves_reply loads a b (Command.Lower n k) r h = of_pair (Command.Lower n k) r _ tt (λ k v. tt) h.1
serves_reply loads a b (Command.Ceiling n k) r h = of_pair (Command.Ceiling n k) r _ tt (λ k v. tt) h.1
serves_reply loads a b (Command.Higher n k) r h = of_pair (Command.Higher n k) r _ tt (λ k v. tt) h.1
serves_reply loads a b (Command.Count n lo hi) r h = subst (IsReplyOf (Command.Count n lo hi)) (sym h.1) tt
serves_reply loads a b (Command.Export n lo hi file) r h = subst (IsReplyOf (Command.Export n lo hi file)) (sym h.1) tt
serves_reply loads a b (Command.Depth n) r h = measured_reply a b n (clone_at a n) r h

of_slot : (o : Option (ℕ × Cloned)) (lo hi : ℕ) (file : List ℕ) → IsSome o → (file, table_text (range (map_in o) lo hi)) ∷ [] ≡ table_files (exported_from (kept o) lo hi file)
of_slot None lo hi file some = absurd cc
of_slot (Some live) lo hi file some = refl

-- the text that a command exports is that of what it exports
pub file_exported : (s : SessionState) (loads : Loads) (w : ℕ) (c : Command) → CanRun s loads c → exported_file c (text_of s c) ≡ table_files (exported (course w s) c)
file_exported s loads w (Command.Export slot lo hi file) can = of_slot (clone_at s slot) lo hi file can
file_exported s loads w _ can = refl

-- one command more
pub lines_more : (cs : List Command) (rs : List Reply) (c : Command) (r : Reply) → length cs ≡ length rs → lines_with (cs ++ c ∷ []) (rs ++ r ∷ []) ≡ lines_with cs rs ++ reply_text c r
lines_more [] [] c r e = append-nil (reply_text c r)
lines_more [] (y ∷ rs) c r e = absurd (omega (arith, e))
lines_more (x ∷ cs) [] c r e = absurd (omega (arith, e))
lines_more (x ∷ cs) (y ∷ rs) c r e = ap (λ (l : List ℕ). reply_text x y ++ l) (lines_more cs rs c r (omega (arith, e))) ∙ sym (append_assoc (reply_text x y) (lines_with cs rs) (reply_text c r))

pub fulls_more : (rs : List Reply) (r : Reply) → fulls_with (rs ++ r ∷ []) ≡ fulls_with rs + full_of r
fulls_more [] r = omega arith
fulls_more (x ∷ rs) r = omega (arith, fulls_more rs r)

one_full : (r : Reply) → full_of r ≤ 1
one_full Reply.Full = omega arith
one_full (Reply.FullAfter n) = omega arith
one_full _ = omega arith

pub few_fulls : (rs : List Reply) → fulls_with rs ≤ length rs
few_fulls [] = omega arith
few_fulls (r ∷ rs) = omega (arith, few_fulls rs, one_full r)

-- what was told is of its commands and replies
pub lines_told : (ts : List Told) → lines_with (map (λ (t : Told). t.command) ts) (map (λ (t : Told). t.reply) ts) ≡ lines_of ts
lines_told [] = refl
lines_told (t ∷ ts) = ap (λ (l : List ℕ). reply_text t.command t.reply ++ l) (lines_told ts)

pub fulls_told : (ts : List Told) → fulls_with (map (λ (t : Told). t.reply) ts) ≡ fulls_of ts
fulls_told [] = refl
fulls_told (t ∷ ts) = ap (λ (n : ℕ). full_of t.reply + n) (fulls_told ts)
