-- What a call of `try_get` knows where no pass is in a write.
use Rattle.std.proofs.Common.{◌≡◌, ℕ, ◌/◌, inl, inr, List, [], ◌∷◌, refl, sym, ◌∙◌, arith}
use Rattle.std.specs.List.{AllByRecursion as Every}
use Rattle.snap_rule.specs.State.{State, WasLinked}
use Rattle.snap_rule.specs.Evolves.{Evolves, SameRow}
use Rattle.snap_stamp.specs.declared.layout.Field.{Field}
use Rattle.snap_rule.specs.Quiescence.{word, IsSo, QuietOk}
use Rattle.snap_rule.specs.declared.quiescence.Load.{Load}
use Rattle.snap_stamp.specs.declared.layout.Field.TheVariants.{Key, Birth, Stamp, Lock, Height, Left, Right, Value}
use Rattle.snap_rule.specs.Rule.{CountsOk}
use Rattle.snap_stamp.specs.declared.side.Side.TheVariants as sides

word_same : (s s' : State) (n : ℕ) (f : Field) → SameRow s s' n × (s'.lock n ≡ s.lock n) → word s' n f ≡ word s n f
word_same s s' n Key h = h.0.key
word_same s s' n Birth h = h.0.birth
word_same s s' n Stamp h = h.0.stamp
word_same s s' n Lock h = h.1
word_same s s' n Height h = h.0.height
word_same s s' n Left h = h.0.link sides.Left
word_same s s' n Right h = h.0.link sides.Right
word_same s s' n Value h = h.0.value

reached_later : (s s' : State) (n : ℕ) → Evolves s s' → WasLinked s n → WasLinked s' n
reached_later s s' n ev (inl e) = inl e
reached_later s s' n ev (inr h) = inr (ev.linked n h)

loads_kept : (s s' : State) (l : List Load) → Evolves s s' → s.writers ≡ 0 → Every (IsSo s) l → Every (IsSo s') l
loads_kept s s' [] ev z h = tt
loads_kept s s' (x ∷ l) ev z h = ((reached_later s s' x.row ev h.0.0, word_same s s' x.row x.field (ev.quiet z x.row h.0.0) ∙ h.0.1), loads_kept s s' l ev z h.1)

pub quiet_kept : (s s' : State) (ended : ℕ) (l : List Load) → Evolves s s' → QuietOk s ended l → QuietOk s' ended l
quiet_kept s s' ended l ev h =
    let up = ev.entered in
    record {
      few = omega (arith, h.few);
      quiet = λ e. let same : s.gate / 2 ≡ ended = omega (arith, h.few) in let z = h.quiet same in (ev.none_enters (e ∙ sym same) z.0, loads_kept s s' l ev z.0 z.1);
    }

pub quiet_begins : (s : State) → CountsOk s → QuietOk s s.left []
quiet_begins s c = let e = c.entered in record { few = omega arith; quiet = λ q. (omega arith, tt) }

pub quiet_loads : (s : State) (ended n : ℕ) (f : Field) (l : List Load) → WasLinked s n → QuietOk s ended l
    → QuietOk s ended (record { row = n; field = f; found = word s n f } ∷ l)
quiet_loads s ended n f l h q = record { few = q.few; quiet = λ e. let z = q.quiet e in (z.0, ((h, refl), z.1)) }
