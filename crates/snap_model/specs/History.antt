-- Histories of calls, the map after a history, and when its replies are that map's.
use Rattle.std.specs.Prelude.{◌≡◌, ℕ, ◌==◌, List, [], ◌∷◌, ◌++◌, Option, Some, None, filter}
use Rattle.snap_model.specs.declared.call.Entry.{Entry}
use Rattle.snap_model.specs.declared.call.Call.{Call}
use Rattle.snap_model.specs.declared.call.Call.TheVariants.{Put, Remove}
use Rattle.snap_model.specs.SortedMap.{Pairs, at, after_put, after_remove}

-- the key of a call, and what the map has there afterwards
abbrev pub call_key : Call → ℕ
call_key (Put k v) = k
call_key (Remove k) = k

abbrev pub call_value : Call → Option ℕ
call_value (Put k v) = Some v
call_value (Remove k) = None

-- a map after one call
abbrev pub after_call : Pairs → Call → Pairs
after_call m (Put k v) = after_put m k v
after_call m (Remove k) = after_remove m k

-- a map after the calls of a history, in their order
abbrev pub after_from : Pairs → List Entry → Pairs
after_from m [] = m
after_from m (e ∷ es) = after_from (after_call m e.call) es

-- the map after a history: its calls on the empty map
abbrev pub after : List Entry → Pairs
after h = after_from [] h

-- what the map after a history has at a key
unfoldable pub told : List Entry → ℕ → Option ℕ
told h k = at (after_from [] h) k

-- each reply is what the map had at the key of its call
abbrev pub IsLegalFrom : Pairs → List Entry → Type 0
IsLegalFrom m [] = Unit {0}
IsLegalFrom m (e ∷ es) = (e.reply ≡ at m (call_key e.call)) × IsLegalFrom (after_call m e.call) es

abbrev pub IsLegal : List Entry → Type 0
IsLegal h = IsLegalFrom [] h

-- the entries of one number, in their order
abbrev pub calls_of : List Entry → ℕ → List Entry
calls_of h who = filter (λ e. e.who == who) h

-- xs is a prefix of ys
pub record Begins {X : Type 0} (xs ys : List X) : Type 0 where
  pub rest : List X
  pub is : xs ++ rest ≡ ys
