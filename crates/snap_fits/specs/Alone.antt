-- A worker that has the tables for itself: one sorted map for each table, and copies of these maps
-- as clones.
use Rattle.std.specs.Prelude.{◌≡◌, ◌≢◌, ◌<◌, ◌⊎◌, ◌++◌, ℕ, List, [], ◌∷◌, Option, Some, None, length, take}
use Rattle.snap_model.specs.History.{IsLegal, after_call, call_key, calls_of}
use Rattle.snap_model.specs.SortedMap.{Pairs, after_put, at, first_pair, last_pair, range, floor, lower, ceiling, higher}
use Rattle.snap_model.specs.declared.call.Call.{Call}
use Rattle.snap_model.specs.declared.call.Call.TheVariants.{Put, Remove}
use Rattle.snap_model.specs.declared.command.Command.{Command}
use Rattle.snap_model.specs.declared.command.Command.TheVariants as command
use Rattle.snap_model.specs.declared.command.Reply.{Reply}
use Rattle.snap_model.specs.declared.command.Reply.TheVariants as reply
use Rattle.snap_fits.specs.Fits.{Setting, Front, WorkerFits, CanBeDeep, TellsDepth, put_reply, remove_reply, value_reply, pair_reply, set_at}

-- the map of each table, the table in use, and the copy in each slot
pub record Maps : Type 0 where
  pub tables : ℕ → Pairs
  pub in_use : ℕ
  pub clones : ℕ → Option Pairs

abbrev pub empty_maps : Maps
empty_maps = record { tables = λ t. []; in_use = 0; clones = λ n. None }

abbrev pub map_in_use : Maps → Pairs
map_in_use a = a.tables a.in_use

abbrev pub with_map : Maps → Pairs → Maps
with_map a m = record a { tables = set_at a.tables a.in_use m }

abbrev pub with_copy_in : Maps → ℕ → Option Pairs → Maps
with_copy_in a n c = record a { clones = set_at a.clones n c }

-- a map after puts in their order
abbrev pub after_puts : Pairs → Pairs → Pairs
after_puts m [] = m
after_puts m (x ∷ xs) = after_puts (after_put m x.0 x.1) xs

-- a write is answered by what stood at its key, and is made; or it is refused as full, and nothing
-- has changed
abbrev pub WritesMap : Maps → Call → (Option ℕ → Reply) → Reply → Maps → Type 0
WritesMap a call reply_of r b =
    ((r ≡ reply_of (at (map_in_use a) (call_key call)))
    × (b ≡ with_map a (after_call (map_in_use a) call)))
    ⊎ ((r ≡ reply.Full) × (b ≡ a))

-- a load puts all its pairs, or so many as it tells
abbrev pub LoadsMap : Maps → Pairs → Reply → Maps → Type 0
LoadsMap a xs r b =
    ((r ≡ reply.Loaded (length xs)) × (b ≡ with_map a (after_puts (map_in_use a) xs)))
    ⊎ ((n : ℕ) × (n < length xs) × (r ≡ reply.FullAfter n)
    × (b ≡ with_map a (after_puts (map_in_use a) (take n xs))))

-- a question to the copy in a slot
abbrev pub AsksCopy : Maps → ℕ → Maps → (Pairs → Type 0) → Type 0
AsksCopy a n b P = (m : Pairs) × (a.clones n ≡ Some m) × P m × (b ≡ a)

-- what a command replies, and the maps after it
abbrev pub AnswersOne : Setting → Maps → Command → Reply → Maps → Type 0
AnswersOne s a (command.Table name) r b =
    (r ≡ reply.Using) × (b ≡ record a { in_use = s.table name })
AnswersOne s a (command.Put k v) r b = WritesMap a (Put k v) put_reply r b
AnswersOne s a (command.Remove k) r b = WritesMap a (Remove k) remove_reply r b
AnswersOne s a (command.Get k) r b = (r ≡ value_reply (at (map_in_use a) k)) × (b ≡ a)
AnswersOne s a (command.Load file) r b = LoadsMap a (s.pairs file) r b
AnswersOne s a (command.Snap n name) r b =
    (r ≡ reply.Snapped) × (b ≡ with_copy_in a n (Some (map_in_use a)))
AnswersOne s a (command.Forget n name) r b = (r ≡ reply.Forgotten) × (b ≡ with_copy_in a n None)
AnswersOne s a (command.See n k) r b = AsksCopy a n b (λ map. r ≡ value_reply (at map k))
AnswersOne s a (command.First n) r b = AsksCopy a n b (λ map. r ≡ pair_reply (first_pair map))
AnswersOne s a (command.Last n) r b = AsksCopy a n b (λ map. r ≡ pair_reply (last_pair map))
AnswersOne s a (command.Floor n k) r b = AsksCopy a n b (λ map. r ≡ pair_reply (floor map k))
AnswersOne s a (command.Lower n k) r b = AsksCopy a n b (λ map. r ≡ pair_reply (lower map k))
AnswersOne s a (command.Ceiling n k) r b = AsksCopy a n b (λ map. r ≡ pair_reply (ceiling map k))
AnswersOne s a (command.Higher n k) r b = AsksCopy a n b (λ map. r ≡ pair_reply (higher map k))
AnswersOne s a (command.Count n lo hi) r b =
    AsksCopy a n b (λ map. r ≡ reply.Count (length (range map lo hi)))
AnswersOne s a (command.Export n lo hi file) r b =
    AsksCopy a n b (λ map. r ≡ reply.Exported (length (range map lo hi)))
AnswersOne s a (command.Depth n) r b =
    AsksCopy a n b (λ map. TellsDepth r (length map) (CanBeDeep (length map)))

-- the pairs that a command exports, by its file
abbrev pub copied_at : Option Pairs → ℕ → ℕ → List ℕ → List (List ℕ × Pairs)
copied_at None lo hi file = []
copied_at (Some m) lo hi file = (file, range m lo hi) ∷ []

abbrev pub copied_by : Maps → Command → List (List ℕ × Pairs)
copied_by a (command.Export n lo hi file) = copied_at (a.clones n) lo hi file
copied_by a _ = []

-- commands one after another, with their replies and their exports
abbrev pub AnswersAll : Setting → Maps → List Command → List Reply → List (List ℕ × Pairs) → Type 0
AnswersAll s a [] [] es = es ≡ []
AnswersAll s a [] (r ∷ rs) es = ⊥
AnswersAll s a (c ∷ cs) [] es = ⊥
AnswersAll s a (c ∷ cs) (r ∷ rs) es = (b : Maps)
    × AnswersOne s a c r b
    × (more : List (List ℕ × Pairs))
    × (es ≡ copied_by a c ++ more)
    × AnswersAll s b cs rs more

-- legal histories with entries of this number alone
pub record IsAlone (w : ℕ) (fronts : ℕ → Front) : Type 0 where
  pub legal : (t : ℕ) → IsLegal (fronts t).history
  pub others : (t i : ℕ) → i ≢ w → calls_of (fronts t).history i ≡ []

-- The sequential meaning: a worker that is alone is answered as by plain maps.
abbrev pub AloneAnswers : Type 0
AloneAnswers = (s : Setting) (w : ℕ) (fronts : ℕ → Front) (cs : List Command) (rs : List Reply)
    (es : List (List ℕ × Pairs))
    → IsAlone w fronts → WorkerFits s fronts w cs rs es → AnswersAll s empty_maps cs rs es
