-- A worker without others: each of its moments is the number of its entries, so that it is answered as by plain maps.
use Rattle.std.proofs.Common.{◌≡◌, ◌≢◌, ◌≤◌, ◌<◌, ◌+◌, ℕ, zero, suc, true, false, List, [], ◌∷◌, ◌++◌, length, take, drop, Option, Some, None, inl, inr, refl, ap, sym, ◌∙◌, subst, arith, eq-eqb, ne_eqb, eqb, append_assoc, length-append}
use native.Mathlib.Decide.{ℕ_discrete}
use mathlib.Core.Logic.{dite}
use Rattle.std.specs.Prelude.{map as list_map}
use Rattle.std.proofs.lemmas.List.{take-append-drop, length-take-le}
use Rattle.std.proofs.lemmas.Option.{slice_get_within}
use Rattle.snap_model.specs.History.{after, after_from, after_call, call_key, calls_of, IsLegal, IsLegalFrom}
use Rattle.snap_model.specs.SortedMap.{Pairs, after_put, at, range, first_pair, last_pair, floor, lower, ceiling, higher}
use Rattle.snap_model.specs.declared.call.Call.{Call}
use Rattle.snap_model.specs.declared.call.Call.TheVariants.{Put, Remove}
use Rattle.snap_model.specs.declared.call.Entry.{Entry}
use Rattle.snap_model.specs.declared.command.Command.{Command}
use Rattle.snap_model.specs.declared.command.Command.TheVariants as command
use Rattle.snap_model.specs.declared.command.Reply.{Reply}
use Rattle.snap_model.specs.declared.command.Reply.TheVariants as reply
use Rattle.snap_fits.specs.Fits.{Setting, Front, Place, Clone, Matching, Told, CanBeDeep, TellsDepth, MeetsDepth, HasMoment, IsNextEntry, MakesAll, MeetsWrite, MeetsLoad, moved, made_by, set_at, AtClone, entries_told, put_reply, remove_reply, value_reply, pair_reply, Meets, MeetsAll, start, next, export_at, export_of, exports_of}
use Rattle.snap_fits.specs.Alone.{Maps, empty_maps, after_puts, WritesMap, LoadsMap, AnswersOne, AnswersAll, copied_at, copied_by, AloneAnswers}
use Rattle.snap_fits.proofs.Prefixes.{take_seen}
use Rattle.snap_fits.proofs.Steps.{put_tells, remove_tells}

-- each entry is w's
AllOwn : ℕ → List Entry → Type 0
AllOwn w [] = Unit {0}
AllOwn w (e ∷ h) = (e.who ≡ w) × AllOwn w h

kept_first : (e : Entry) (h : List Entry) → calls_of (e ∷ h) e.who ≡ e ∷ calls_of h e.who
kept_first e h = let q : eqb e.who e.who ≡ true = eq-eqb e.who e.who refl in rw q refl

left_out : (e : Entry) (h : List Entry) (i : ℕ) → e.who ≢ i → calls_of (e ∷ h) i ≡ calls_of h i
left_out e h i n = let q : eqb e.who i ≡ false = ne_eqb e.who i n in rw q refl

all_own : (w : ℕ) (h : List Entry) → ((i : ℕ) → i ≢ w → calls_of h i ≡ []) → AllOwn w h
unfolding AllOwn
all_own w [] others = tt
all_own w (e ∷ h) others = dite (ℕ_discrete e.who w)
    (λ is. (is, all_own w h (λ i n. sym (left_out e h i (λ same. n (sym same ∙ is))) ∙ others i n)))
    (λ not. let z : e ∷ calls_of h e.who ≡ [] = sym (kept_first e h) ∙ others e.who not in absurd cc)

first_own : (w : ℕ) (h : List Entry) (n : ℕ) → AllOwn w h → calls_of (take n h) w ≡ take n h
unfolding AllOwn
first_own w h zero a = refl
first_own w [] (suc n) a = refl
first_own w (e ∷ h) (suc n) a = let q : eqb e.who w ≡ true = eq-eqb e.who w a.0 in rw q (ap (λ (l : List Entry). e ∷ l) (first_own w h n a.1))

after_append : (m : Pairs) (xs ys : List Entry) → after_from m (xs ++ ys) ≡ after_from (after_from m xs) ys
after_append m [] ys = refl
after_append m (x ∷ xs) ys = after_append (after_call m x.call) xs ys

legal_reply : (m : Pairs) (xs : List Entry) (e : Entry) (ys : List Entry) → IsLegalFrom m (xs ++ e ∷ ys) → e.reply ≡ at (after_from m xs) (call_key e.call)
legal_reply m [] e ys l = l.0
legal_reply m (x ∷ xs) e ys l = legal_reply (after_call m x.call) xs e ys l.1

-- the map after the first n entries
abbrev map_at : Front → ℕ → Pairs
map_at f n = after (take n f.history)

-- as many entries as the place has met stand before it, and m is the map after them
record IsUpTo (f : Front) (p : Place) (m : Pairs) : Type 0 where
  within : p.base ≤ length f.history
  made : p.made ≡ p.base
  map : m ≡ map_at f p.base

module _ (w : ℕ) (f : Front) (legal : IsLegal f.history) (own : AllOwn w f.history) where
  -- a moment is the number of the entries that were met
  moment_is : (p : Place) (made m : ℕ) → HasMoment f w p made m → m ≡ made
  moment_is p made m h = sym (length-take-le m f.history h.within) ∙ sym (ap length (first_own w f.history m own)) ∙ h.entries

  stays_at : (p : Place) (x : Pairs) (m cut : ℕ) → IsUpTo f p x → HasMoment f w p p.made m → IsUpTo f (moved p m 0 cut) x
  stays_at p x m cut u h =
      let e : m ≡ p.made = moment_is p p.made m h in let g : p.made ≡ p.base = u.made in
      record { within = h.within; made = omega (arith, e, g); map = u.map ∙ ap (map_at f) (omega (arith, e, g)) }

  -- an entry that was met is the next one
  made_at : (p : Place) (x : Pairs) (call : Call) (was : Option ℕ) (m : ℕ) → IsUpTo f p x → IsNextEntry f w p call was m
      → (was ≡ at x (call_key call)) × IsUpTo f (moved p m 1 0) (after_call x call)
  made_at p x call was m u h =
      let e : Entry = made_by w call was in
      let before : List Entry = h.entry.before in
      let is : take m f.history ≡ before ++ e ∷ [] = h.entry.is in
      let whole : before ++ e ∷ drop m f.history ≡ f.history = sym (append_assoc before (e ∷ []) (drop m f.history)) ∙ ap (λ (l : List Entry). l ++ drop m f.history) (sym is) ∙ take-append-drop m f.history in
      let moment : m ≡ p.made + 1 = moment_is p (p.made + 1) m h.stands in
      let g : p.made ≡ p.base = u.made in
      let long : length (take m f.history) ≡ m = length-take-le m f.history h.stands.within in
      let longer : length (before ++ e ∷ []) ≡ m = ap length (sym is) ∙ long in
      let count : length before ≡ p.base = omega (arith, length-append before (e ∷ []), longer, moment, g) in
      let first : take (length before) f.history ≡ before = take_seen before f.history (record { rest = e ∷ drop m f.history; is = whole }) in
      let map : x ≡ after before = u.map ∙ ap (map_at f) (sym count) ∙ ap after first in (
        legal_reply [] before e (drop m f.history) (subst IsLegal (sym whole) legal) ∙ ap (λ (y : Pairs). at y (call_key call)) (sym map),
        record {
          within = h.stands.within;
          made = omega (arith, moment, g);
          map = ap (λ (y : Pairs). after_call y call) map ∙ sym (after_append [] before (e ∷ [])) ∙ ap after (sym is);
        },
      )

  -- puts that were met
  puts_at : (p : Place) (x : Pairs) (xs : Pairs) (q : Place) → IsUpTo f p x → MakesAll f w p xs q → IsUpTo f q (after_puts x xs) × (q.made ≡ p.made + length xs)
  puts_at p x [] q u h = (let P : Place → Type 0 = λ z. IsUpTo f z x in subst P (sym h) u, ap (λ (z : Place). z.made) h ∙ omega arith)
  puts_at p x (y ∷ xs) q u h =
      let one = made_at p x (Put y.0 y.1) h.1.0 h.0 u h.1.1 in
      let all = puts_at (moved p h.0 1 0) (after_put x y.0 y.1) xs q one.1 h.2 in
      let many : q.made ≡ p.made + 1 + length xs = all.1 in
      (all.0, omega (arith, many))

-- the copy in a slot is the map at the moment of its clone
SameCopy : (ℕ → Front) → Option Clone → Option Pairs → Type 0
SameCopy fronts None None = Unit {0}
SameCopy fronts (Some c) (Some m) = m ≡ map_at (fronts c.table) c.moment
SameCopy fronts None (Some m) = ⊥
SameCopy fronts (Some c) None = ⊥

-- the plain maps stand where the commands have come to
record Follows (fronts : ℕ → Front) (q : Matching) (a : Maps) : Type 0 where
  in_use : q.in_use ≡ a.in_use
  tables : (t : ℕ) → IsUpTo (fronts t) (q.places t) (a.tables t)
  clones : (n : ℕ) → SameCopy fronts (q.clones n) (a.clones n)

-- a command: its answer by plain maps, which then follow
record Step (s : Setting) (fronts : ℕ → Front) (q : Matching) (a : Maps) (c : Command) (r : Reply) (m : ℕ) : Type 0 where
  maps : Maps
  answers : AnswersOne s a c r maps
  follows : Follows fronts (next s q c r m) maps

set_here : {X : Type 0} (f : ℕ → X) (n i : ℕ) (x : X) → i ≡ n → set_at f n x i ≡ x
set_here f n i x e = rw (eq-eqb i n e)

set_there : {X : Type 0} (f : ℕ → X) (n i : ℕ) (x : X) → i ≢ n → set_at f n x i ≡ f i
set_there f n i x e = let q : eqb i n ≡ false = ne_eqb i n e in rw q

asked : (fronts : ℕ → Front) (c : Option Clone) (v : Option Pairs) (m : ℕ) (P : Pairs → Type 0) → SameCopy fronts c v → AtClone fronts c m P → (x : Pairs) × (v ≡ Some x) × P x
unfolding SameCopy
asked fronts None v m P same h = absurd h
asked fronts (Some c) None m P same h = absurd same
asked fronts (Some c) (Some x) m P same h = (x, refl, subst P (ap (map_at (fronts c.table)) h.0 ∙ sym same) h.1)

-- the depth of a clone can be that of its copy
deep : (fronts : ℕ → Front) (s : Setting) (c : Option Clone) (v : Option Pairs) (r : Reply) (m : ℕ) → SameCopy fronts c v → MeetsDepth s fronts c r m → (x : Pairs) × (v ≡ Some x) × TellsDepth r (length x) (CanBeDeep (length x))
unfolding SameCopy
deep fronts s None v r m same h = absurd h
deep fronts s (Some c) None r m same h = absurd same
deep fronts s (Some c) (Some x) r m same h =
    let P : Pairs → Type 0 = λ map. TellsDepth r (length map) (CanBeDeep (length map)) in
    (x, refl, subst P (ap (map_at (fronts c.table)) h.0 ∙ sym same) (h.1.0, h.1.1, h.1.2, h.1.3.can))

copied : (fronts : ℕ → Front) (c : Option Clone) (v : Option Pairs) (lo hi : ℕ) (file : List ℕ) → SameCopy fronts c v → export_at fronts c lo hi file ≡ copied_at v lo hi file
unfolding SameCopy
copied fronts None None lo hi file same = refl
copied fronts (Some c) (Some x) lo hi file same = ap (λ (m : Pairs). (file, range m lo hi) ∷ []) (sym same)
copied fronts None (Some x) lo hi file same = absurd same
copied fronts (Some c) None lo hi file same = absurd same

module _ (s : Setting) (w : ℕ) (fronts : ℕ → Front) (legal : (t : ℕ) → IsLegal (fronts t).history) (own : (t : ℕ) → AllOwn w (fronts t).history) (q : Matching) (a : Maps) (g : Follows fronts q a) where
  here : IsUpTo (fronts q.in_use) (q.places q.in_use) (a.tables a.in_use)
  here = let P : ℕ → Type 0 = λ u. IsUpTo (fronts q.in_use) (q.places q.in_use) (a.tables u) in subst P g.in_use (g.tables q.in_use)

  -- a place and the map of the table in use
  changed : (p : Place) (x : Pairs) → IsUpTo (fronts q.in_use) p x → (t : ℕ) → IsUpTo (fronts t) (set_at q.places q.in_use p t) (set_at a.tables a.in_use x t)
  changed p x u t = dite (ℕ_discrete t q.in_use)
      (λ e. let P : Place → Type 0 = λ z. IsUpTo (fronts t) z (set_at a.tables a.in_use x t) in let R : Pairs → Type 0 = λ z. IsUpTo (fronts t) p z in let F : ℕ → Type 0 = λ i. IsUpTo (fronts i) p x in
      subst P (sym (set_here q.places q.in_use t p e)) (subst R (sym (set_here a.tables a.in_use t x (e ∙ g.in_use))) (subst F (sym e) u)))
      (λ n. let P : Place → Type 0 = λ z. IsUpTo (fronts t) z (set_at a.tables a.in_use x t) in let R : Pairs → Type 0 = λ z. IsUpTo (fronts t) (q.places t) z in
      subst P (sym (set_there q.places q.in_use t p n)) (subst R (sym (set_there a.tables a.in_use t x (λ e. n (e ∙ sym g.in_use)))) (g.tables t)))

  -- a place alone
  moved_on : (p : Place) → IsUpTo (fronts q.in_use) p (a.tables a.in_use) → (t : ℕ) → IsUpTo (fronts t) (set_at q.places q.in_use p t) (a.tables t)
  moved_on p u t = dite (ℕ_discrete t q.in_use)
      (λ e. let P : Place → Type 0 = λ z. IsUpTo (fronts t) z (a.tables t) in let F : ℕ → Type 0 = λ i. IsUpTo (fronts i) p (a.tables i) in let G : ℕ → Type 0 = λ i. IsUpTo (fronts q.in_use) p (a.tables i) in
      subst P (sym (set_here q.places q.in_use t p e)) (subst F (sym e) (subst G (sym g.in_use) u)))
      (λ n. let P : Place → Type 0 = λ z. IsUpTo (fronts t) z (a.tables t) in subst P (sym (set_there q.places q.in_use t p n)) (g.tables t))

  slot : (n : ℕ) (c : Option Clone) (v : Option Pairs) → SameCopy fronts c v → (i : ℕ) → SameCopy fronts (set_at q.clones n c i) (set_at a.clones n v i)
  slot n c v same i = dite (ℕ_discrete i n)
      (λ e. let P : Option Clone → Type 0 = λ z. SameCopy fronts z (set_at a.clones n v i) in let R : Option Pairs → Type 0 = λ z. SameCopy fronts c z in
      subst P (sym (set_here q.clones n i c e)) (subst R (sym (set_here a.clones n i v e)) same))
      (λ d. let P : Option Clone → Type 0 = λ z. SameCopy fronts z (set_at a.clones n v i) in let R : Option Pairs → Type 0 = λ z. SameCopy fronts (q.clones i) z in
      subst P (sym (set_there q.clones n i c d)) (subst R (sym (set_there a.clones n i v d)) (g.clones i)))

  -- so many entries were told
  told_many : (p : Place) (x : Pairs) (m n k : ℕ) → n ≡ k → IsUpTo (fronts q.in_use) (moved p m n 0) x → IsUpTo (fronts q.in_use) (moved p m k 0) x
  told_many p x m n k e u = let P : ℕ → Type 0 = λ i. IsUpTo (fronts q.in_use) (moved p m i 0) x in subst P e u

  writes_step : (call : Call) (reply_of : Option ℕ → Reply) (r : Reply) (m : ℕ) → ((was : Option ℕ) → 1 ≡ entries_told (reply_of was)) → MeetsWrite s (fronts q.in_use) w (q.places q.in_use) call reply_of r m
      → (b : Maps) × WritesMap a call reply_of r b × Follows fronts (record q { places = set_at q.places q.in_use (moved (q.places q.in_use) m (entries_told r) 0) }) b
  writes_step call reply_of r m tells h = elim h [
    | inl x ↦ (let y = made_at w (fronts q.in_use) (legal q.in_use) (own q.in_use) (q.places q.in_use) (a.tables a.in_use) call x.0 m here x.2 in (
      record a { tables = set_at a.tables a.in_use (after_call (a.tables a.in_use) call) },
      inl (x.1 ∙ ap reply_of y.0, refl),
      record { in_use = g.in_use; tables = changed (moved (q.places q.in_use) m (entries_told r) 0) (after_call (a.tables a.in_use) call) (told_many (q.places q.in_use) (after_call (a.tables a.in_use) call) m 1 (entries_told r) (tells x.0 ∙ ap entries_told (sym x.1)) y.1); clones = g.clones },
    ))
    | inr x ↦ (let y = stays_at w (fronts q.in_use) (legal q.in_use) (own q.in_use) (q.places q.in_use) (a.tables a.in_use) m 0 here x.1.stands in (
      a,
      inr (x.0, refl),
      record { in_use = g.in_use; tables = moved_on (moved (q.places q.in_use) m (entries_told r) 0) (told_many (q.places q.in_use) (a.tables a.in_use) m 0 (entries_told r) (ap entries_told (sym x.0)) y); clones = g.clones },
    ))
  ]

  same_place : (p z : Place) (x : Pairs) → z.base ≡ p.base → z.made ≡ p.made → IsUpTo (fronts q.in_use) p x → IsUpTo (fronts q.in_use) z x
  same_place p z x e n u =
      let l : p.base ≤ length (fronts q.in_use).history = u.within in let i : p.made ≡ p.base = u.made in
      record { within = omega (arith, l, e); made = omega (arith, i, e, n); map = u.map ∙ ap (map_at (fronts q.in_use)) (sym e) }

  loads_step : (xs : Pairs) (r : Reply) (m : ℕ) → MeetsLoad s (fronts q.in_use) w (q.places q.in_use) xs r m
      → (b : Maps) × LoadsMap a xs r b × Follows fronts (record q { places = set_at q.places q.in_use (moved (q.places q.in_use) m (entries_told r) 0) }) b
  loads_step xs r m h = elim h [
    | inl x ↦ (let p : Place = x.1 in let y = after_puts (a.tables a.in_use) xs in
        let all = puts_at w (fronts q.in_use) (legal q.in_use) (own q.in_use) (q.places q.in_use) (a.tables a.in_use) xs p here x.2 in
        let many : length xs ≡ entries_told r = ap entries_told (sym x.0) in let made : p.made ≡ (q.places q.in_use).made + length xs = all.1 in (
          record a { tables = set_at a.tables a.in_use y },
          inl (x.0, refl),
          record { in_use = g.in_use; tables = changed (moved (q.places q.in_use) m (entries_told r) 0) y (same_place p (moved (q.places q.in_use) m (entries_told r) 0) y x.3 (omega (arith, many, made)) all.0); clones = g.clones },
        ))
    | inr x ↦ (let n : ℕ = x.0 in let p : Place = x.4 in let y = after_puts (a.tables a.in_use) (take n xs) in
        let all = puts_at w (fronts q.in_use) (legal q.in_use) (own q.in_use) (q.places q.in_use) (a.tables a.in_use) (take n xs) p here x.5 in
        let within : n < length xs = slice_get_within xs n x.1 x.3 in
        let long : length (take n xs) ≡ n = length-take-le n xs (omega (arith, within)) in
        let many : n ≡ entries_told r = ap entries_told (sym x.2) in let made : p.made ≡ (q.places q.in_use).made + length (take n xs) = all.1 in
        let u : IsUpTo (fronts q.in_use) (moved p m 0 0) y = stays_at w (fronts q.in_use) (legal q.in_use) (own q.in_use) p y m 0 all.0 x.6.stands in (
          record a { tables = set_at a.tables a.in_use y },
          inr (n, within, x.2, refl),
          record { in_use = g.in_use; tables = changed (moved (q.places q.in_use) m (entries_told r) 0) y (same_place (moved p m 0 0) (moved (q.places q.in_use) m (entries_told r) 0) y refl (omega (arith, many, made, long)) u); clones = g.clones },
        ))
  ]

  -- a command that leaves the entries as they are
  still : (m cut : ℕ) → HasMoment (fronts q.in_use) w (q.places q.in_use) (q.places q.in_use).made m → IsUpTo (fronts q.in_use) (moved (q.places q.in_use) m 0 cut) (a.tables a.in_use)
  still m cut h = stays_at w (fronts q.in_use) (legal q.in_use) (own q.in_use) (q.places q.in_use) (a.tables a.in_use) m cut here h

  asks_step : (n m : ℕ) (P : Pairs → Type 0) → AtClone fronts (q.clones n) m P → (x : Pairs) × (a.clones n ≡ Some x) × P x × (a ≡ a)
  asks_step n m P h = let x = asked fronts (q.clones n) (a.clones n) m P (g.clones n) h in (x.0, x.1, x.2, refl)

  step_of : (c : Command) (r : Reply) (m : ℕ) → Meets s w fronts q c r m → Step s fronts q a c r m
  unfolding SameCopy
  step_of (command.Table name) r m h = record { maps = record a { in_use = s.table name }; answers = (h.0, refl); follows = record { in_use = refl; tables = g.tables; clones = g.clones } }
  step_of (command.Put k v) r m h = let x = writes_step (Put k v) put_reply r m put_tells h in record { maps = x.0; answers = x.1; follows = x.2 }
  step_of (command.Remove k) r m h = let x = writes_step (Remove k) remove_reply r m remove_tells h in record { maps = x.0; answers = x.1; follows = x.2 }
  step_of (command.Get k) r m h =
      let u = still m 0 h.0 in
      let moment : m ≡ (q.places q.in_use).base = moment_is w (fronts q.in_use) (legal q.in_use) (own q.in_use) (q.places q.in_use) (q.places q.in_use).made m h.0 ∙ here.made in
      record {
        maps = a;
        answers = (h.1 ∙ ap (λ (i : ℕ). value_reply (at (map_at (fronts q.in_use) i) k)) moment ∙ ap (λ (x : Pairs). value_reply (at x k)) (sym here.map), refl);
        follows = record { in_use = g.in_use; tables = moved_on (moved (q.places q.in_use) m 0 0) u; clones = g.clones };
      }
  step_of (command.Load file) r m h = let x = loads_step (s.pairs file) r m h in record { maps = x.0; answers = x.1; follows = x.2 }
  step_of (command.Snap n name) r m h =
      let u = still m 1 h.1.stands in
      record {
        maps = record a { clones = set_at a.clones n (Some (a.tables a.in_use)) };
        answers = (h.0, refl);
        follows = record { in_use = g.in_use; tables = moved_on (moved (q.places q.in_use) m 0 1) u; clones = slot n (Some (record { table = q.in_use; moment = m })) (Some (a.tables a.in_use)) u.map };
      }
  step_of (command.Forget n name) r m h = record { maps = record a { clones = set_at a.clones n None }; answers = (h.0, refl); follows = record { in_use = g.in_use; tables = g.tables; clones = slot n None None tt } }
  step_of (command.See n k) r m h = record { maps = a; answers = asks_step n m (λ map. r ≡ value_reply (at map k)) h; follows = g }
  step_of (command.First n) r m h = record { maps = a; answers = asks_step n m (λ map. r ≡ pair_reply (first_pair map)) h; follows = g }
  step_of (command.Last n) r m h = record { maps = a; answers = asks_step n m (λ map. r ≡ pair_reply (last_pair map)) h; follows = g }
  step_of (command.Floor n k) r m h = record { maps = a; answers = asks_step n m (λ map. r ≡ pair_reply (floor map k)) h; follows = g }
  step_of (command.Lower n k) r m h = record { maps = a; answers = asks_step n m (λ map. r ≡ pair_reply (lower map k)) h; follows = g }
  step_of (command.Ceiling n k) r m h = record { maps = a; answers = asks_step n m (λ map. r ≡ pair_reply (ceiling map k)) h; follows = g }
  step_of (command.Higher n k) r m h = record { maps = a; answers = asks_step n m (λ map. r ≡ pair_reply (higher map k)) h; follows = g }
  step_of (command.Count n lo hi) r m h = record { maps = a; answers = asks_step n m (λ map. r ≡ reply.Count (length (range map lo hi))) h; follows = g }
  step_of (command.Export n lo hi file) r m h = record { maps = a; answers = asks_step n m (λ map. r ≡ reply.Exported (length (range map lo hi))) h; follows = g }
  step_of (command.Depth n) r m h = let x = deep fronts s (q.clones n) (a.clones n) r m (g.clones n) h in record { maps = a; answers = (x.0, x.1, x.2, refl); follows = g }

  one_copied : (c : Command) → export_of fronts q c ≡ copied_by a c
  one_copied (command.Export n lo hi file) = copied fronts (q.clones n) (a.clones n) lo hi file (g.clones n)
  one_copied _ = refl

module _ (s : Setting) (w : ℕ) (fronts : ℕ → Front) (legal : (t : ℕ) → IsLegal (fronts t).history) (own : (t : ℕ) → AllOwn w (fronts t).history) where
  walk : (q : Matching) (a : Maps) → Follows fronts q a → (ts : List Told) → MeetsAll s w fronts q ts
      → AnswersAll s a (list_map (λ (t : Told). t.command) ts) (list_map (λ (t : Told). t.reply) ts) (exports_of s fronts q ts)
  walk q a g [] h = refl
  walk q a g (t ∷ ts) h =
      let x = step_of s w fronts legal own q a g t.command t.reply t.moment h.0 in
      (x.maps, x.answers, exports_of s fronts (next s q t.command t.reply t.moment) ts, ap (λ (l : List (List ℕ × Pairs)). l ++ exports_of s fronts (next s q t.command t.reply t.moment) ts) (one_copied s w fronts legal own q a g t.command), walk (next s q t.command t.reply t.moment) x.maps x.follows ts h.1)

pub alone_answers : AloneAnswers
unfolding SameCopy
alone_answers s w fronts cs rs es alone h =
    let own : (t : ℕ) → AllOwn w (fronts t).history = λ t. all_own w (fronts t).history (alone.others t) in
    let first : Follows fronts start empty_maps = record { in_use = refl; tables = λ t. record { within = omega arith; made = refl; map = refl }; clones = λ n. tt } in
    let x = walk s w fronts alone.legal own start empty_maps first h.told h.fits.each in
    let P : List Command → Type 0 = λ l. AnswersAll s empty_maps l (list_map (λ (t : Told). t.reply) h.told) (exports_of s fronts start h.told) in
    let R : List Reply → Type 0 = λ l. AnswersAll s empty_maps cs l (exports_of s fronts start h.told) in
    let T : List (List ℕ × Pairs) → Type 0 = λ l. AnswersAll s empty_maps cs rs l in
    subst T h.exported (subst R h.trace.of_replies (subst P h.trace.of_commands x))
