-- The commands of a session, one after another.
use Rattle.std.proofs.Common.{◌≤◌, ◌≡◌, ◌≢◌, ◌<◌, ◌-◌, ◌^◌, ℕ, Bool, List, [], ◌∷◌, ◌++◌, length, Option, inl, inr, Some, None, refl, ap, sym, ◌∙◌, subst, arith, eq-eqb, ne_eqb, eqb, false, take, append_assoc, append-nil}
use native.Mathlib.Decide.{ℕ_discrete}
use mathlib.Core.Logic.{dite}
use Rattle.std.specs.Prelude.{min}
use Rattle.std.proofs.lemmas.List.{map-append}
use Rattle.snap_model.specs.History.{after, calls_of, Begins}
use Rattle.snap_model.specs.SortedMap.{Pairs, at, first_pair, last_pair, range, floor, lower, ceiling, higher}
use Rattle.snap_model.specs.declared.call.Call.TheVariants.{Put, Remove}
use Rattle.snap_model.specs.declared.call.Entry.{Entry}
use Rattle.snap_model.specs.declared.command.Command.{Command}
use Rattle.snap_model.specs.declared.command.Command.TheVariants as command
use Rattle.snap_model.specs.declared.command.Reply.{Reply}
use Rattle.snap_model.specs.declared.command.Reply.TheVariants as reply
use Rattle.snap_fits.specs.Fits.{Setting, Front, Place, Clone, Matching, Told, TellsDepth, IsDepth, MeetsDepth, MeetsWrite, MeetsGet, MeetsLoad, IsCut, moved, set_at, with_place, AtClone, entries_told, put_reply, remove_reply, value_reply, pair_reply, Meets, MeetsAll, matching_after, start, next, Fits, export_at, export_of, exports_of}
use Rattle.snap_fits.specs.Sessions.{Track, KeptClone, Course, MayReach, MayReachAll, SameClone, AgreesAt, Agrees, SessionOk, Covers, exported, exported_from}
use Rattle.snap_fits.specs.Steps.{TrackGoesOn, TrackReads, TrackCuts, OnPass, Learns, SameClones, OneClone, WriteAnswers, LoadAnswers, OfKept, Deep, DepthAnswers, Same, Steps}
use Rattle.snap_fits.specs.Laws.{ServedBegins, ServedGoesOn, ServedEnds}
use Rattle.snap_fits.proofs.Prefixes.{begins_trans, begins_is, begins_length, take_seen}
use Rattle.snap_fits.proofs.Lengths.{range_length, after_length}
use Rattle.snap_fits.proofs.Tracks.{later_is, reaches_back, agrees_learnt}
use Rattle.snap_fits.proofs.Steps.{PassStep, write_step, get_step, cut_step, load_step, put_tells, remove_tells}

abbrev line : Command → Reply → ℕ → Told
line c r m = record { command = c; reply = r; moment = m }

-- a command of a session: at m, the session stands where it has come to, and each front that it reaches meets it
pub record Step (s : Setting) (w : ℕ) (q : Matching) (a : Course) (c : Command) (r : Reply) (b : Course) : Type 0 where
  pub moment : ℕ
  pub agrees : Agrees w (next s q c r moment) b
  pub later : (t : ℕ) → TrackGoesOn (a.passes t) (b.passes t)
  pub meets : (fronts : ℕ → Front) → MayReachAll s w b fronts → Meets s w fronts q c r moment

set_here : {X : Type 0} (f : ℕ → X) (n i : ℕ) (x : X) → i ≡ n → set_at f n x i ≡ x
set_here f n i x e = rw (eq-eqb i n e)

set_there : {X : Type 0} (f : ℕ → X) (n i : ℕ) (x : X) → i ≢ n → set_at f n x i ≡ f i
set_there f n i x e = let q : eqb i n ≡ false = ne_eqb i n e in rw q

-- a clone stays the same clone
clone_kept : (f g : ℕ → Track) (c : Option Clone) (v : Option KeptClone) → ((t : ℕ) → TrackGoesOn (f t) (g t)) → SameClone f c v → SameClone g c v
clone_kept f g None None l h = tt
clone_kept f g (Some c) (Some v) l h = (h.0, h.1, begins_trans v.base (f v.table).seen (g v.table).seen h.2 (l v.table).seen, let low = h.3 in let on = (l v.table).handed in omega arith)
clone_kept f g None (Some v) l h = absurd h
clone_kept f g (Some c) None l h = absurd h

clones_kept : (q : Matching) (a b : Course) → ((t : ℕ) → TrackGoesOn (a.passes t) (b.passes t)) → SameClones a b → ((n : ℕ) → SameClone a.passes (q.clones n) (a.clones n)) → (n : ℕ) → SameClone b.passes (q.clones n) (b.clones n)
clones_kept q a b l same h n = let P : Option KeptClone → Type 0 = λ v. SameClone b.passes (q.clones n) v in subst P (sym (same n)) (clone_kept a.passes b.passes (q.clones n) (a.clones n) l (h n))

moment_of : Option Clone → ℕ
moment_of None = 0
moment_of (Some c) = c.moment

-- the map at a clone's moment is that after its base
map_then : (s : Setting) (w : ℕ) (a : Course) (c : Clone) (v : KeptClone) (fronts : ℕ → Front) → SameClone a.passes (Some c) (Some v) → MayReachAll s w a fronts → after (take c.moment (fronts c.table).history) ≡ after v.base
map_then s w a c v fronts h r =
    let b : Begins v.base (fronts v.table).history = begins_trans v.base (a.passes v.table).seen (fronts v.table).history h.2 (r v.table).seen in
    ap (λ (i : ℕ). after (take c.moment (fronts i).history)) h.0 ∙ ap (λ (i : ℕ). after (take i (fronts v.table).history)) h.1 ∙ ap after (take_seen v.base (fronts v.table).history b)

-- an answer of a clone is one of its moment
at_clone : (s : Setting) (w : ℕ) (a : Course) (P : Pairs → Type 0) (c : Option Clone) (v : Option KeptClone) → SameClone a.passes c v → OfKept v P → (fronts : ℕ → Front) → MayReachAll s w a fronts → AtClone fronts c (moment_of c) P
unfolding moment_of
at_clone s w a P None None h t fronts r = absurd t
at_clone s w a P None (Some v) h t fronts r = absurd h
at_clone s w a P (Some c) None h t fronts r = absurd h
at_clone s w a P (Some c) (Some v) h t fronts r =
    (refl, subst P (sym (map_then s w a c v fronts h r)) t)

-- where nothing changed, the session stands where it stood
agrees_same : (w : ℕ) (q : Matching) (a b : Course) → Agrees w q a → Same a b → Agrees w q b
agrees_same w q a b g h = record {
  in_use = g.in_use ∙ sym h.in_use;
  places = λ t. let P : Track → Type 0 = λ x. AgreesAt w (q.places t) x in subst P (sym (h.passes t)) (g.places t);
  clones = clones_kept q a b (λ t. later_is (a.passes t) (b.passes t) (h.passes t)) h.clones g.clones;
}

reaches_same : (s : Setting) (w : ℕ) (a b : Course) (fronts : ℕ → Front) → ((t : ℕ) → b.passes t ≡ a.passes t) → MayReachAll s w b fronts → MayReachAll s w a fronts
reaches_same s w a b fronts h r t = let P : Track → Type 0 = λ x. MayReach s w x (fronts t) in subst P (h t) (r t)

module _ (s : Setting) (w : ℕ) (q : Matching) (a b : Course) (g : Agrees w q a) where
  -- an answer of a clone
  tells_step : (n : ℕ) (P : Pairs → Type 0) → Same a b × OfKept (a.clones n) P → (fronts : ℕ → Front) → MayReachAll s w b fronts → AtClone fronts (q.clones n) (moment_of (q.clones n)) P
  tells_step n P h fronts r = at_clone s w a P (q.clones n) (a.clones n) (g.clones n) h.1 fronts (reaches_same s w a b fronts h.0.passes r)

  same_agrees : Same a b → Agrees w q b
  same_agrees h = agrees_same w q a b g h

  same_later : Same a b → (t : ℕ) → TrackGoesOn (a.passes t) (b.passes t)
  same_later h t = later_is (a.passes t) (b.passes t) (h.passes t)

  -- a command on the table in use: its pass, at the place of that table
  module _ (P : Track → Track → Type 0) (h : OnPass a b P) where
    here_used : P (a.passes q.in_use) (b.passes q.in_use)
    here_used = let F : ℕ → Type 0 = λ u. P (a.passes u) (b.passes u) in subst F (sym g.in_use) h.here

    module _ (made cut : ℕ) (M : Front → ℕ → Type 0) (x : PassStep s w (q.places q.in_use) (a.passes q.in_use) (b.passes q.in_use) made cut M) where
      used_later : (t : ℕ) → TrackGoesOn (a.passes t) (b.passes t)
      used_later t = dite (ℕ_discrete t q.in_use)
          (λ e. let F : ℕ → Type 0 = λ u. TrackGoesOn (a.passes u) (b.passes u) in subst F (sym e) x.later)
          (λ n. later_is (a.passes t) (b.passes t) (h.others t (λ e. n (e ∙ sym g.in_use))))

      used_places : (t : ℕ) → AgreesAt w (set_at q.places q.in_use (moved (q.places q.in_use) x.moment made cut) t) (b.passes t)
      used_places t = dite (ℕ_discrete t q.in_use)
          (λ e. let F : Place → Type 0 = λ p. AgreesAt w p (b.passes t) in
          let G : ℕ → Type 0 = λ u. AgreesAt w (moved (q.places q.in_use) x.moment made cut) (b.passes u) in
          subst F (sym (set_here q.places q.in_use t (moved (q.places q.in_use) x.moment made cut) e)) (subst G (sym e) x.agrees))
          (λ n. let F : Place → Type 0 = λ p. AgreesAt w p (b.passes t) in
          let G : Track → Type 0 = λ p. AgreesAt w (q.places t) p in
          subst F (sym (set_there q.places q.in_use t (moved (q.places q.in_use) x.moment made cut) n)) (subst G (sym (h.others t (λ e. n (e ∙ sym g.in_use)))) (g.places t)))

      used_agrees : SameClones a b → Agrees w (with_place q x.moment made cut) b
      used_agrees same = record {
        in_use = g.in_use ∙ sym h.in_use;
        places = used_places;
        clones = clones_kept q a b used_later same g.clones;
      }

-- the clones after one slot changed
one_clone : (q : Matching) (a b : Course) (n : ℕ) (c : Option Clone) (v : Option KeptClone) → ((t : ℕ) → TrackGoesOn (a.passes t) (b.passes t)) → ((i : ℕ) → SameClone a.passes (q.clones i) (a.clones i)) → SameClone b.passes c v → OneClone a b n v → (i : ℕ) → SameClone b.passes (set_at q.clones n c i) (b.clones i)
one_clone q a b n c v l h here o i = dite (ℕ_discrete i n)
    (λ e. let F : Option Clone → Type 0 = λ x. SameClone b.passes x (b.clones i) in
    let G : Option KeptClone → Type 0 = λ x. SameClone b.passes c x in
    subst F (sym (set_here q.clones n i c e)) (subst G (sym (ap b.clones e ∙ o.0)) here))
    (λ d. let F : Option Clone → Type 0 = λ x. SameClone b.passes x (b.clones i) in
    let G : Option KeptClone → Type 0 = λ x. SameClone b.passes (q.clones i) x in
    subst F (sym (set_there q.clones n i c d)) (subst G (sym (o.1 i d)) (clone_kept a.passes b.passes (q.clones i) (a.clones i) l (h i))))

-- a count of no more pairs than there were writes
counted : (s : Setting) (w : ℕ) (a : Course) (lo hi : ℕ) (r : Reply) (v : Option KeptClone) → OfKept v (λ map. r ≡ reply.Count (min (length (range map lo hi)) (2 ^ 64 - 1)))
    → (c : Option Clone) → SameClone a.passes c v → (fronts : ℕ → Front) → MayReachAll s w a fronts → OfKept v (λ map. r ≡ reply.Count (length (range map lo hi)))
counted s w a lo hi r None t c h fronts z = absurd t
counted s w a lo hi r (Some v) t None h fronts z = absurd h
counted s w a lo hi r (Some v) t (Some c) h fronts z =
    let b : length v.base ≤ length (fronts v.table).history = begins_length v.base (fronts v.table).history (begins_trans v.base (a.passes v.table).seen (fronts v.table).history h.2 (z v.table).seen) in
    let few : length (fronts v.table).history < 2 ^ 64 = (z v.table).few in
    let n = length (range (after v.base) lo hi) in
    let u = range_length (after v.base) lo hi in let m = after_length v.base in
    t ∙ ap reply.Count (omega (arith, u, m, b, few))

module _ (s : Setting) (w : ℕ) (q : Matching) (a b : Course) (g : Agrees w q a) where
  count_step : (n lo hi : ℕ) (r : Reply) → Same a b × OfKept (a.clones n) (λ map. r ≡ reply.Count (min (length (range map lo hi)) (2 ^ 64 - 1))) → (fronts : ℕ → Front) → MayReachAll s w b fronts → AtClone fronts (q.clones n) (moment_of (q.clones n)) (λ map. r ≡ reply.Count (length (range map lo hi)))
  count_step n lo hi r h fronts z =
      let y = reaches_same s w a b fronts h.0.passes z in
      at_clone s w a (λ map. r ≡ reply.Count (length (range map lo hi))) (q.clones n) (a.clones n) (g.clones n) (counted s w a lo hi r (a.clones n) h.1 (q.clones n) (g.clones n) fronts y) fronts y

-- the depth of a clone
depth_later : (s : Setting) (a b : Course) (v : Option KeptClone) (r : Reply) → DepthAnswers s a v r b → (t : ℕ) → TrackGoesOn (a.passes t) (b.passes t)
depth_later s a b None r h t = absurd h
depth_later s a b (Some v) r h t = dite (ℕ_discrete t v.table)
    (λ e. let P : ℕ → Type 0 = λ u. TrackGoesOn (a.passes u) (b.passes u) in subst P (sym e) h.0.here.on)
    (λ n. later_is (a.passes t) (b.passes t) (h.0.others t n))

depth_place : (s : Setting) (w : ℕ) (p : Place) (a b : Course) (v : Option KeptClone) (r : Reply) → DepthAnswers s a v r b → (t : ℕ) → AgreesAt w p (a.passes t) → AgreesAt w p (b.passes t)
depth_place s w p a b None r h t g = absurd h
depth_place s w p a b (Some v) r h t g = dite (ℕ_discrete t v.table)
    (λ e. agrees_learnt w p (a.passes t) (b.passes t) g (let P : ℕ → Type 0 = λ u. Learns (a.passes u) (b.passes u) in subst P (sym e) h.0.here))
    (λ n. let P : Track → Type 0 = λ x. AgreesAt w p x in subst P (sym (h.0.others t n)) g)

depth_in_use : (s : Setting) (a b : Course) (v : Option KeptClone) (r : Reply) → DepthAnswers s a v r b → b.in_use ≡ a.in_use
depth_in_use s a b None r h = absurd h
depth_in_use s a b (Some v) r h = h.0.in_use

deep_is : (s : Setting) (w : ℕ) (v : KeptClone) (pass : Track) (f : Front) (depth : ℕ) (settled : Bool) → v.next ≤ pass.handed → MayReach s w pass f → Deep s v pass depth settled → IsDepth s f (length (after v.base)) depth settled
deep_is s w v pass f depth settled noted r h =
    let over : pass.handed ≤ f.drawn = r.handed in
    let top : f.drawn ≤ s.rows = r.rows in
    let low : depth ≤ v.next = h.low in
    record {
      can = h.can;
      low = omega arith;
      cause = λ e. elim (h.cause e) [
        | inl out ↦ inl (omega (arith, out, noted, over, top))
        | inr worn ↦ inr (r.worn worn)
      ];
    }

depth_at : (s : Setting) (w : ℕ) (a b : Course) (c : Option Clone) (v : Option KeptClone) (r : Reply) → SameClone b.passes c v → DepthAnswers s a v r b → (fronts : ℕ → Front) → MayReachAll s w b fronts → MeetsDepth s fronts c r (moment_of c)
unfolding moment_of
depth_at s w a b None None r h t fronts z = absurd t
depth_at s w a b None (Some v) r h t fronts z = absurd h
depth_at s w a b (Some c) None r h t fronts z = absurd h
depth_at s w a b (Some c) (Some v) r h t fronts z =
    let pairs = length (after v.base) in
    let deep : IsDepth s (fronts v.table) pairs t.1.0 t.1.1 = deep_is s w v (b.passes v.table) (fronts v.table) t.1.0 t.1.1 h.3 (z v.table) t.1.3 in
    let told : TellsDepth r pairs (IsDepth s (fronts v.table) pairs) = (t.1.0, t.1.1, t.1.2, deep) in
    let P : ℕ → Type 0 = λ u. TellsDepth r pairs (IsDepth s (fronts u) pairs) in
    let Q : Pairs → Type 0 = λ m. TellsDepth r (length m) (IsDepth s (fronts c.table) (length m)) in
    (refl, subst Q (sym (map_then s w b c v fronts h z)) (subst P (sym h.0) told))

depth_step : (s : Setting) (w : ℕ) (q : Matching) (a b : Course) (n : ℕ) (r : Reply) → Agrees w q a → DepthAnswers s a (a.clones n) r b → SameClones a b → Step s w q a (command.Depth n) r b
depth_step s w q a b n r g h same =
    let later : (t : ℕ) → TrackGoesOn (a.passes t) (b.passes t) = depth_later s a b (a.clones n) r h in
    record {
      moment = moment_of (q.clones n);
      agrees = record {
        in_use = g.in_use ∙ sym (depth_in_use s a b (a.clones n) r h);
        places = λ t. depth_place s w (q.places t) a b (a.clones n) r h t (g.places t);
        clones = clones_kept q a b later same g.clones;
      };
      later = later;
      meets = depth_at s w a b (q.clones n) (a.clones n) r (clone_kept a.passes b.passes (q.clones n) (a.clones n) later (g.clones n)) h;
    }

pub step_of : (s : Setting) (w : ℕ) (q : Matching) (a b : Course) (c : Command) (r : Reply) → Agrees w q a → Steps s a c r b → Step s w q a c r b
unfolding moment_of
step_of s w q a b (command.Put k v) r g h =
    let P : Track → Track → Type 0 = WriteAnswers s.rows (Put k v) put_reply r in
    let M : Front → ℕ → Type 0 = λ f m. MeetsWrite s f w (q.places q.in_use) (Put k v) put_reply r m in
    let x : PassStep s w (q.places q.in_use) (a.passes q.in_use) (b.passes q.in_use) (entries_told r) 0 M = write_step s w (q.places q.in_use) (a.passes q.in_use) (b.passes q.in_use) (Put k v) put_reply r put_tells (g.places q.in_use) (here_used s w q a b g P h.0) in
    record { moment = x.moment; agrees = used_agrees s w q a b g P h.0 (entries_told r) 0 M x h.1; later = used_later s w q a b g P h.0 (entries_told r) 0 M x; meets = λ fronts z. x.meets (fronts q.in_use) (z q.in_use) }
step_of s w q a b (command.Remove k) r g h =
    let P : Track → Track → Type 0 = WriteAnswers s.rows (Remove k) remove_reply r in
    let M : Front → ℕ → Type 0 = λ f m. MeetsWrite s f w (q.places q.in_use) (Remove k) remove_reply r m in
    let x : PassStep s w (q.places q.in_use) (a.passes q.in_use) (b.passes q.in_use) (entries_told r) 0 M = write_step s w (q.places q.in_use) (a.passes q.in_use) (b.passes q.in_use) (Remove k) remove_reply r remove_tells (g.places q.in_use) (here_used s w q a b g P h.0) in
    record { moment = x.moment; agrees = used_agrees s w q a b g P h.0 (entries_told r) 0 M x h.1; later = used_later s w q a b g P h.0 (entries_told r) 0 M x; meets = λ fronts z. x.meets (fronts q.in_use) (z q.in_use) }
step_of s w q a b (command.Get k) r g h =
    let P : Track → Track → Type 0 = λ old new. TrackReads old new k h.0.0 in
    let M : Front → ℕ → Type 0 = λ f m. MeetsGet f w (q.places q.in_use) k (value_reply h.0.0) m in
    let x : PassStep s w (q.places q.in_use) (a.passes q.in_use) (b.passes q.in_use) 0 0 M = get_step s w (q.places q.in_use) (a.passes q.in_use) (b.passes q.in_use) k h.0.0 (g.places q.in_use) (here_used s w q a b g P h.0.2) in
    let R : Reply → Type 0 = λ t. (fronts : ℕ → Front) → MayReachAll s w b fronts → MeetsGet (fronts q.in_use) w (q.places q.in_use) k t x.moment in
    record { moment = x.moment; agrees = used_agrees s w q a b g P h.0.2 0 0 M x h.1; later = used_later s w q a b g P h.0.2 0 0 M x; meets = subst R (sym h.0.1) (λ fronts z. x.meets (fronts q.in_use) (z q.in_use)) }
step_of s w q a b (command.Load file) r g h =
    let P : Track → Track → Type 0 = LoadAnswers s.rows (s.pairs file) r in
    let M : Front → ℕ → Type 0 = λ f m. MeetsLoad s f w (q.places q.in_use) (s.pairs file) r m in
    let x : PassStep s w (q.places q.in_use) (a.passes q.in_use) (b.passes q.in_use) (entries_told r) 0 M = load_step s w (q.places q.in_use) (a.passes q.in_use) (b.passes q.in_use) (s.pairs file) r (g.places q.in_use) (here_used s w q a b g P h.0) in
    record { moment = x.moment; agrees = used_agrees s w q a b g P h.0 (entries_told r) 0 M x h.1; later = used_later s w q a b g P h.0 (entries_told r) 0 M x; meets = λ fronts z. x.meets (fronts q.in_use) (z q.in_use) }
step_of s w q a b (command.Snap n name) r g h =
    let base : List Entry = h.1 in
    let counted : ℕ = h.2 in
    let P : Track → Track → Type 0 = λ old new. TrackCuts old new base counted in
    let M : Front → ℕ → Type 0 = λ f m. IsCut f w (q.places q.in_use) m in
    let k : TrackCuts (a.passes q.in_use) (b.passes q.in_use) base counted = here_used s w q a b g P h.3 in
    let x : PassStep s w (q.places q.in_use) (a.passes q.in_use) (b.passes q.in_use) 0 1 M = cut_step s w (q.places q.in_use) (a.passes q.in_use) (b.passes q.in_use) base counted (g.places q.in_use) k in
    let l : (t : ℕ) → TrackGoesOn (a.passes t) (b.passes t) = used_later s w q a b g P h.3 0 1 M x in
    record {
      moment = length (b.passes q.in_use).seen;
      agrees = record {
        in_use = g.in_use ∙ sym h.3.in_use;
        places = used_places s w q a b g P h.3 0 1 M x;
        clones = one_clone q a b n (Some (record { table = q.in_use; moment = length (b.passes q.in_use).seen })) (Some (record { table = a.in_use; base = base; next = counted })) l g.clones
            (g.in_use, ap length k.whole, begins_is base (b.passes a.in_use).seen (sym h.3.here.whole), h.3.here.handed) h.4;
      };
      later = l;
      meets = λ fronts z. (h.0, x.meets (fronts q.in_use) (z q.in_use));
    }
step_of s w q a b (command.Forget n name) r g h =
    let l : (t : ℕ) → TrackGoesOn (a.passes t) (b.passes t) = λ t. later_is (a.passes t) (b.passes t) (h.3 t) in
    record {
      moment = moment_of (q.clones n);
      agrees = record {
        in_use = g.in_use ∙ sym h.4;
        places = λ t. let P : Track → Type 0 = λ x. AgreesAt w (q.places t) x in subst P (sym (h.3 t)) (g.places t);
        clones = one_clone q a b n None None l g.clones tt h.2;
      };
      later = l;
      meets = λ fronts z. (h.0, at_clone s w a (λ _. Unit {0}) (q.clones n) (a.clones n) (g.clones n) h.1 fronts (reaches_same s w a b fronts h.3 z));
    }
step_of s w q a b (command.Table name) r g h =
    let l : (t : ℕ) → TrackGoesOn (a.passes t) (b.passes t) = λ t. later_is (a.passes t) (b.passes t) (h.2 t) in
    record {
      moment = (q.places (s.table name)).base;
      agrees = record {
        in_use = sym h.1;
        places = λ t. let P : Track → Type 0 = λ x. AgreesAt w (q.places t) x in subst P (sym (h.2 t)) (g.places t);
        clones = clones_kept q a b l h.3 g.clones;
      };
      later = l;
      meets = λ fronts z. (h.0, refl);
    }
step_of s w q a b (command.See n k) r g h = record { moment = moment_of (q.clones n); agrees = same_agrees s w q a b g h.0; later = same_later s w q a b g h.0; meets = tells_step s w q a b g n (λ map. r ≡ value_reply (at map k)) h }
step_of s w q a b (command.First n) r g h = record { moment = moment_of (q.clones n); agrees = same_agrees s w q a b g h.0; later = same_later s w q a b g h.0; meets = tells_step s w q a b g n (λ map. r ≡ pair_reply (first_pair map)) h }
step_of s w q a b (command.Last n) r g h = record { moment = moment_of (q.clones n); agrees = same_agrees s w q a b g h.0; later = same_later s w q a b g h.0; meets = tells_step s w q a b g n (λ map. r ≡ pair_reply (last_pair map)) h }
step_of s w q a b (command.Floor n k) r g h = record { moment = moment_of (q.clones n); agrees = same_agrees s w q a b g h.0; later = same_later s w q a b g h.0; meets = tells_step s w q a b g n (λ map. r ≡ pair_reply (floor map k)) h }
step_of s w q a b (command.Lower n k) r g h = record { moment = moment_of (q.clones n); agrees = same_agrees s w q a b g h.0; later = same_later s w q a b g h.0; meets = tells_step s w q a b g n (λ map. r ≡ pair_reply (lower map k)) h }
step_of s w q a b (command.Ceiling n k) r g h = record { moment = moment_of (q.clones n); agrees = same_agrees s w q a b g h.0; later = same_later s w q a b g h.0; meets = tells_step s w q a b g n (λ map. r ≡ pair_reply (ceiling map k)) h }
step_of s w q a b (command.Higher n k) r g h = record { moment = moment_of (q.clones n); agrees = same_agrees s w q a b g h.0; later = same_later s w q a b g h.0; meets = tells_step s w q a b g n (λ map. r ≡ pair_reply (higher map k)) h }
step_of s w q a b (command.Count n lo hi) r g h = record { moment = moment_of (q.clones n); agrees = same_agrees s w q a b g h.0; later = same_later s w q a b g h.0; meets = count_step s w q a b g n lo hi r h }
step_of s w q a b (command.Export n lo hi file) r g h = record { moment = moment_of (q.clones n); agrees = same_agrees s w q a b g h.0; later = same_later s w q a b g h.0; meets = tells_step s w q a b g n (λ map. r ≡ reply.Exported (length (range map lo hi))) h }
step_of s w q a b (command.Depth n) r g h = depth_step s w q a b n r g h.0 h.1

meets_more : (s : Setting) (w : ℕ) (fronts : ℕ → Front) (q : Matching) (ts : List Told) (t : Told) → MeetsAll s w fronts q ts → Meets s w fronts (matching_after s q ts) t.command t.reply t.moment → MeetsAll s w fronts q (ts ++ t ∷ [])
meets_more s w fronts q [] t h m = (m, tt)
meets_more s w fronts q (x ∷ ts) t h m = (h.0, meets_more s w fronts (next s q x.command x.reply x.moment) ts t h.1 m)

after_more : (s : Setting) (q : Matching) (ts : List Told) (t : Told) → matching_after s q (ts ++ t ∷ []) ≡ next s (matching_after s q ts) t.command t.reply t.moment
after_more s q [] t = refl
after_more s q (x ∷ ts) t = after_more s (next s q x.command x.reply x.moment) ts t

-- the exports of a session
exports_more : (s : Setting) (fronts : ℕ → Front) (q : Matching) (ts : List Told) (t : Told) → exports_of s fronts q (ts ++ t ∷ []) ≡ exports_of s fronts q ts ++ export_of fronts (matching_after s q ts) t.command
exports_more s fronts q [] t = append-nil (export_of fronts q t.command)
exports_more s fronts q (x ∷ ts) t =
    ap (λ (l : List (List ℕ × Pairs)). export_of fronts q x.command ++ l) (exports_more s fronts (next s q x.command x.reply x.moment) ts t)
    ∙ sym (append_assoc (export_of fronts q x.command) (exports_of s fronts (next s q x.command x.reply x.moment) ts) (export_of fronts (matching_after s (next s q x.command x.reply x.moment) ts) t.command))

same_export : (s : Setting) (w : ℕ) (a : Course) (c : Option Clone) (v : Option KeptClone) (lo hi : ℕ) (file : List ℕ) (fronts : ℕ → Front) → SameClone a.passes c v → MayReachAll s w a fronts → export_at fronts c lo hi file ≡ exported_from v lo hi file
same_export s w a None None lo hi file fronts h r = refl
same_export s w a None (Some v) lo hi file fronts h r = absurd h
same_export s w a (Some c) None lo hi file fronts h r = absurd h
same_export s w a (Some c) (Some v) lo hi file fronts h r =
    ap (λ (m : Pairs). (file, range m lo hi) ∷ []) (map_then s w a c v fronts h r)

one_export : (s : Setting) (w : ℕ) (q : Matching) (a : Course) (c : Command) (fronts : ℕ → Front) → Agrees w q a → MayReachAll s w a fronts → export_of fronts q c ≡ exported a c
one_export s w q a (command.Export n lo hi file) fronts g r = same_export s w a (q.clones n) (a.clones n) lo hi file fronts (g.clones n) r
one_export s w q a _ fronts g r = refl

goes_on : (s : Setting) (w : ℕ) (told : List Told) (es : List (List ℕ × Pairs)) (a b : Course) (c : Command) (r : Reply) → SessionOk s w told es a → Steps s a c r b → (m : ℕ) × SessionOk s w (told ++ line c r m ∷ []) (es ++ exported a c) b
goes_on s w told es a b c r ok h =
    let q : Matching = matching_after s start told in
    let x : Step s w q a c r b = step_of s w q a b c r ok.agrees h in
    let P : Matching → Type 0 = λ z. Agrees w z b in
    let back : (fronts : ℕ → Front) → MayReachAll s w b fronts → MayReachAll s w a fronts = λ fronts z t. reaches_back s w (a.passes t) (b.passes t) (fronts t) (x.later t) (z t) in (
      x.moment,
      record {
        agrees = subst P (sym (after_more s start told (line c r x.moment))) x.agrees;
        meets = λ fronts z. meets_more s w fronts start told (line c r x.moment) (ok.meets fronts (back fronts z)) (x.meets fronts z);
        exported = λ fronts z. exports_more s fronts start told (line c r x.moment)
            ∙ ap (λ (l : List (List ℕ × Pairs)). l ++ export_of fronts q c) (ok.exported fronts (back fronts z))
            ∙ ap (λ (l : List (List ℕ × Pairs)). es ++ l) (one_export s w q a c fronts ok.agrees (back fronts z));
      },
    )

pub served_begins : ServedBegins
served_begins s w a h = record {
  told = [];
  trace = record { of_commands = refl; of_replies = refl };
  ok = record {
    agrees = record {
      in_use = sym h.in_use;
      places = λ t. record {
        who = h.who t;
        own = ap (λ (l : List Entry). calls_of l (a.passes t).who) (h.seen t) ∙ sym (h.mine t);
        base = omega arith;
        made = sym (ap length (h.mine t));
        cut = sym (ap length (h.cuts t));
      };
      clones = λ n. let P : Option KeptClone → Type 0 = λ v. SameClone a.passes None v in subst P (sym (h.clones n)) tt;
    };
    meets = λ fronts r. tt;
    exported = λ fronts r. refl;
  };
}

pub served_goes_on : ServedGoesOn
served_goes_on s w cs rs es a b c r v h =
    let x = goes_on s w v.told es a b c r v.ok h in
    record {
      told = v.told ++ line c r x.0 ∷ [];
      trace = record {
        of_commands = map-append (λ (t : Told). t.command) v.told (line c r x.0 ∷ []) ∙ ap (λ (l : List Command). l ++ c ∷ []) v.trace.of_commands;
        of_replies = map-append (λ (t : Told). t.reply) v.told (line c r x.0 ∷ []) ∙ ap (λ (l : List Reply). l ++ r ∷ []) v.trace.of_replies;
      };
      ok = x.1;
    }

ends : (s : Setting) (w : ℕ) (told : List Told) (es : List (List ℕ × Pairs)) (a : Course) (fronts : ℕ → Front) → SessionOk s w told es a → ((t : ℕ) → Covers s w (a.passes t) (fronts t)) → Fits s w fronts told
ends s w told es a fronts ok h = record {
  each = ok.meets fronts (λ t. let x = h t in x.reaches);
  matched = λ t. record {
    entries = let x : Covers s w (a.passes t) (fronts t) = h t in ap length x.mine ∙ sym (let y : AgreesAt w ((matching_after s start told).places t) (a.passes t) = ok.agrees.places t in y.made);
    cuts = let x : Covers s w (a.passes t) (fronts t) = h t in ap length x.cuts ∙ sym (let y : AgreesAt w ((matching_after s start told).places t) (a.passes t) = ok.agrees.places t in y.cut);
  };
}

pub served_ends : ServedEnds
served_ends s w cs rs es a fronts v h = record {
  told = v.told;
  trace = v.trace;
  fits = ends s w v.told es a fronts v.ok h;
  exported = v.ok.exported fronts (λ t. let x = h t in x.reaches);
}
