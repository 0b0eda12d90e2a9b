-- What the workers left, from their seats as they ended.
use Rattle.std.proofs.Common.{zero, suc, ◌≡◌, ◌≤◌, ◌<◌, ◌+◌, ◌++◌, ℕ, List, [], ◌∷◌, Option, Result, Ok, Err, length, get_or, take, refl, ap, sym, ◌∙◌, subst, append_assoc, arith}
use Rattle.std.specs.Prelude.{All, OnOk, map, slice_index_or}
use Rattle.std.proofs.{lemmas.List.Elements.All-append, Math.Seq.take-append_seam}
use Rattle.snap_prelude.proofs.Common.{get_or-map, length-map}
use Rattle.snap_desk.specs.{Collecting.Collects, Collecting.Drains, Collecting.rests_from, Collecting.TakesParcels}
use Rattle.snap_desk.specs.{Puts.IsPutOut, declared.collecting.Collector.Collector}
use Rattle.snap_desk.proofs.{Gathering.collects_more, Names.some_of}
use Rattle.snap_io.specs.Prelude.{Files}
use Rattle.snap_outlet.specs.{Outlets.OutletId, Outlets.pieces_of, Posts.AreAllPut, Posts.AreNumbered, Posts.parcels}
use Rattle.snap_outlet.specs.{Posts.PostAt, Posts.put_at, Posts.rests, declared.piece.Piece.Piece}
use Rattle.snap_outlet.specs.{declared.view.Parcel.Parcel}
use Rattle.snap_service.specs.Prelude.{AreSeated}
use Rattle.snap_text.specs.LoadFiles.{Loads}
use Rattle.snap_crew.specs.{Leaving.done_of, Leaving.HasDone, Leaving.HasLeft, Leaving.RunsAll, Leaving.Settles}
use Rattle.snap_crew.specs.{Seats.CanSit, Seats.HasPutOut, Seats.HasSat, Works.script_commands}
use Rattle.snap_crew.specs.{declared.leaving.Done.Done, declared.seats.Seat.Seat}

-- what waits at all posts
pub rests_same : (n : ℕ) (posts : List PostAt) → rests_from n (map (λ p. p.waiting) posts) ≡ rests n posts
rests_same n [] = refl
rests_same n (post ∷ posts) = ap (λ (l : List Parcel). parcels n post.waiting ++ l) (rests_same (n + 1) posts)

parcels_within : (n k : ℕ) (ps : List Piece) → k < n → All (λ (x : Parcel). x.sender < n) (parcels k ps)
parcels_within n k [] l i d m = absurd (omega (arith, m))
parcels_within n k (p ∷ ps) l zero d m = l
parcels_within n k (p ∷ ps) l (suc i) d m = parcels_within n k ps l i d (omega (arith, m))

pub rests_within : (n k : ℕ) (posts : List PostAt) → k + length posts ≤ n → All (λ (x : Parcel). x.sender < n) (rests k posts)
rests_within n k [] l = λ i d m. absurd (omega (arith, m))
rests_within n k (post ∷ posts) l = All-append (λ (x : Parcel). x.sender < n) (parcels k post.waiting) (rests (k + 1) posts) (parcels_within n k post.waiting (omega (arith, l))) (rests_within n (k + 1) posts (omega (arith, l)))

-- what was drained, and then what waited, is all
pub settles : (c d e : Collector) (posts : List PostAt) (xs : List Parcel) (old mid new : Option Files) (w0 w1 w2 : ℕ) → length posts ≤ c.taker.tally.senders → TakesParcels c.taker d.taker xs → Collects c d xs old mid w0 w1
    → Collects d e (rests 0 posts) mid new w1 w2 → AreAllPut d.taker.tally.taken posts → Settles c e posts old new w0 w2
settles c d e posts xs old mid new w0 w1 w2 few took first next all = record {
  parcels = xs ++ rests 0 posts;
  within = All-append (λ (x : Parcel). x.sender < c.taker.tally.senders) xs (rests 0 posts) took.within (rests_within c.taker.tally.senders 0 posts (omega (arith, few)));
  all = λ i p l. ap (pieces_of i) (sym (append_assoc c.taker.tally.taken xs (rests 0 posts)) ∙ ap (λ (x : List Parcel). x ++ rests 0 posts) (sym took.taken)) ∙ all i p l;
  collects = collects_more xs (rests 0 posts) old mid new w0 w1 w2 c d e first next;
}

-- what a worker left of its seat
module _ (loads : Loads) (s t : Seat) (sat : HasSat loads s t) (seated : AreSeated t.job.session.tables t.job.session.passes) where
  has_done : HasPutOut loads s.job.who (script_commands s.job.script.now) s.job.session t.job.session t.desk → HasDone loads s (done_of t) t.desk.post
  has_done h = record {
    answered = h.answered;
    worked = record {
      state = t.job.session;
      ran = h.ran;
      on = sat.tables;
      left = refl;
      seated = subst (λ tables. AreSeated tables t.job.session.passes) sat.tables seated;
    };
    full = (let e = h.put in e.full);
    put = (let e = h.put in let k = sat.keeps in let same = k.same in subst (λ (o : Option (List ℕ)). IsPutOut o h.answered (put_at t.desk.post) []) same.reply e.put);
    named = h.named;
  }

  pub has_left : HasLeft loads s (done_of t) t.desk.post
  has_left = record {
    pieces = (let k = sat.keeps in k.pieces);
    none = (let k = sat.keeps in k.none);
    done = by t.came sat.worked;
  }
    where
      by : {E : Type 0} (r : Result (Unit {0}) E) → OnOk r (HasPutOut loads s.job.who (script_commands s.job.script.now) s.job.session t.job.session t.desk) → OnOk r (HasDone loads s (done_of t) t.desk.post)
      by (Ok u) h = has_done h
      by (Err e) h = tt

-- all workers
module _ (loads : Loads) (before after : List Seat) (done : List Done) (posts : List PostAt) (even : length after ≡ length before) (posts_are : posts ≡ map (λ s. s.desk.post) after) (done_are : done ≡ map done_of after)
    (sat : (i : ℕ) (d : Seat) → i < length before → HasSat loads (slice_index_or before i d) (slice_index_or after i d)) (seated : All (λ s. AreSeated s.job.session.tables s.job.session.passes) after) where
  left_at : (i : ℕ) (s : Seat) (e : Done) (p : PostAt) → i < length before → HasLeft loads (slice_index_or before i s) (slice_index_or done i e) (slice_index_or posts i p)
  left_at i s e p l =
      let la : i < length after = omega (arith, l, even) in let t = slice_index_or after i s in
      subst (λ (x : Done). HasLeft loads (slice_index_or before i s) x (slice_index_or posts i p)) (sym (ap (λ (xs : List Done). get_or xs i e) done_are ∙ get_or-map done_of after i s e la))
      (subst (λ (x : PostAt). HasLeft loads (slice_index_or before i s) (done_of t) x) (sym (ap (λ (xs : List PostAt). get_or xs i p) posts_are ∙ get_or-map (λ (x : Seat). x.desk.post) after i s p la))
      (has_left loads (slice_index_or before i s) t (sat i s l) (seated i s la)))

  pub runs_all : (c d e : Collector) (old mid new : Option Files) (w0 w1 w2 : ℕ) → c.taker.tally.taken ≡ [] → Drains c d old mid w0 w1 → Settles d e posts mid new w1 w2 → RunsAll loads before done c e old new w0 w2
  runs_all c d e old mid new w0 w1 w2 untaken drains settled = let took = drains.takes in record {
    posts = posts;
    parcels = drains.parcels ++ settled.parcels;
    a_post_each = ap length posts_are ∙ length-map after (λ (s : Seat). s.desk.post) ∙ even;
    done_each = ap length done_are ∙ length-map after done_of ∙ even;
    within = All-append (λ (x : Parcel). x.sender < c.taker.tally.senders) drains.parcels settled.parcels took.within (subst (λ (n : ℕ). All (λ (x : Parcel). x.sender < n) settled.parcels) took.senders settled.within);
    all = λ i p l. ap (λ (x : List Parcel). pieces_of i (x ++ settled.parcels)) (sym (took.taken ∙ ap (λ (x : List Parcel). x ++ drains.parcels) untaken)) ∙ settled.all i p (omega (arith, l, even, ap length posts_are, length-map after (λ (s : Seat). s.desk.post)));
    left = left_at;
    collects = collects_more drains.parcels settled.parcels old mid new w0 w1 w2 c d e drains.collects settled.collects;
  }

-- the posts after the workers are those of the numbers before
pub numbered_from : (n : ℕ) (seats : List Seat) → ((i : ℕ) (d : Seat) → i < length seats → (let s = slice_index_or seats i d in s.desk.post.sent.sender) ≡ n + i) → AreNumbered n (map (λ s. s.desk.post) seats)
numbered_from n [] h = tt
numbered_from n (s ∷ seats) h = (h 0 s (omega arith) ∙ (let e : n + 0 ≡ n = omega arith in e), numbered_from (n + 1) seats (λ i d l. h (suc i) d (omega (arith, l)) ∙ (let e : n + suc i ≡ n + 1 + i = omega arith in e)))

pub number_of : (n : ℕ) (posts : List PostAt) (i : ℕ) (d : PostAt) → i < length posts → AreNumbered n posts → (let p = slice_index_or posts i d in p.sent.sender) ≡ n + i
number_of n [] i d l h = absurd (omega (arith, l))
number_of n (p ∷ posts) zero d l h = h.0 ∙ (let e : n ≡ n + 0 = omega arith in e)
number_of n (p ∷ posts) (suc i) d l h = number_of (n + 1) posts i d (omega (arith, l)) h.1 ∙ (let e : n + 1 + i ≡ n + suc i = omega arith in e)

-- the posts after the workers are at the same outlet and of the same numbers
module _ (loads : Loads) (outlet : OutletId) (before after : List Seat) (even : length after ≡ length before) (sat : (i : ℕ) (d : Seat) → i < length before → HasSat loads (slice_index_or before i d) (slice_index_or after i d)) where
  pub posts_outlet : All (CanSit loads outlet) before → All (λ (p : PostAt). p.outlet ≡ outlet) (map (λ (s : Seat). s.desk.post) after)
  posts_outlet can i d l =
      let la : i < length after = omega (arith, l, length-map after (λ (s : Seat). s.desk.post)) in let lb : i < length before = omega (arith, la, even) in let s = some_of before i lb in
      subst (λ (p : PostAt). p.outlet ≡ outlet) (sym (get_or-map (λ (x : Seat). x.desk.post) after i s d la))
      (let h = sat i s lb in let k = h.keeps in let same = k.same in let c = can i s lb in same.outlet ∙ c.outlet_is)

  pub posts_numbered : AreNumbered 0 (map (λ (s : Seat). s.desk.post) before) → AreNumbered 0 (map (λ (s : Seat). s.desk.post) after)
  posts_numbered numbers = numbered_from 0 after (λ i d l.
      let lb : i < length before = omega (arith, l, even) in
      let lm : i < length (map (λ (s : Seat). s.desk.post) before) = omega (arith, lb, length-map before (λ (s : Seat). s.desk.post)) in
      let p = (let s = slice_index_or before i d in s.desk.post) in
      (let h = sat i d lb in let k = h.keeps in let same = k.same in same.sender)
      ∙ ap (λ (x : PostAt). (let y = x.sent in y.sender)) (sym (get_or-map (λ (x : Seat). x.desk.post) before i d p lb))
      ∙ number_of 0 (map (λ (s : Seat). s.desk.post) before) i p lm numbers)

-- what a list of seats is after it was lent
pub lent_back : (n : ℕ) (new rest : List Seat) → n ≡ length new → take n (new ++ rest) ≡ new
lent_back n new rest is = ap (λ (k : ℕ). take k (new ++ rest)) is ∙ take-append_seam new rest
