-- Each step of a seat keeps the rule of an outlet's queue.
use Rattle.std.proofs.Common.{inl, inr, ◌⊎◌, length, zero, suc, ◌<◌, ◌≤◌, ◌+◌, arith, ◌≡◌, ◌≢◌, ◌==◌, ℕ, Bool, true, false, List, [], ◌∷◌, ◌++◌, set, sym, refl, ap, ◌∙◌, subst, ⊎_elim, append_assoc, append-nil, if◌then◌else◌, eq-eqb, ne_eqb}
use Rattle.std.proofs.lemmas.Bool.{cases_Bool, leb-false, leb-true}
use Rattle.std.proofs.lemmas.List.Elements.{All-append, All-cons, All-nil, All-weaker}
use Rattle.std.specs.Prelude.{nat_le}
use mathlib.Core.Option.{some, none, Option, some-injective, some-ne-none}
use lib.ListN.{get_elem?}
use Rattle.crossbeam_queue.specs.Fifo.{Forks, Learns, Merges, Pops, Pushes}
use Rattle.crossbeam_queue.proofs.Lists.{at_set}
use Rattle.snap_model.specs.History.{Begins}
use Rattle.snap_outlet.specs.declared.view.Parcel.{Parcel}
use Rattle.snap_outlet.specs.declared.view.Sent.{Sent}
use Rattle.snap_outlet.specs.declared.view.Tally.{Tally}
use Rattle.snap_outlet.specs.declared.view.View.{View}
use Rattle.snap_outlet.specs.declared.view.View.TheVariants.{Sends, Takes, Gathered}
use Rattle.snap_outlet.specs.Outlets.{IsAll, IsInOrder, pieces_of}
use Rattle.snap_outlet.specs.Rule.{Books, Delivers, Fetched, FitsSeat, FitsFinished, FoundNone, IsUnmade, after_making, first, gathered, made_sender, posted, sent_in, tally_in}
use Rattle.snap_outlet.specs.Seats.{IsSenders, IsTakers}
use Rattle.snap_outlet.proofs.Pieces.{pieces-append, pieces-own, pieces-other, ends_with_one, begins_itself, begins_on, begins_nothing}

-- a fact of each seat and its view
abbrev Each : (ℕ → View → Type 0) → List View → Type 0
Each F views = (seat : ℕ) (v : View) → get_elem? views seat ≡ some v → F seat v

each_set : (F : ℕ → View → Type 0) (views : List View) (seat : ℕ) (w : View) → F seat w
    → ((j : ℕ) (u : View) → j ≢ seat → get_elem? views j ≡ some u → F j u) → Each F (set views seat w)
each_set F views seat w mine others j u e = ⊎_elim (λ (x : (j ≡ seat) × (w ≡ u)). subst (λ (y : ℕ × View). F y.0 y.1) (λ i. (sym x.0 i, x.1 i)) mine)
    (λ (x : (j ≢ seat) × (get_elem? views j ≡ some u)). others j u x.0 x.1) (at_set views seat j w u e)

-- a sender that has a seat isn't one without, and has no other seat
is_seated : (seat : ℕ → Option ℕ) (a s t : ℕ) → seat s ≡ some a → seat t ≡ none → s ≢ t
is_seated seat a s t p q e = some-ne-none a (sym p ∙ ap seat e ∙ q)

one_seat : (seat : ℕ → Option ℕ) (a b s t : ℕ) → seat s ≡ some a → seat t ≡ some b → a ≢ b → s ≢ t
one_seat seat a b s t p q n e = n (some-injective a b (sym p ∙ ap seat e ∙ q))

-- ---- a sender sends
module _ (b : Books) (x : Parcel) (seat : ℕ) (mine : b.seat x.sender ≡ some seat) where
  abbrev after_post : Books
  after_post = record b { sent = λ s. b.sent s ++ pieces_of s (x ∷ []) }

  sent_same : (s : ℕ) → x.sender ≢ s → b.sent s ≡ after_post.sent s
  sent_same s n = sym (append-nil (b.sent s)) ∙ ap (λ l. b.sent s ++ l) (sym (pieces-other s x n))

  post_finished : (senders : ℕ) (s : Sent) → FitsFinished b senders s → FitsFinished after_post senders s
  post_finished senders s f = record { made = f.made; left = f.left; knows = f.knows ∙ sent_same s.sender (is_seated b.seat seat x.sender s.sender mine f.left) }

  post_unmade : (s : ℕ) → IsUnmade b s → IsUnmade after_post s
  post_unmade s f = record { unseated = f.unseated; silent = sym (sent_same s (is_seated b.seat seat x.sender s mine f.unseated)) ∙ f.silent }

  post_keeps : (items : List Parcel) (j : ℕ) (u : View) → j ≢ seat → FitsSeat b items j u → FitsSeat after_post (items ++ x ∷ []) j u
  post_keeps items j (Sends s) n f = record {
    seated = f.seated;
    knows = f.knows ∙ sent_same s.sender (one_seat b.seat seat j x.sender s.sender mine f.seated (λ e. n (sym e)));
  }
  post_keeps items j (Takes t) n f = record {
    alone = f.alone;
    knows = f.knows;
    waits = begins_on t.waiting items (x ∷ []) f.waits;
    finished = All-weaker (FitsFinished b t.senders) (FitsFinished after_post t.senders) (post_finished t.senders) t.finished f.finished;
    unmade = λ s over. post_unmade s (f.unmade s over);
  }
  post_keeps items j Gathered n f = tt

posts_one : (n seat : ℕ) (s : Sent) (x : Parcel) → s.sender ≡ x.sender → Pushes Delivers n seat (Sends s) x (λ w. w ≡ posted (Sends s) x)
posts_one n seat s x from items views _ h at =
    let b = h.books in
    let mine = h.fits seat (Sends s) at in
    let seated : b.seat x.sender ≡ some seat = ap b.seat (sym from) ∙ mine.seated in
    let now = after_post b x seat seated in
    let w : View = posted (Sends s) x in (
      w,
      record {
        books = now;
        delivers = λ q. ap (pieces_of q) (sym (append_assoc b.taken items (x ∷ []))) ∙ pieces-append q (b.taken ++ items) (x ∷ []) ∙ ap (λ l. l ++ pieces_of q (x ∷ [])) (h.delivers q);
        fits = each_set (FitsSeat now (items ++ x ∷ [])) views seat w
            (record { seated = mine.seated; knows = ap (λ l. l ++ x.piece ∷ []) mine.knows ∙ ap (λ l. b.sent s.sender ++ l) (sym (pieces-own s.sender x [] (sym from))) })
            (λ j u other e. post_keeps b x seat seated items j u other (h.fits j u e));
      },
      refl,
    )

pub posts : (n seat : ℕ) (v : View) (x : Parcel) → IsSenders v → (sent_in v).sender ≡ x.sender → Pushes Delivers n seat v x (λ w. w ≡ posted v x)
posts n seat v x is from = subst (λ (u : View). Pushes Delivers n seat u x (λ w. w ≡ posted u x)) (sym is) (posts_one n seat (sent_in v) x from)

-- ---- the taker takes
module _ (b : Books) (x : Parcel) where
  abbrev after_fetch : Books
  after_fetch = record b { taken = b.taken ++ x ∷ [] }

  fetch_finished : (senders : ℕ) (s : Sent) → FitsFinished b senders s → FitsFinished after_fetch senders s
  fetch_finished senders s f = record { made = f.made; left = f.left; knows = f.knows }

  fetch_keeps : (items : List Parcel) (j : ℕ) (u : View) → j ≢ b.taker → FitsSeat b (x ∷ items) j u → FitsSeat after_fetch items j u
  fetch_keeps items j (Sends s) n f = record { seated = f.seated; knows = f.knows }
  fetch_keeps items j (Takes t) n f = absurd (n f.alone)
  fetch_keeps items j Gathered n f = tt

below : (a b : ℕ) → (b ≤ a → ⊥) → a < b
below a b n = elim (cases_Bool (nat_le b a)) [
  | inl is ↦ absurd (n (leb-true b a is))
  | inr other ↦ leb-false b a other
]

-- who is sent of is one of the senders
sent_by_one : (b : Books) (items : List Parcel) (x : Parcel) (senders : ℕ) → ((s : ℕ) → senders ≤ s → IsUnmade b s)
    → pieces_of x.sender (b.taken ++ x ∷ items) ≡ b.sent x.sender → x.sender < senders
sent_by_one b items x senders unmade is = below x.sender senders (λ over.
    ends_with_one (pieces_of x.sender b.taken) x.piece (pieces_of x.sender items)
    (ap (λ l. pieces_of x.sender b.taken ++ l) (sym (pieces-own x.sender x items refl)) ∙ sym (pieces-append x.sender b.taken (x ∷ items)) ∙ is ∙ (unmade x.sender over).silent))

fetches_one : (seat : ℕ) (t : Tally) → Pops Delivers seat (Takes t) (Fetched (Takes t))
fetches_one seat t x items views h at =
    let b = h.books in
    let mine = h.fits seat (Takes t) at in
    let now = after_fetch b x in
    let u : Tally = record t { taken = t.taken ++ x ∷ []; waiting = items } in
    let delivers : (s : ℕ) → pieces_of s (now.taken ++ items) ≡ b.sent s = λ s. ap (pieces_of s) (append_assoc b.taken (x ∷ []) items) ∙ h.delivers s in
    let in_order : (s : Sent) → FitsFinished b t.senders s → IsInOrder u.taken s = λ s f. record {
      rest = pieces_of s.sender items;
      is = ap (λ (l : List Parcel). pieces_of s.sender (l ++ x ∷ []) ++ pieces_of s.sender items) mine.knows ∙ sym (pieces-append s.sender now.taken items) ∙ delivers s.sender ∙ sym f.knows;
    } in (
      Takes u,
      record {
        books = now;
        delivers = delivers;
        fits = each_set (FitsSeat now items) views seat (Takes u)
            (record {
              alone = mine.alone;
              knows = ap (λ l. l ++ x ∷ []) mine.knows;
              waits = begins_itself items;
              finished = All-weaker (FitsFinished b t.senders) (FitsFinished now t.senders) (fetch_finished b x t.senders) t.finished mine.finished;
              unmade = λ s over. record { unseated = (mine.unmade s over).unseated; silent = (mine.unmade s over).silent };
            })
            (λ j v other e. fetch_keeps b x items j v (λ q. other (q ∙ sym mine.alone)) (h.fits j v e));
      },
      record {
        takes = refl;
        next = record { sender = x.sender; is_one = sent_by_one b items x t.senders mine.unmade (h.delivers x.sender); adds = refl; in_turn = mine.waits };
        in_order = All-weaker (FitsFinished b t.senders) (IsInOrder u.taken) in_order t.finished mine.finished;
      },
    )

pub fetches : (seat : ℕ) (v : View) → IsTakers v → Pops Delivers seat v (Fetched v)
fetches seat v is = subst (λ (u : View). Pops Delivers seat u (Fetched u)) (sym is) (fetches_one seat (tally_in v))

finds_none : (seat : ℕ) (t : Tally) → Learns Delivers seat (Takes t) (λ items. items ≡ [] → FoundNone (Takes t))
finds_none seat t items views h at nothing =
    let b = h.books in
    let mine = h.fits seat (Takes t) at in
    let all : (s : Sent) → FitsFinished b t.senders s → IsAll t.taken s = λ s f.
    ap (pieces_of s.sender) (mine.knows ∙ sym (append-nil b.taken) ∙ ap (λ l. b.taken ++ l) (sym nothing)) ∙ h.delivers s.sender ∙ sym f.knows in
    record {
      empty = begins_nothing t.waiting (subst (λ (l : List Parcel). Begins t.waiting l) nothing mine.waits);
      all = All-weaker (FitsFinished b t.senders) (IsAll t.taken) all t.finished mine.finished;
    }

pub finds : (seat : ℕ) (v : View) → IsTakers v → Learns Delivers seat v (λ items. items ≡ [] → FoundNone v)
finds seat v is = subst (λ (u : View). Learns Delivers seat u (λ items. items ≡ [] → FoundNone u)) (sym is) (finds_none seat (tally_in v))

-- ---- the taker gathers a sender
none_if : (c : Bool) (o : Option ℕ) → o ≡ none → (if c then none else o) ≡ none
none_if true o e = refl
none_if false o e = e

module _ (b : Books) (s : Sent) (seat : ℕ) (mine : b.seat s.sender ≡ some seat) where
  abbrev after_gather : Books
  after_gather = record b { seat = λ q. if s.sender == q then none else b.seat q }

  gather_finished : (senders : ℕ) (f : Sent) → FitsFinished b senders f → FitsFinished after_gather senders f
  gather_finished senders f h = record { made = h.made; left = none_if (s.sender == f.sender) (b.seat f.sender) h.left; knows = h.knows }

  gather_unmade : (q : ℕ) → IsUnmade b q → IsUnmade after_gather q
  gather_unmade q h = record { unseated = none_if (s.sender == q) (b.seat q) h.unseated; silent = h.silent }

  gather_keeps : (items : List Parcel) (j : ℕ) (u : View) → j ≢ seat → FitsSeat b items j u → FitsSeat after_gather items j u
  gather_keeps items j (Sends o) n f = record {
    seated = rw (ne_eqb s.sender o.sender (one_seat b.seat seat j s.sender o.sender mine f.seated (λ e. n (sym e)))) f.seated;
    knows = f.knows;
  }
  gather_keeps items j (Takes t) n f = record {
    alone = f.alone;
    knows = f.knows;
    waits = f.waits;
    finished = All-weaker (FitsFinished b t.senders) (FitsFinished after_gather t.senders) (gather_finished t.senders) t.finished f.finished;
    unmade = λ q over. gather_unmade q (f.unmade q over);
  }
  gather_keeps items j Gathered n f = tt

gathers_one : (seat : ℕ) (t : Tally) (other : ℕ) (s : Sent) → Merges Delivers seat (Takes t) other (Sends s) (gathered (Takes t) (Sends s)) Gathered
gathers_one seat t other s items views h at two at' =
    let b = h.books in
    let w : View = gathered (Takes t) (Sends s) in
    let was : get_elem? views other ≡ some (Sends s) = ⊎_elim (λ x. absurd (two x.0)) (λ x. x.1) (at_set views seat other w (Sends s) at') in
    let mine = h.fits seat (Takes t) at in
    let theirs = h.fits other (Sends s) was in
    let now = after_gather b s other theirs.seated in
    let made' : s.sender < t.senders = below s.sender t.senders (λ over. is_seated b.seat other s.sender s.sender theirs.seated (mine.unmade s.sender over).unseated refl) in
    let done : FitsFinished now t.senders s = record { made = made'; left = rw (eq-eqb s.sender s.sender refl) refl; knows = theirs.knows } in
    let Now : ℕ → View → Type 0 = λ j u. j ≢ other → FitsSeat now items j u in
    let each : Each Now (set views seat w) = each_set Now views seat w
    (λ _. record {
      alone = mine.alone;
      knows = mine.knows;
      waits = mine.waits;
      finished = All-append (FitsFinished now t.senders) t.finished (s ∷ [])
          (All-weaker (FitsFinished b t.senders) (FitsFinished now t.senders) (gather_finished b s other theirs.seated t.senders) t.finished mine.finished)
          (All-cons (FitsFinished now t.senders) s [] done (All-nil (FitsFinished now t.senders)));
      unmade = λ q over. gather_unmade b s other theirs.seated q (mine.unmade q over);
    })
    (λ j u _ e apart. gather_keeps b s other theirs.seated items j u apart (h.fits j u e)) in
    record {
      books = now;
      delivers = h.delivers;
      fits = each_set (FitsSeat now items) (set views seat w) other Gathered tt (λ j u apart e. each j u e apart);
    }

pub gathers : (seat : ℕ) (v : View) (other : ℕ) (u : View) → IsTakers v → IsSenders u → Merges Delivers seat v other u (gathered v u) Gathered
gathers seat v other u v_is u_is = subst (λ (y : View × View). Merges Delivers seat y.0 other y.1 (gathered y.0 y.1) Gathered) (λ i. (sym v_is i, sym u_is i)) (gathers_one seat (tally_in v) other (sent_in u))

-- ---- the start, and the senders
at_more : (l : List View) (a b : View) (j : ℕ) → get_elem? (l ++ a ∷ []) j ≡ some b → (get_elem? l j ≡ some b) ⊎ ((j ≡ length l) × (a ≡ b))
at_more [] a b zero e = inr (refl, some-injective a b e)
at_more [] a b (suc j) e = absurd (some-ne-none b (sym e))
at_more (x ∷ xs) a b zero e = inl e
at_more (x ∷ xs) a b (suc j) e = ⊎_elim inl (λ q. inr (ap suc q.0, q.1)) (at_more xs a b j e)

each_more : (F : ℕ → View → Type 0) (views : List View) (w : View) → Each F views → F (length views) w → Each F (views ++ w ∷ [])
each_more F views w each last j u e = ⊎_elim (each j u)
    (λ (x : (j ≡ length views) × (w ≡ u)). subst (λ (y : ℕ × View). F y.0 y.1) (λ i. (sym x.0 i, x.1 i)) last)
    (at_more views w u j e)

abbrev no_books : Books
no_books = record { taker = 0; seat = λ _. none; sent = λ _. []; taken = [] }

pub begins : Delivers [] (first ∷ [])
begins = record {
  books = no_books;
  delivers = λ _. refl;
  fits = each_more (FitsSeat no_books []) [] first (λ j u e. absurd (some-ne-none u (sym e))) (record {
    alone = refl;
    knows = refl;
    waits = begins_itself [];
    finished = All-nil (FitsFinished no_books 0);
    unmade = λ s over. record { unseated = refl; silent = refl };
  });
}

module _ (b : Books) (senders place : ℕ) (free : IsUnmade b senders) where
  abbrev after_make : Books
  after_make = record b { seat = λ q. if senders == q then some place else b.seat q }

  still : (s : ℕ) → senders ≢ s → after_make.seat s ≡ b.seat s
  still s n = rw (ne_eqb senders s n) refl

  make_finished : (s : Sent) → FitsFinished b senders s → FitsFinished after_make (senders + 1) s
  make_finished s f = let low = f.made in record {
    made = omega (arith, low);
    left = still s.sender (λ e. absurd (omega (arith, low, e))) ∙ f.left;
    knows = f.knows;
  }

  make_unmade : ((s : ℕ) → senders ≤ s → IsUnmade b s) → (s : ℕ) → senders + 1 ≤ s → IsUnmade after_make s
  make_unmade h s over = let f = h s (omega (arith, over)) in record {
    unseated = still s (λ e. absurd (omega (arith, over, e))) ∙ f.unseated;
    silent = f.silent;
  }

  make_keeps : (items : List Parcel) (j : ℕ) (u : View) → j ≢ b.taker → FitsSeat b items j u → FitsSeat after_make items j u
  make_keeps items j (Sends o) n f = record {
    seated = still o.sender (λ e. is_seated b.seat j o.sender senders f.seated free.unseated (sym e)) ∙ f.seated;
    knows = f.knows;
  }
  make_keeps items j (Takes t) n f = absurd (n f.alone)
  make_keeps items j Gathered n f = tt

makes_one : (seat : ℕ) (t : Tally) → Forks Delivers seat (Takes t) (after_making (Takes t)) (made_sender (Takes t))
makes_one seat t items views h at =
    let b = h.books in
    let mine = h.fits seat (Takes t) at in
    let free = mine.unmade t.senders (omega arith) in
    let l : View = after_making (Takes t) in
    let vs : List View = set views seat l in
    let now = after_make b t.senders (length vs) free in
    let old : Each (FitsSeat now items) vs = each_set (FitsSeat now items) views seat l
    (record {
      alone = mine.alone;
      knows = mine.knows;
      waits = mine.waits;
      finished = All-weaker (FitsFinished b t.senders) (FitsFinished now (t.senders + 1)) (make_finished b t.senders (length vs) free) t.finished mine.finished;
      unmade = make_unmade b t.senders (length vs) free mine.unmade;
    })
    (λ j u other e. make_keeps b t.senders (length vs) free items j u (λ q. other (q ∙ sym mine.alone)) (h.fits j u e)) in
    record {
      books = now;
      delivers = h.delivers;
      fits = each_more (FitsSeat now items) vs (made_sender (Takes t)) old (record {
        seated = rw (eq-eqb t.senders t.senders refl) refl;
        knows = sym free.silent;
      });
    }

pub makes : (seat : ℕ) (v : View) → IsTakers v → Forks Delivers seat v (after_making v) (made_sender v)
makes seat v is = subst (λ (u : View). Forks Delivers seat u (after_making u) (made_sender u)) (sym is) (makes_one seat (tally_in v))
