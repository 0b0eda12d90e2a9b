-- Pieces that are collected after others.
use Rattle.std.proofs.Common.{◌≡◌, ◌≤◌, ◌<◌, ◌+◌, ℕ, suc, List, [], ◌∷◌, ◌++◌, Option, Some, None, Result, Ok, Err, Bool, drop, length, refl, sym, ◌∙◌, ap, ap₂, subst, append_assoc, append-nil, arith}
use denote.Ref.{Bor}
use Rattle.std.specs.Prelude.{All, IfErr, IfSome, OnErr, OnOk, not}
use Rattle.std.proofs.lemmas.List.{map-append}
use Rattle.std.proofs.lemmas.List.Elements.{All-append, All-push}
use Rattle.std.specs.Global.{Global}
use Rattle.std.specs.Option.{option_to_list}
use Rattle.std.specs.declared.collections.VecDeque.{VecDeque}
use Rattle.snap_io.specs.Causes.{Rose}
use Rattle.snap_io.specs.Shelves.{Changes, Files}
use Rattle.snap_outlet.specs.Outlets.{TakerAt, TakesNext}
use Rattle.snap_outlet.specs.Posts.{parcels}
use Rattle.snap_outlet.specs.declared.piece.Piece.{Piece}
use Rattle.snap_outlet.specs.declared.view.Parcel.{Parcel}
use Rattle.snap_outlet.specs.declared.view.Tally.{Tally}
use Rattle.snap_write.proofs.Causes.{rose_before, rose_behind, unwritten_wider}
use Rattle.snap_write.proofs.Grown.{after_put, nothing_put, part_after}
use Rattle.snap_write.proofs.Written.{changes_after}
use Rattle.snap_write.specs.Outputs.{IsUnwritten, is_named}
use Rattle.snap_write.specs.Pieces.{FilePiece, HasPut, HasPutPart}
use Rattle.snap_write.specs.declared.unwritten.Unwritten.{Unwritten}
use Rattle.snap_desk.specs.Collecting.{Collects, Drains, GoesOnWriting, IsCollected, WritesUpTo, TakesParcels, as_piece, as_put, pieces_in, puts_of, rests_from}
use Rattle.snap_desk.specs.declared.collecting.Collector.{Collector}

abbrev Puts : Type 0
Puts = List (ℕ × FilePiece)

abbrev Came : Type 0
Came = Result (Unit {0}) Unwritten

pieces_append : (ps qs : Puts) → pieces_in (ps ++ qs) ≡ pieces_in ps ++ pieces_in qs
pieces_append ps qs = map-append (λ (x : ℕ × FilePiece). x.1) ps qs

put_both : (ps qs : Puts) (f g h : Files) → HasPut (pieces_in ps) f g → HasPut (pieces_in qs) g h → HasPut (pieces_in (ps ++ qs)) f h
put_both ps qs f g h first next = subst (λ (l : List FilePiece). HasPut l f h) (sym (pieces_append ps qs)) (after_put (pieces_in ps) (pieces_in qs) f g h first next)

part_both : (ps qs : Puts) (p : FilePiece) (f g h : Files) → HasPut (pieces_in ps) f g → HasPutPart (pieces_in qs) p g h → HasPutPart (pieces_in (ps ++ qs)) p f h
part_both ps qs p f g h first next = subst (λ (l : List FilePiece). HasPutPart l p f h) (sym (pieces_append ps qs)) (part_after (pieces_in ps) (pieces_in qs) p f g h first next)

cut_later : (ps qs : Puts) (old mid new : Option Files) (w0 w1 w2 : ℕ) (why : Unwritten) → w0 ≤ w1 → Changes old mid (HasPut (pieces_in ps)) → WritesUpTo qs mid new (Rose w1 w2) why → WritesUpTo (ps ++ qs) old new (Rose w0 w2) why
cut_later ps qs old mid new w0 w1 w2 why l first h = record {
  done = ps ++ h.done;
  last = h.last;
  rest = h.rest;
  all = ap (λ (x : Puts). ps ++ x) h.all ∙ sym (append_assoc ps h.done (h.last ∷ h.rest));
  begun = (let p = h.last.1 in changes_after (HasPut (pieces_in ps)) (HasPutPart (pieces_in h.done) p) (HasPutPart (pieces_in (ps ++ h.done)) p) (λ f g k. part_both ps h.done p f g k) old mid new first h.begun);
  unwritten = (let p = h.last.1 in unwritten_wider (p.file ∷ []) (p.file ∷ []) (Rose w1 w2) (Rose w0 w2) why (λ name is. is) (λ rose. rose_behind w0 w1 w2 l rose) h.unwritten);
}

cut_before : (ps qs : Puts) (old mid new : Option Files) (w0 w1 w2 : ℕ) (why : Unwritten) → w1 ≤ w2 → WritesUpTo ps old mid (Rose w0 w1) why → new ≡ mid → WritesUpTo (ps ++ qs) old new (Rose w0 w2) why
cut_before ps qs old mid new w0 w1 w2 why l h same = record {
  done = h.done;
  last = h.last;
  rest = h.rest ++ qs;
  all = ap (λ (x : Puts). x ++ qs) h.all ∙ append_assoc h.done (h.last ∷ h.rest) qs;
  begun = (let p = h.last.1 in subst (λ (x : Option Files). Changes old x (HasPutPart (pieces_in h.done) p)) (sym same) h.begun);
  unwritten = (let p = h.last.1 in unwritten_wider (p.file ∷ []) (p.file ∷ []) (Rose w0 w1) (Rose w0 w2) why (λ name is. is) (λ rose. rose_before w0 w1 w2 l rose) h.unwritten);
}

stopped_more : (c : Came) (ps qs : Puts) (old mid new : Option Files) (w0 w1 w2 : ℕ) (why : Unwritten) → w1 ≤ w2 → WritesUpTo ps old mid (Rose w0 w1) why → (new ≡ mid) × (c ≡ Err why) → IsCollected (Ok tt) c (ps ++ qs) old new (Rose w0 w2)
stopped_more c ps qs old mid new w0 w1 w2 why l h next =
    subst (λ (r : Came). IsCollected (Ok tt) r (ps ++ qs) old new (Rose w0 w2)) (sym next.1) (cut_before ps qs old mid new w0 w1 w2 why l h next.0)

idle_more : (b c : Came) (qs : Puts) (old mid new : Option Files) (fault : Type 0) (why : Unwritten) → (mid ≡ old) × (b ≡ Err why) → IsCollected b c qs mid new fault → (new ≡ old) × (c ≡ Err why)
idle_more b c qs old mid new fault why first next =
    let idle : (new ≡ mid) × (c ≡ Err why) = subst (λ (r : Came). IsCollected r c qs mid new fault) first.1 next in (idle.0 ∙ first.0, idle.1)

collected_more : (a b c : Came) (ps qs : Puts) (old mid new : Option Files) (w0 w1 w2 : ℕ) → w0 ≤ w1 → w1 ≤ w2 → IsCollected a b ps old mid (Rose w0 w1) → IsCollected b c qs mid new (Rose w1 w2) → IsCollected a c (ps ++ qs) old new (Rose w0 w2)
collected_more (Ok u) (Ok v) (Ok w) ps qs old mid new w0 w1 w2 l m first next = changes_after (HasPut (pieces_in ps)) (HasPut (pieces_in qs)) (HasPut (pieces_in (ps ++ qs))) (λ f g h. put_both ps qs f g h) old mid new first next
collected_more (Ok u) (Ok v) (Err why) ps qs old mid new w0 w1 w2 l m first next = cut_later ps qs old mid new w0 w1 w2 why l first next
collected_more (Ok u) (Err why) c ps qs old mid new w0 w1 w2 l m first next = stopped_more c ps qs old mid new w0 w1 w2 why m first next
collected_more (Err why) b c ps qs old mid new w0 w1 w2 l m first next = idle_more b c qs old mid new (Rose w1 w2) why first next

-- one piece was written, or a front of it at most
pub one_collected : (r : Came) (sender : ℕ) (p : FilePiece) (old new : Option Files) (fault : Type 0) → OnOk r (Changes old new (HasPut (p ∷ []))) → OnErr r (Changes old new (HasPutPart [] p)) → IfErr r (IsUnwritten (p.file ∷ []) fault) → IsCollected (Ok tt) r ((sender, p) ∷ []) old new fault
one_collected (Ok u) sender p old new fault put part stops = put
one_collected (Err why) sender p old new fault put part stops = record { done = []; last = (sender, p); rest = []; all = refl; begun = part; unwritten = stops }

pub piece_is : (names : List (List ℕ)) (p : Piece) (b : Bool) (text : List ℕ) → b ≡ is_named names p.file → text ≡ p.bytes → (let q : FilePiece = record { file = p.file; makes = not b; text = text } in q) ≡ as_piece names p
piece_is names p b text is same = ap₂ (λ (x : Bool) (t : List ℕ). (let q : FilePiece = record { file = p.file; makes = not x; text = t } in q)) is same

pub collected_by : (a : Came) (u : Unit {0}) (r : Came) (sender : ℕ) (p q : FilePiece) (old new : Option Files) (fault : Type 0) → a ≡ Ok u → p ≡ q → OnOk r (Changes old new (HasPut (p ∷ []))) → OnErr r (Changes old new (HasPutPart [] p)) → IfErr r (IsUnwritten (p.file ∷ []) fault) → IsCollected a r ((sender, q) ∷ []) old new fault
collected_by a u r sender p q old new fault is same put part stops =
    subst (λ (x : Came). IsCollected x r ((sender, q) ∷ []) old new fault) (sym is) (subst (λ (x : FilePiece). IsCollected (Ok u) r ((sender, x) ∷ []) old new fault) same (one_collected r sender p old new fault put part stops))

nothing_collected : (a : Came) (old : Option Files) (fault : Type 0) → IsCollected a a [] old old fault
nothing_collected (Ok u) None fault = tt
nothing_collected (Ok u) (Some f) fault = nothing_put f
nothing_collected (Err why) old fault = (refl, refl)

module _ (xs ys : List Parcel) (old mid new : Option Files) (w0 w1 w2 : ℕ) where
  pub collects_more : (c d e : Collector) → Collects c d xs old mid w0 w1 → Collects d e ys mid new w1 w2 → Collects c e (xs ++ ys) old new w0 w2
  collects_more c d e h k = record {
    names = k.names ∙ h.names;
    files = by c.names h.files (subst (λ o. IfSome o (λ (names : Bor (List (List ℕ))). IsCollected d.written e.written (puts_of names.now ys) mid new (Rose w1 w2))) h.names k.files);
    later = omega (arith, h.later, k.later);
  }
    where
      by : (o : _) → IfSome o (λ (names : Bor (List (List ℕ))). IsCollected c.written d.written (puts_of names.now xs) old mid (Rose w0 w1)) → IfSome o (λ (names : Bor (List (List ℕ))). IsCollected d.written e.written (puts_of names.now ys) mid new (Rose w1 w2)) → IfSome o (λ (names : Bor (List (List ℕ))). IsCollected c.written e.written (puts_of names.now (xs ++ ys)) old new (Rose w0 w2))
      by None first next = tt
      by (Some names) first next = subst (λ (ps : Puts). IsCollected c.written e.written ps old new (Rose w0 w2)) (sym (map-append (as_put names.now) xs ys)) (collected_more c.written d.written e.written (puts_of names.now xs) (puts_of names.now ys) old mid new w0 w1 w2 h.later k.later first next)

pub collects_none : (c : Collector) (old : Option Files) (w : ℕ) → Collects c c [] old old w w
collects_none c old w = record { names = refl; files = by c.names; later = omega arith }
  where
    by : (o : _) → IfSome o (λ (names : Bor (List (List ℕ))). IsCollected c.written c.written (puts_of names.now []) old old (Rose w w))
    by None = tt
    by (Some names) = nothing_collected c.written old (Rose w w)

takes_none : (t : TakerAt) → TakesParcels t t []
takes_none t = record { outlet = refl; senders = refl; finished = refl; taken = sym (append-nil t.tally.taken); within = λ k d l. absurd (omega (arith, l)) }

takes_more : (t u v : TakerAt) (xs ys : List Parcel) → TakesParcels t u xs → TakesParcels u v ys → TakesParcels t v (xs ++ ys)
takes_more t u v xs ys h k = record {
  outlet = k.outlet ∙ h.outlet;
  senders = k.senders ∙ h.senders;
  finished = k.finished ∙ h.finished;
  taken = k.taken ∙ ap (λ (l : List Parcel). l ++ ys) h.taken ∙ append_assoc t.tally.taken xs ys;
  within = All-append (λ (x : Parcel). x.sender < t.tally.senders) xs ys h.within (subst (λ (n : ℕ). All (λ (x : Parcel). x.sender < n) ys) h.senders k.within);
}

takes_one : (t u : TakerAt) (piece : Piece) (h : TakesNext t.tally piece u.tally) → u.outlet ≡ t.outlet → TakesParcels t u ((record { sender = h.sender; piece = piece }) ∷ [])
takes_one t u piece h outlet = record {
  outlet = outlet;
  senders = ap (λ (x : Tally). x.senders) h.adds;
  finished = ap (λ (x : Tally). x.finished) h.adds;
  taken = ap (λ (x : Tally). x.taken) h.adds;
  within = All-push (λ (x : Parcel). x.sender < (let y = t.tally in y.senders)) [] (record { sender = h.sender; piece = piece }) (λ k d l. absurd (omega (arith, l))) h.is_one;
}

pub drains_none : (c : Collector) (old : Option Files) (w : ℕ) → Drains c c old old w w
drains_none c old w = record { parcels = []; takes = takes_none c.taker; collects = collects_none c old w }

pub drains_more : (c d e : Collector) (old mid new : Option Files) (w0 w1 w2 : ℕ) → Drains c d old mid w0 w1 → Drains d e mid new w1 w2 → Drains c e old new w0 w2
drains_more c d e old mid new w0 w1 w2 h k = record {
  parcels = h.parcels ++ k.parcels;
  takes = takes_more c.taker d.taker e.taker h.parcels k.parcels h.takes k.takes;
  collects = collects_more h.parcels k.parcels old mid new w0 w1 w2 c d e h.collects k.collects;
}

-- one piece was taken and collected
pub drains_one : (c d e : Collector) (piece : Piece) (old new : Option Files) (w0 w1 : ℕ) → TakesNext c.taker.tally piece d.taker.tally → d.taker.outlet ≡ c.taker.outlet → d.names ≡ c.names → d.written ≡ c.written → e.taker ≡ d.taker
    → ((sender : ℕ) → Collects d e ((record { sender = sender; piece = piece }) ∷ []) old new w0 w1) → Drains c e old new w0 w1
drains_one c d e piece old new w0 w1 took outlet names written taker h = record {
  parcels = (record { sender = took.sender; piece = piece }) ∷ [];
  takes = subst (λ (t : TakerAt). TakesParcels c.taker t ((record { sender = took.sender; piece = piece }) ∷ [])) (sym taker) (takes_one c.taker d.taker piece took outlet);
  collects = (let k = h took.sender in record {
    names = k.names ∙ names;
    files = subst (λ (o : Option (Bor (List (List ℕ)))). IfSome o (λ (ns : Bor (List (List ℕ))). IsCollected c.written e.written (puts_of ns.now ((record { sender = took.sender; piece = piece }) ∷ [])) old new (Rose w0 w1))) names
        (subst (λ (r : Came). IfSome d.names (λ (ns : Bor (List (List ℕ))). IsCollected r e.written (puts_of ns.now ((record { sender = took.sender; piece = piece }) ∷ [])) old new (Rose w0 w1))) written k.files);
    later = k.later;
  });
}

-- a collector that wrote on; what was taken before it did has changed neither names nor what was written
pub goes_on_more : {S : Type 0} (files : S → Option Files) (reads : S → ℕ) (c d m e : Collector) (old mid new : S) → m.names ≡ c.names → m.written ≡ d.written → GoesOnWriting files reads c d old mid → GoesOnWriting files reads m e mid new → GoesOnWriting files reads c e old new
goes_on_more files reads c d m e old mid new names written first next = record {
  ready = next.ready;
  reads = next.reads ∙ first.reads;
  none = λ no. let k = next.none (names ∙ no) in let h = first.none no in (k.0 ∙ h.0, k.1 ∙ written ∙ h.1);
}

parcels_append : (sender : ℕ) (ps qs : List Piece) → parcels sender (ps ++ qs) ≡ parcels sender ps ++ parcels sender qs
parcels_append sender ps qs = map-append (λ (p : Piece). (let x : Parcel = record { sender = sender; piece = p } in x)) ps qs

-- what waited, piece by piece and post by post
pub rest_more : (c d e : Collector) (done : List Piece) (piece : Piece) (old mid new : Option Files) (w0 w1 w2 : ℕ) → ((sender : ℕ) → Collects c d (parcels sender done) old mid w0 w1) → ((sender : ℕ) → Collects d e ((record { sender = sender; piece = piece }) ∷ []) mid new w1 w2)
    → (sender : ℕ) → Collects c e (parcels sender (done ++ piece ∷ [])) old new w0 w2
rest_more c d e done piece old mid new w0 w1 w2 first next sender =
    subst (λ (xs : List Parcel). Collects c e xs old new w0 w2) (sym (parcels_append sender done (piece ∷ [])))
    (collects_more (parcels sender done) ((record { sender = sender; piece = piece }) ∷ []) old mid new w0 w1 w2 c d e (first sender) (next sender))

rests_push : (n : ℕ) (xs : List (List Piece)) (x : List Piece) → rests_from n (xs ++ x ∷ []) ≡ rests_from n xs ++ parcels (n + length xs) x
rests_push n [] x = append-nil (parcels n x) ∙ (let e : n ≡ n + 0 = omega arith in ap (λ (k : ℕ). parcels k x) e)
rests_push n (y ∷ xs) x =
    ap (λ (l : List Parcel). parcels n y ++ l) (rests_push (n + 1) xs x ∙ (let e : n + 1 + length xs ≡ n + suc (length xs) = omega arith in ap (λ (k : ℕ). rests_from (n + 1) xs ++ parcels k x) e))
    ∙ sym (append_assoc (parcels n y) (rests_from (n + 1) xs) (parcels (n + length (y ∷ xs)) x))

pub rests_more : (c d e : Collector) (xs : List (List Piece)) (x : List Piece) (old mid new : Option Files) (w0 w1 w2 : ℕ) → Collects c d (rests_from 0 xs) old mid w0 w1 → ((sender : ℕ) → Collects d e (parcels sender x) mid new w1 w2) → Collects c e (rests_from 0 (xs ++ x ∷ [])) old new w0 w2
rests_more c d e xs x old mid new w0 w1 w2 first next =
    subst (λ (l : List Parcel). Collects c e l old new w0 w2) (sym (rests_push 0 xs x))
    (collects_more (rests_from 0 xs) (parcels (0 + length xs) x) old mid new w0 w1 w2 c d e first (next (0 + length xs)))

abbrev pub rest_items : VecDeque Piece Global → List Piece
rest_items r = r.items

-- nothing is left of what waited
no_self : (left fewer : List Piece) → left ≡ fewer → fewer ≡ drop 1 left → left ≡ []
no_self [] fewer is rest = refl
no_self (x ∷ xs) fewer is rest = (let r : length fewer ≡ length xs = ap length rest in absurd (omega (arith, ap length is, r)))

pub no_more : (done left fewer : List Piece) (o : Option Piece) (all : List Piece) → left ≡ option_to_list o ++ fewer → o ≡ None → fewer ≡ drop 1 left → done ++ left ≡ all → done ≡ all
no_more done left fewer o all is none rest same =
    let e : left ≡ fewer = is ∙ ap (λ (x : Option Piece). option_to_list x ++ fewer) none in
    sym (append-nil done) ∙ ap (λ (l : List Piece). done ++ l) (sym (no_self left fewer e rest)) ∙ same
