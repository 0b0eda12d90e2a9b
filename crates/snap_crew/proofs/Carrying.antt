-- What a crew came to, from what its workers left and what was collected.
use Rattle.std.proofs.Common.{zero, suc, ◌≡◌, ◌<◌, ◌++◌, ℕ, true, List, [], ◌∷◌, Option, Some, None, Result, Ok, Err, length, get_or, refl, ap, ap₂, sym, ◌∙◌, subst, arith}
use denote.Ref.{Bor}
use Rattle.std.specs.Prelude.{All, IfOk, IfSome, IsOk, OnOk, map, slice_index_or}
use Rattle.snap_prelude.proofs.Common.{get_or-map, length-map}
use Rattle.snap_prelude.specs.{Command, Known}
use Rattle.snap_desk.specs.{Answers.Answered, Collecting.IsCollected, Collecting.puts_of, Puts.AreFor}
use Rattle.snap_desk.specs.{Puts.IsNamedIf, Puts.IsPutOut}
use Rattle.snap_desk.specs.Files.{all_files_named, AllIn, answer_names, answers_in, AreFilesApart, AreBlank, files_named, IsAfter, KeepsOthers, names_in}
use Rattle.snap_desk.proofs.{Filed.all_kept, Filed.same_kept, Names.all_in, Names.among_at, Names.among_left}
use Rattle.snap_desk.proofs.{Names.among_right, Names.named_among, Names.some_of, Told.told_after}
use Rattle.snap_io.specs.Prelude.{Changes, Files, IfTold, Rose}
use Rattle.snap_outlet.specs.{Outlets.pieces_of, Posts.PostAt, Posts.put_at, declared.piece.Piece.Piece}
use Rattle.snap_outlet.specs.{declared.view.Parcel.Parcel}
use Rattle.snap_service.specs.Prelude.{Tables}
use Rattle.snap_text.specs.{LoadFiles.Loads, declared.script.Line.Line}
use Rattle.snap_write.proofs.Written.{nothing_written}
use Rattle.snap_write.specs.{Outputs.is_named, Outputs.names_of, declared.unwritten.Unwritten.Unwritten}
use Rattle.snap_crew.specs.{Prelude.HasWorked, Prelude.IsCrew, Prelude.IsReplyAt, Prelude.script_commands, Prelude.Sits}
use Rattle.snap_crew.specs.{Leaving.HasDone, Leaving.RunsAll, Ran.HasRunJobs, Ran.RunsCrew, declared.leaving.Done.Done}
use Rattle.snap_crew.specs.{declared.scripts.Crew.Crew, declared.scripts.Ran.Ran, declared.seats.Seat.Seat}
use Rattle.snap_crew.proofs.Handing.{begin, job_worked}

abbrev Names : Type 0
Names = Option (Bor (List (List ℕ)))

same_default : {X : Type 0} (xs : List X) (i : ℕ) (d e : X) → i < length xs → get_or xs i d ≡ get_or xs i e
same_default [] i d e l = absurd (omega (arith, l))
same_default (x ∷ xs) zero d e l = refl
same_default (x ∷ xs) (suc i) d e l = same_default xs i d e (omega (arith, l))

-- a list of what there is for each number
from_each : {X : Type 0} (n : ℕ) (P : ℕ → X → Type 0) → ((i : ℕ) → i < n → (x : X) × P i x) → (xs : List X) × (length xs ≡ n) × ((i : ℕ) (d : X) → i < n → P i (get_or xs i d))
from_each {X} zero P f = ([], refl, λ i d l. absurd (omega (arith, l)))
from_each {X} (suc n) P f = both (f 0 (omega arith)) (from_each n (λ i x. P (suc i) x) (λ i l. f (suc i) (omega (arith, l))))
  where
    pick : (x : X) (xs : List X) → P 0 x → ((i : ℕ) (d : X) → i < n → P (suc i) (get_or xs i d)) → (i : ℕ) (d : X) → i < suc n → P i (get_or (x ∷ xs) i d)
    pick x xs h rest zero d l = h
    pick x xs h rest (suc i) d l = rest i d (omega (arith, l))

    both : (x : X) × P 0 x → (xs : List X) × (length xs ≡ n) × ((i : ℕ) (d : X) → i < n → P (suc i) (get_or xs i d)) → (xs : List X) × (length xs ≡ suc n) × ((i : ℕ) (d : X) → i < suc n → P i (get_or xs i d))
    both h r = (h.0 ∷ r.0, ap suc r.1, pick h.0 r.0 h.1 r.2)

fulls_same : (ds : List Done) (bs : List Answered) → length ds ≡ length bs → ((i : ℕ) (d : Done) (a : Answered) → i < length ds → (let x = get_or ds i d in x.full) ≡ (let y = get_or bs i a in y.full)) → map (λ (d : Done). d.full) ds ≡ map (λ (a : Answered). a.full) bs
fulls_same [] [] e h = refl
fulls_same [] (a ∷ bs) e h = absurd (omega (arith, e))
fulls_same (d ∷ ds) [] e h = absurd (omega (arith, e))
fulls_same (d ∷ ds) (a ∷ bs) e h = ap₂ (λ (n : ℕ) (ns : List ℕ). n ∷ ns) (h 0 d a (omega arith)) (fulls_same ds bs (omega (arith, e)) (λ i x y l. h (suc i) x y (omega (arith, l))))

after_none : (a : Result (Unit {0}) Unwritten) (old : Option Files) (fault : Type 0) → IsAfter a a [] old old fault
after_none (Ok u) old fault = nothing_written old
after_none (Err why) old fault = (refl, refl)

pub is_ok_by : {E : Type 0} (r : Result (Unit {0}) E) (u : Unit {0}) → r ≡ Ok u → IsOk r
is_ok_by {E} r u is = subst (λ (x : Result (Unit {0}) E). IsOk x) (sym is) refl

-- the commands of a worker's script, among those of all
pub script_at : (scripts : List (List Line)) (i : ℕ) (d : List Command) (s : List Line) → i < length scripts → get_or (map script_commands scripts) i d ≡ script_commands (get_or scripts i s)
script_at scripts i d s l = get_or-map script_commands scripts i s d l

pub script_named : (scripts : List (List Line)) (i : ℕ) (s : List Line) (n : List ℕ) → i < length scripts → is_named (files_named (script_commands (get_or scripts i s))) n ≡ true → is_named (all_files_named (map script_commands scripts)) n ≡ true
script_named scripts i s n l is =
    named_among (map script_commands scripts) i [] n (omega (arith, l, length-map scripts script_commands))
    (subst (λ (cs : List Command). is_named (files_named cs) n ≡ true) (sym (script_at scripts i [] s l)) is)

-- what is known of worker i
record Came (loads : Loads) (tables : Tables) (scripts : List (List Line)) (names : Names) (done : List Done) (parcels : List Parcel) (i : ℕ) (a : Answered) : Type 0 where
  pub worked : (s : List Line) (e : Done) → HasWorked loads i (script_commands (get_or scripts i s)) (begin tables i) (let d = get_or done i e in d.receipt) a
  pub full : (e : Done) → (let d = get_or done i e in d.full) ≡ a.full
  pub named : (s : List Line) → names_of a.exports ≡ files_named (script_commands (get_or scripts i s))
  pub put : (ns : Bor (List (List ℕ))) → names ≡ Some ns → (n : List ℕ) → IsPutOut (Some (get_or ns.now i n)) a (pieces_of i parcels) []

module _ (loads : Loads) (tables : Tables) (scripts : List (List Line)) (names : Names) (made : Result (Unit {0}) Unwritten) (crew : Crew) (done : List Done) (written : Result (Unit {0}) Unwritten) (old new : Option Files) (w0 w1 : ℕ)
    (c : IsCrew loads tables scripts names crew) (r : RunsCrew loads names made crew done written old new w0 w1) where
  abbrev runs : RunsAll loads crew.seats.items done (record { taker = crew.taker; names = names; written = made }) r.end old new w0 w1
  runs = r.runs

  abbrev parcels : List Parcel
  parcels = let h = r.runs in h.parcels

  abbrev files : List (List ℕ)
  files = all_files_named (map script_commands scripts)

  senders : crew.taker.tally.senders ≡ length scripts
  senders = ap (λ t. t.tally.senders) c.taker

  within : All (λ (x : Parcel). x.sender < length scripts) parcels
  within = let h = r.runs in subst (λ (n : ℕ). All (λ (x : Parcel). x.sender < n) parcels) senders h.within

  -- worker i's pieces are for files of these names, if its reply file is among them
  for_names : (all : List (List ℕ)) (i : ℕ) → i < length scripts → ((d : Seat) → IsNamedIf all (let s = slice_index_or crew.seats.items i d in s.desk.reply)) → ((n : List ℕ) → is_named files n ≡ true → is_named all n ≡ true) → AreFor all (pieces_of i parcels)
  for_names all i l reply more =
      let h = r.runs in let ls : i < length crew.seats.items = omega (arith, l, c.a_seat_each) in
      let s = some_of scripts i l in let t = some_of crew.seats.items i ls in
      let e = some_of done i (omega (arith, ls, h.done_each)) in let p = some_of h.posts i (omega (arith, ls, h.a_post_each)) in
      let left = h.left i t e p ls in let sits = c.seats i s t l in let job = sits.job in
      subst (λ (ps : List Piece). AreFor all ps) (sym (h.all i p ls))
      (left.pieces all (reply t)
      (subst (λ (cs : List Command). AllIn all cs) (sym job.commands_are) (all_in all (script_commands (get_or scripts i s)) (λ n is. more n (script_named scripts i s n l is)))))

  pub crew_kept : IfSome names (λ (ns : Bor (List (List ℕ))). AreFilesApart ns.now (map script_commands scripts)) → (names ≡ None → new ≡ old) → Changes old new (KeepsOthers (answer_names (names_in names) files))
  crew_kept apart none = by names refl apart (let h = r.runs in let k = h.collects in k.files)
    where
      by : (o : Names) → names ≡ o → IfSome o (λ (ns : Bor (List (List ℕ))). AreFilesApart ns.now (map script_commands scripts)) → IfSome o (λ (ns : Bor (List (List ℕ))). IsCollected made r.end.written (puts_of ns.now parcels) old new (Rose w0 w1)) → Changes old new (KeepsOthers (answer_names (names_in o) files))
      by None is apart h = same_kept [] old new (none is)
      by (Some ns) is apart h =
          all_kept (ns.now ++ files) ns.now (length scripts) parcels made r.end.written old new (Rose w0 w1) within
          (λ i l. for_names (ns.now ++ files) i l (λ d. own i d l) (λ n is. among_right ns.now files n is)) h
        where
          own : (i : ℕ) (d : Seat) → i < length scripts → IsNamedIf (ns.now ++ files) (let s = slice_index_or crew.seats.items i d in s.desk.reply)
          own i d l =
              let sits = c.seats i (some_of scripts i l) d l in let seat = slice_index_or crew.seats.items i d in
              let there : IsReplyAt (Some ns) i seat.desk.reply = subst (λ (x : Names). IsReplyAt x i seat.desk.reply) is sits.reply in
              subst (λ (x : Option (List ℕ)). IsNamedIf (ns.now ++ files) x) (sym (there [])) (among_left ns.now files (get_or ns.now i []) (among_at ns.now i [] (omega (arith, l, apart.each, length-map scripts script_commands))))

  came_of : All (λ (d : Done). IsOk d.came) done → (i : ℕ) → i < length scripts → (a : Answered) × Came loads tables scripts names done parcels i a
  came_of came i l =
      let h = r.runs in let ls : i < length crew.seats.items = omega (arith, l, c.a_seat_each) in let ld : i < length done = omega (arith, ls, h.done_each) in
      let s = some_of scripts i l in let t = some_of crew.seats.items i ls in let e = some_of done i ld in let p = some_of h.posts i (omega (arith, ls, h.a_post_each)) in
      let left = h.left i t e p ls in let sits = c.seats i s t l in
      told s t e p l ld (h.all i p ls) (c.seats i s t l) (ok (get_or done i e).came (came i e ld) left.done)
    where
      ok : {T E : Type 0} {Q : Type 0} (x : Result T E) → IsOk x → OnOk x Q → Q
      ok (Ok v) is q = q
      ok (Err v) is q = absurd cc

      told : (s : List Line) (t : Seat) (e : Done) (p : PostAt) → i < length scripts → i < length done → pieces_of i parcels ≡ put_at (get_or r.runs.posts i p) → Sits loads tables crew.outlet names (script_commands (get_or scripts i s)) i (get_or crew.seats.items i t)
          → HasDone loads (get_or crew.seats.items i t) (get_or done i e) (get_or r.runs.posts i p) → (a : Answered) × Came loads tables scripts names done parcels i a
      told s t e p l ld all sits d = (
        d.answered,
        record {
          worked = λ u f. subst (λ (x : List Line). HasWorked loads i (script_commands x) (begin tables i) (let y = get_or done i f in y.receipt) d.answered) (same_default scripts i s u l)
              (subst (λ (x : Done). HasWorked loads i (script_commands (get_or scripts i s)) (begin tables i) x.receipt d.answered) (same_default done i e f ld)
              (let seat = get_or crew.seats.items i t in let y = get_or done i e in job_worked loads tables (script_commands (get_or scripts i s)) i seat.job sits.job y.receipt d.answered d.worked));
          full = λ f. ap (λ (x : Done). x.full) (same_default done i f e ld) ∙ d.full;
          named = λ u. d.named ∙ (let j = sits.job in ap files_named j.commands_are) ∙ ap (λ (x : List Line). files_named (script_commands x)) (same_default scripts i s u l);
          put = λ ns is n. subst (λ (x : List Piece). IsPutOut (Some (get_or ns.now i n)) d.answered x []) (sym all)
              (let seat = get_or crew.seats.items i t in let there : IsReplyAt (Some ns) i seat.desk.reply = subst (λ (x : Names). IsReplyAt x i seat.desk.reply) is sits.reply in subst (λ (x : Option (List ℕ)). IsPutOut x d.answered (put_at (get_or r.runs.posts i p)) []) (there n) d.put);
        },
      )

  pub has_run_jobs : (ran : Ran) → ran.receipts.items ≡ map (λ (d : Done). d.receipt) done → ran.fulls.items ≡ map (λ (d : Done). d.full) done → ran.written ≡ written → All (λ (d : Done). IsOk d.came) done
      → IfSome names (λ (ns : Bor (List (List ℕ))). AreFilesApart ns.now (map script_commands scripts)) → OnOk made (IfSome names (λ (ns : Bor (List (List ℕ))). IfTold old (AreBlank ns.now))) → (names ≡ None → (new ≡ old) × (written ≡ made)) → HasRunJobs loads tables scripts names made ran old new w0 w1
  has_run_jobs ran receipts fulls is came apart blank none =
      let all = from_each (length scripts) (Came loads tables scripts names done parcels) (came_of came) in let bs = all.0 in let h = r.runs in let even : length done ≡ length scripts = h.done_each ∙ c.a_seat_each in
      record {
        answered = bs;
        answers_each = all.1;
        receipts_each = ap length receipts ∙ length-map done (λ (d : Done). d.receipt) ∙ even;
        fulls = fulls ∙ fulls_same done bs (even ∙ sym all.1) (λ i d a l. let k = all.2 i a (omega (arith, l, even)) in k.full d);
        worked = λ i s d a l.
            let ld : i < length done = omega (arith, l, even) in let e = some_of done i ld in let k = all.2 i a l in
            subst (λ (x : List Known). HasWorked loads i (script_commands (get_or scripts i s)) (begin tables i) x (get_or bs i a)) (sym (ap (λ (xs : List (List Known)). get_or xs i d) receipts ∙ get_or-map (λ (x : Done). x.receipt) done i e d ld)) (k.worked s e);
        after = by names refl apart blank (let k = h.collects in k.files) bs all.1 all.2;
      }
    where
      made_of : {E : Type 0} (m : Result (Unit {0}) E) (Q : Type 0) → OnOk m (IfSome names (λ (ns : Bor (List (List ℕ))). IfTold old (AreBlank ns.now))) → ((IfSome names (λ (ns : Bor (List (List ℕ))). IfTold old (AreBlank ns.now))) → Q) → OnOk m Q
      made_of (Ok u) Q h f = f h
      made_of (Err w) Q h f = tt

      by : (o : Names) → names ≡ o → IfSome o (λ (ns : Bor (List (List ℕ))). AreFilesApart ns.now (map script_commands scripts)) → OnOk made (IfSome names (λ (ns : Bor (List (List ℕ))). IfTold old (AreBlank ns.now)))
          → IfSome o (λ (ns : Bor (List (List ℕ))). IsCollected made r.end.written (puts_of ns.now parcels) old new (Rose w0 w1)) → (bs : List Answered) → length bs ≡ length scripts → ((i : ℕ) (a : Answered) → i < length scripts → Came loads tables scripts names done parcels i (get_or bs i a)) → IsAfter made ran.written (answers_in (names_in o) bs) old new (Rose w0 w1)
      by None at apart blank h bs even each =
          let n = none at in
          subst (λ (w : Result (Unit {0}) Unwritten). IsAfter made w [] old new (Rose w0 w1)) (sym (is ∙ n.1)) (subst (λ (f : Option Files). IsAfter made made [] old f (Rose w0 w1)) (sym n.0) (after_none made old (Rose w0 w1)))
      by (Some ns) at apart blank h bs even each =
          let many = length-map scripts script_commands in
          subst (λ (w : Result (Unit {0}) Unwritten). IsAfter made w (answers_in (Some ns.now) bs) old new (Rose w0 w1)) (sym (is ∙ sym r.written_is))
          (told_after ns.now (map script_commands scripts) bs parcels apart (even ∙ sym many)
          (λ i s a l. let ls : i < length scripts = omega (arith, l, many) in let k = each i a ls in k.named (some_of scripts i ls) ∙ ap files_named (sym (script_at scripts i s (some_of scripts i ls) ls)))
          (subst (λ (n : ℕ). All (λ (x : Parcel). x.sender < n) parcels) (sym many) within)
          (λ i n a l. let k = each i a (omega (arith, l, many)) in k.put ns at n)
          made r.end.written old new (Rose w0 w1)
          (made_of made (IfTold old (AreBlank ns.now)) blank (λ b. subst (λ (o : Names). IfSome o (λ (x : Bor (List (List ℕ))). IfTold old (AreBlank x.now))) at b)) h)

  pub ran_if : {E : Type 0} (x : Result Ran E) → IfOk x (λ (ran : Ran). ran.receipts.items ≡ map (λ (d : Done). d.receipt) done) → IfOk x (λ (ran : Ran). ran.fulls.items ≡ map (λ (d : Done). d.full) done) → IfOk x (λ (ran : Ran). ran.written ≡ written) → OnOk x (All (λ (d : Done). IsOk d.came) done)
      → IfSome names (λ (ns : Bor (List (List ℕ))). AreFilesApart ns.now (map script_commands scripts)) → OnOk made (IfSome names (λ (ns : Bor (List (List ℕ))). IfTold old (AreBlank ns.now))) → (names ≡ None → (new ≡ old) × (written ≡ made)) → IfOk x (λ (ran : Ran). HasRunJobs loads tables scripts names made ran old new w0 w1)
  ran_if (Ok ran) receipts fulls is came apart blank none = has_run_jobs ran receipts fulls is came apart blank none
  ran_if (Err e) receipts fulls is came apart blank none = tt
