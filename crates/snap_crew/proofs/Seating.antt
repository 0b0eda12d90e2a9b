-- Seats that are made from the last to the first, and what workers find at them.
use Rattle.std.proofs.Common.{zero, suc, ◌≡◌, ◌<◌, ◌+◌, ◌++◌, ℕ, List, [], ◌∷◌, Option, Some, None, Result, Ok, Err, length, get_or, refl, ap, sym, ◌∙◌, subst, arith}
use denote.Ref.{Bor}
use Rattle.std.specs.Prelude.{All, IfSome, OnOk, map, slice_index_or}
use Rattle.snap_prelude.proofs.Common.{length-map, length_push}
use Rattle.snap_prelude.specs.{Command}
use Rattle.snap_desk.specs.Collecting.{AreThere, IsReadyToWrite}
use Rattle.snap_desk.specs.Files.{AllOthers, AreFilesApart, AreBlank}
use Rattle.snap_desk.proofs.Names.{all_others, beside, no_others, some_of, stands}
use Rattle.snap_io.specs.Prelude.{Files, IfTold}
use Rattle.snap_outlet.specs.Outlets.{new_sender, new_senders, OutletId, SenderAt, TakerAt}
use Rattle.snap_outlet.specs.Posts.{AreNumbered, PostAt}
use Rattle.snap_service.specs.Prelude.{Tables}
use Rattle.snap_text.specs.{LoadFiles.Loads, declared.script.Line.Line}
use Rattle.snap_write.specs.declared.unwritten.Unwritten.{Unwritten}
use Rattle.snap_crew.specs.{Prelude.CanSit, Prelude.IsCrew, Prelude.IsReplyAt, Prelude.script_commands}
use Rattle.snap_crew.specs.{declared.scripts.Crew.Crew, declared.seats.Seat.Seat}
use Rattle.snap_crew.proofs.{Carrying.script_named, Handing.job_can, Left.numbered_from}

-- the last of the senders
abbrev head_or : {X : Type 0} → List X → X → X
head_or [] d = d
head_or (x ∷ xs) d = x

abbrev tail_of : {X : Type 0} → List X → List X
tail_of [] = []
tail_of (x ∷ xs) = xs

pub snoc_same : {X : Type 0} (xs ys : List X) (x y : X) → xs ++ x ∷ [] ≡ ys ++ y ∷ [] → (xs ≡ ys) × (x ≡ y)
snoc_same {X} [] [] x y e = (refl, ap (λ (l : List X). head_or l x) e)
snoc_same {X} [] (b ∷ ys) x y e = absurd (omega (arith, ap length e, length_push ys y))
snoc_same {X} (a ∷ xs) [] x y e = absurd (omega (arith, ap length e, length_push xs x))
snoc_same {X} (a ∷ xs) (b ∷ ys) x y e = (let r = snoc_same xs ys x y (ap tail_of e) in (ap (λ (l : List X). head_or l a ∷ xs) e ∙ ap (λ (l : List X). b ∷ l) r.0, r.1))

pub last_sender : (outlet : OutletId) (m n : ℕ) (all fewer : List SenderAt) (x : SenderAt) → m + 1 ≡ n → all ≡ new_senders outlet n → all ≡ fewer ++ x ∷ [] → (fewer ≡ new_senders outlet m) × (x ≡ new_sender outlet m)
last_sender outlet m zero all fewer x one is e = absurd (omega (arith, one))
last_sender outlet m (suc n) all fewer x one is e =
    let same : n ≡ m = omega (arith, one) in
    let r = snoc_same fewer (new_senders outlet n) x (new_sender outlet n) (sym e ∙ is) in
    (r.0 ∙ ap (new_senders outlet) same, r.1 ∙ ap (new_sender outlet) same)

pub senders_many : (outlet : OutletId) (n : ℕ) → length (new_senders outlet n) ≡ n
senders_many outlet zero = refl
senders_many outlet (suc n) = omega (arith, length_push (new_senders outlet n) (new_sender outlet n), senders_many outlet n)

-- no export of a script is its reply file
others_at : (scripts : List (List Line)) (names : Option (Bor (List (List ℕ)))) (i : ℕ) (s : List Line) (reply : Option (List ℕ)) → i < length scripts → IfSome names (λ (ns : Bor (List (List ℕ))). AreFilesApart ns.now (map script_commands scripts)) → IsReplyAt names i reply → AllOthers reply (script_commands (get_or scripts i s))
others_at scripts None i s reply l apart is = subst (λ (o : Option (List ℕ)). AllOthers o (script_commands (get_or scripts i s))) (sym is) (no_others (script_commands (get_or scripts i s)))
others_at scripts (Some ns) i s reply l apart is =
    subst (λ (o : Option (List ℕ)). AllOthers o (script_commands (get_or scripts i s))) (sym (is []))
    (all_others (get_or ns.now i []) (script_commands (get_or scripts i s)) (λ n there. beside ns.now (map script_commands scripts) i [] n apart (omega (arith, l, apart.each, length-map scripts script_commands)) (script_named scripts i s n l there)))

module _ (loads : Loads) (tables : Tables) (scripts : List (List Line)) (names : Option (Bor (List (List ℕ)))) (crew : Crew) (c : IsCrew loads tables scripts names crew) where
  -- a worker can begin at each seat
  pub can_sit : IfSome names (λ (ns : Bor (List (List ℕ))). AreFilesApart ns.now (map script_commands scripts)) → All (CanSit loads crew.outlet) crew.seats.items
  can_sit apart i d l =
      let ls : i < length scripts = omega (arith, l, c.a_seat_each) in let s = some_of scripts i ls in let seat = slice_index_or crew.seats.items i d in let sits = c.seats i s d ls in let job = sits.job in
      record {
        can = job_can loads tables (script_commands (get_or scripts i s)) i seat.job sits.job;
        outlet_is = ap (λ (p : PostAt). p.outlet) sits.post;
        who_is = sits.who;
        blank = sits.blank;
        others = subst (λ (cs : List Command). AllOthers seat.desk.reply cs) (sym job.commands_are) (others_at scripts names i s seat.desk.reply ls apart sits.reply);
      }

  pub seats_numbered : AreNumbered 0 (map (λ (s : Seat). s.desk.post) crew.seats.items)
  seats_numbered = numbered_from 0 crew.seats.items (λ i d l.
      let ls : i < length scripts = omega (arith, l, c.a_seat_each) in let sits = c.seats i (some_of scripts i ls) d ls in
      ap (λ (p : PostAt). (let s = p.sent in s.sender)) sits.post ∙ (let e : i ≡ 0 + i = omega arith in e))

-- reply files that are there and empty are there
blank_there : (names : List (List ℕ)) (files : Files) → AreBlank names files → AreThere names files
blank_there names files blank name is none = let h = stands names name is in nope (sym (blank h.place [] h.within) ∙ ap files (h.is []) ∙ none)
  where
    nope : (let x : Option (List ℕ) = Some [] in x) ≡ None → ⊥
    nope e = absurd cc

pub ready_at : (names : Option (Bor (List (List ℕ)))) (made : Result (Unit {0}) Unwritten) (taker : TakerAt) (files : Option Files) → OnOk made (IfSome names (λ (ns : Bor (List (List ℕ))). IfTold files (AreBlank ns.now))) → IsReadyToWrite (record { taker = taker; names = names; written = made }) files
ready_at None made taker files h = tt
ready_at (Some ns) (Ok u) taker None h = tt
ready_at (Some ns) (Ok u) taker (Some f) h = blank_there ns.now f h
ready_at (Some ns) (Err w) taker files h = tt
