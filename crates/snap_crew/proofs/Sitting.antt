-- A worker at its desk: one command more.
use Rattle.std.proofs.Common.{zero, suc, ◌≡◌, ◌≤◌, ◌<◌, ◌+◌, ◌++◌, ℕ, List, [], ◌∷◌, Option, Some, None, length, get_or, take, refl, ap, ap₂, sym, ◌∙◌, subst, append_assoc, append-nil, arith}
use Rattle.snap_prelude.proofs.Common.{take_all, take_more}
use Rattle.snap_desk.specs.{Answers.Answered, Answers.exported_file, Files.AllIn, Files.AllOthers, Files.files_named}
use Rattle.snap_desk.specs.{Puts.AreCountedFrom, Puts.AreFor, Puts.AreIn, Puts.AreOthers, Puts.GoesOnPutting}
use Rattle.snap_desk.specs.{Puts.HoldsAnswered, Puts.IsNamedIf, Puts.IsPutOut, declared.desk.Desk.Desk}
use Rattle.snap_outlet.specs.{Posts.put_at, declared.piece.Piece.Piece}
use Rattle.snap_prelude.specs.{Command}
use Rattle.snap_service.specs.Prelude.{SessionState}
use Rattle.snap_text.specs.LoadFiles.{Loads}
use Rattle.snap_write.specs.Outputs.{Outputs, names_of}
use Rattle.snap_write.proofs.Written.{names_of-append}
use Rattle.snap_desk.proofs.Putting.{same_more}
use Rattle.snap_crew.specs.{Prelude.CanWork, Seats.HasAnswered, Seats.IsBlank, Seats.KeepsTo}
use Rattle.snap_crew.proofs.Working.{IsAt, at_start, has_run}

-- whatever a command exports, it is for the same file
pub any_text_in : (names : List (List ℕ)) (c : Command) (s t : List ℕ) → AreIn names (exported_file c s) → AreIn names (exported_file c t)
any_text_in names (Command.Export slot lo hi file) s t h = h
any_text_in names _ s t h = tt

pub any_text_other : (o : Option (List ℕ)) (c : Command) (s t : List ℕ) → AreOthers o (exported_file c s) → AreOthers o (exported_file c t)
any_text_other None c s t h = tt
any_text_other (Some name) (Command.Export slot lo hi file) s t h = h
any_text_other (Some name) _ s t h = tt

any_text_named : (c : Command) (s t : List ℕ) → names_of (exported_file c s) ≡ names_of (exported_file c t)
any_text_named (Command.Export slot lo hi file) s t = refl
any_text_named _ s t = refl

pub in_at : (names : List (List ℕ)) (cs : List Command) (i : ℕ) (c : Command) → i < length cs → c ≡ get_or cs i c → AllIn names cs → AreIn names (exported_file c [])
in_at names [] i c l is all = absurd (omega (arith, l))
in_at names (x ∷ cs) zero c l is all = subst (λ (y : Command). AreIn names (exported_file y [])) (sym is) all.0
in_at names (x ∷ cs) (suc i) c l is all = in_at names cs i c (omega (arith, l)) is all.1

pub other_at : (o : Option (List ℕ)) (cs : List Command) (i : ℕ) (c : Command) → i < length cs → c ≡ get_or cs i c → AllOthers o cs → AreOthers o (exported_file c [])
other_at o [] i c l is all = absurd (omega (arith, l))
other_at o (x ∷ cs) zero c l is all = subst (λ (y : Command). AreOthers o (exported_file y [])) (sym is) all.0
other_at o (x ∷ cs) (suc i) c l is all = other_at o cs i c (omega (arith, l)) is all.1

named_push : (cs : List Command) (c : Command) → files_named (cs ++ c ∷ []) ≡ files_named cs ++ names_of (exported_file c [])
named_push [] c = append-nil (names_of (exported_file c []))
named_push (x ∷ cs) c = ap (λ (l : List (List ℕ)). names_of (exported_file x []) ++ l) (named_push cs c) ∙ sym (append_assoc (names_of (exported_file x [])) (files_named cs) (names_of (exported_file c [])))

-- the commands so far were run, and what they came to is put out or kept at the desk
pub record IsAtDesk (loads : Loads) (w : ℕ) (commands : List Command) (i : ℕ) (first now : SessionState) (d e : Desk) : Type 0 where
  pub answered : Answered
  pub at : IsAt loads w commands i answered first now
  pub of : HoldsAnswered e answered
  pub named : names_of answered.exports ≡ files_named (take i commands)
  pub keeps : KeepsTo commands d e

abbrev nothing : Answered
nothing = record { lines = []; exports = []; full = 0 }

blank_put : (o : Option (List ℕ)) (put : List Piece) (lines : List ℕ) → put ≡ [] → lines ≡ [] → IsPutOut o nothing put lines
blank_put None put lines p l = p
blank_put (Some name) put lines p l = subst (λ (x : List Piece). IsPutOut (Some name) nothing x lines) (sym p) (sym l, refl)

keeps_start : (commands : List Command) (d : Desk) → IsBlank d → KeepsTo commands d d
keeps_start commands d h = record {
  same = record { reply = refl; who = refl; outlet = refl; sender = refl };
  pieces = λ names is all. subst (λ (x : List Piece). AreFor names x) (sym h.nothing_put) tt;
  none = λ none. h.nothing_put;
  counted = subst (λ (x : List Piece). AreCountedFrom d.who 0 x d.pieces) (sym h.nothing_put) h.no_pieces;
}

pub desk_start : (loads : Loads) (w : ℕ) (commands : List Command) (s : SessionState) (d : Desk) → CanWork loads w s commands → IsBlank d → IsAtDesk loads w commands 0 s s d d
desk_start loads w commands s d can h = record {
  answered = nothing;
  at = at_start loads w commands nothing s can refl refl refl;
  of = record { put = blank_put d.reply (put_at d.post) d.lines.items h.nothing_put h.no_lines; full = h.no_full };
  named = refl;
  keeps = keeps_start commands d h;
}

-- what a worker's pieces are for, after more of them
pub keeps_more : (commands : List Command) (d e f : Desk) (outputs : Outputs) → ((names : List (List ℕ)) → AllIn names commands → AreIn names outputs) → KeepsTo commands d e → GoesOnPutting e f outputs → (e.reply ≡ None → put_at f.post ≡ put_at e.post) → KeepsTo commands d f
keeps_more commands d e f outputs within h k none = record {
  same = same_more d e f h.same k.same;
  pieces = λ names ini all. k.pieces names (let s = h.same in subst (λ (o : Option (List ℕ)). IsNamedIf names o) (sym s.reply) ini) (within names all) (h.pieces names ini all);
  none = λ no. none (let s = h.same in s.reply ∙ no) ∙ h.none no;
  counted = k.counted h.counted;
}

-- after those of one command
pub keeps_on : (commands : List Command) (i : ℕ) (c : Command) (d e f : Desk) (text : List ℕ) → i < length commands → c ≡ get_or commands i c → KeepsTo commands d e → GoesOnPutting e f (exported_file c text) → (e.reply ≡ None → put_at f.post ≡ put_at e.post) → KeepsTo commands d f
keeps_on commands i c d e f text l is = keeps_more commands d e f (exported_file c text) (λ names all. any_text_in names c [] text (in_at names commands i c l is all))

pub named_on : (commands : List Command) (i : ℕ) (c : Command) (exports : Outputs) (text : List ℕ) → i < length commands → c ≡ get_or commands i c → names_of exports ≡ files_named (take i commands) → names_of (exports ++ exported_file c text) ≡ files_named (take (i + 1) commands)
named_on commands i c exports text l is h =
    names_of-append exports (exported_file c text) ∙ ap₂ (λ (a b : List (List ℕ)). a ++ b) h (any_text_named c text [])
    ∙ sym (named_push (take i commands) c) ∙ sym (ap files_named (take_more commands i c l ∙ ap (λ (x : Command). take i commands ++ x ∷ []) (sym is)))

pub has_answered : (loads : Loads) (w : ℕ) (commands : List Command) (i : ℕ) (first now : SessionState) (d e : Desk) → length commands ≤ i → IsAtDesk loads w commands i first now d e → HasAnswered loads w commands first now e
has_answered loads w commands i first now d e past h = record {
  answered = h.answered;
  ran = has_run loads w commands i h.answered first now past h.at;
  put = h.of;
  named = h.named ∙ ap files_named (take_all i commands past);
}
