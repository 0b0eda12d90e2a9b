-- What a piece more makes of what was put out.
use Rattle.std.proofs.Common.{◌≡◌, ◌≢◌, ◌++◌, ℕ, true, false, cond, List, [], ◌∷◌, Option, Some, None, Result, Ok, Err, Vec, Global, refl, ap, ap₂, sym, ◌∙◌, subst, append_assoc, append-nil}
use Rattle.std.specs.Prelude.{OnErr, OnOk, bytes_eq}
use Rattle.snap_outlet.specs.declared.piece.Piece.{Piece}
use Rattle.snap_write.proofs.Causes.{same_name}
use Rattle.snap_write.specs.Outputs.{IsNamed, Outputs}
use Rattle.snap_model.specs.declared.command.Command.{Command}
use Rattle.snap_model.specs.declared.command.Command.TheVariants as command
use Rattle.snap_outlet.specs.Posts.{put_at}
use Rattle.snap_desk.specs.declared.desk.Desk.{Desk}
use Rattle.snap_desk.specs.Answers.{Answered, exported_file}
use Rattle.snap_io.specs.Causes.{raised}
use Rattle.snap_desk.specs.Puts.{PutsBehind, AreCountedFrom, AreFor, AreIn, AreOthers, GoesOnPutting, IsNamedIf, IsPutOut, IsSame, PutsOne, files_beside, text_in}

text_push : (name : List ℕ) (ps : List Piece) (p : Piece) → text_in name (ps ++ p ∷ []) ≡ text_in name ps ++ cond (bytes_eq p.file name) p.bytes []
text_push name [] p = append-nil (cond (bytes_eq p.file name) p.bytes [])
text_push name (x ∷ ps) p = ap (λ (l : List ℕ). cond (bytes_eq x.file name) x.bytes [] ++ l) (text_push name ps p) ∙ sym (append_assoc (cond (bytes_eq x.file name) x.bytes []) (text_in name ps) (cond (bytes_eq p.file name) p.bytes []))

beside_push : (name : List ℕ) (ps : List Piece) (p : Piece) → files_beside name (ps ++ p ∷ []) ≡ files_beside name ps ++ cond (bytes_eq p.file name) [] ((p.file, p.bytes) ∷ [])
beside_push name [] p = append-nil (cond (bytes_eq p.file name) [] ((p.file, p.bytes) ∷ []))
beside_push name (x ∷ ps) p = ap (λ (l : Outputs). cond (bytes_eq x.file name) [] ((x.file, x.bytes) ∷ []) ++ l) (beside_push name ps p) ∙ sym (append_assoc (cond (bytes_eq x.file name) [] ((x.file, x.bytes) ∷ [])) (files_beside name ps) (cond (bytes_eq p.file name) [] ((p.file, p.bytes) ∷ [])))

pub for_push : (names : List (List ℕ)) (ps : List Piece) (p : Piece) → AreFor names ps → IsNamed names p.file → AreFor names (ps ++ p ∷ [])
for_push names [] p all is = (is, tt)
for_push names (x ∷ ps) p all is = (all.0, for_push names ps p all.1 is)

module _ (name : List ℕ) (a : Answered) (put : List Piece) (p : Piece) where
  -- all lines go out as a piece of the reply file
  pub lines_out : (lines : List ℕ) → p.file ≡ name → p.bytes ≡ lines → IsPutOut (Some name) a put lines → IsPutOut (Some name) a (put ++ p ∷ []) []
  lines_out lines is text h =
      let same : bytes_eq p.file name ≡ true = ap (λ f. bytes_eq f name) is ∙ same_name name in (
        h.0 ∙ ap (λ (l : List ℕ). text_in name put ++ l) (sym text) ∙ sym (ap (λ b. text_in name put ++ cond b p.bytes []) same) ∙ sym (text_push name put p) ∙ sym (append-nil (text_in name (put ++ p ∷ []))),
        h.1 ∙ sym (append-nil (files_beside name put)) ∙ sym (ap (λ b. files_beside name put ++ cond b [] ((p.file, p.bytes) ∷ [])) same) ∙ sym (beside_push name put p),
      )

  -- an export goes out as a piece of its own file
  pub file_out : (lines file text : List ℕ) → p.file ≡ file → p.bytes ≡ text → bytes_eq file name ≡ false → IsPutOut (Some name) a put lines
      → IsPutOut (Some name) (record { lines = a.lines ++ []; exports = a.exports ++ (file, text) ∷ []; full = a.full }) (put ++ p ∷ []) lines
  file_out lines file text is same other h =
      let no : bytes_eq p.file name ≡ false = ap (λ f. bytes_eq f name) is ∙ other in (
        append-nil a.lines ∙ h.0 ∙ ap (λ (l : List ℕ). l ++ lines) (sym (append-nil (text_in name put)) ∙ sym (ap (λ b. text_in name put ++ cond b p.bytes []) no) ∙ sym (text_push name put p)),
        ap₂ (λ (l : Outputs) (f : List ℕ × List ℕ). l ++ f ∷ []) h.1 (ap₂ (λ (f t : List ℕ). (f, t)) (sym is) (sym same)) ∙ sym (ap (λ b. files_beside name put ++ cond b [] ((p.file, p.bytes) ∷ [])) no) ∙ sym (beside_push name put p),
      )

-- lines are kept behind those that are
pub lines_kept : (o : Option (List ℕ)) (a : Answered) (put : List Piece) (lines more : List ℕ) → IsPutOut o a put lines → IsPutOut o (record { lines = a.lines ++ more; exports = a.exports ++ []; full = a.full }) put (lines ++ more)
lines_kept None a put lines more h = h
lines_kept (Some name) a put lines more h = (ap (λ (l : List ℕ). l ++ more) h.0 ∙ append_assoc (text_in name put) lines more, append-nil a.exports ∙ h.1)

-- a desk whose lines all went out
pub lines_put : {E : Type 0} (r : Result (Unit {0}) E) (d m e : Desk) (name file text : List ℕ) → d.reply ≡ Some name → e.reply ≡ d.reply → put_at m.post ≡ put_at d.post → e.full ≡ d.full → e.lines.items ≡ [] → file ≡ name → text ≡ d.lines.items → OnOk r (PutsOne m e file text) → OnOk r (PutsBehind d e [] [])
lines_put (Err x) d m e name file text some same before full none is all h = tt
lines_put (Ok u) d m e name file text some same before full none is all h = record {
  full = full;
  put = λ a q.
      let put = put_at d.post in
      let first : IsPutOut (Some name) a put d.lines.items = subst (λ (o : Option (List ℕ)). IsPutOut o a put d.lines.items) some q in
      let out : IsPutOut (Some name) a (put ++ h.piece ∷ []) [] = lines_out name a put h.piece d.lines.items (h.file_is ∙ is) (h.text_is ∙ all) first in
      let more = lines_kept (Some name) a (put ++ h.piece ∷ []) [] [] out in
      let b : Answered = record { lines = a.lines ++ []; exports = a.exports ++ []; full = a.full } in
      subst (λ (o : Option (List ℕ)). IsPutOut o b (put_at e.post) e.lines.items) (sym (same ∙ some))
      (subst (λ (l : List ℕ). IsPutOut (Some name) b (put_at e.post) l) (sym none)
      (subst (λ (ps : List Piece). IsPutOut (Some name) b ps []) (sym (h.put ∙ ap (λ (ps : List Piece). ps ++ h.piece ∷ []) before)) more));
}

-- a desk from which an export went out
pub export_put : {E : Type 0} (r : Result (Unit {0}) E) (d e : Desk) (cmd : Command) (slot lo hi : ℕ) (named file text : List ℕ) → cmd ≡ command.Export slot lo hi named → d.reply ≢ None → AreOthers d.reply (exported_file cmd text) → IsSame d e → e.full ≡ d.full → e.lines.items ≡ d.lines.items → file ≡ named
    → OnOk r (PutsOne d e file text) → OnOk r (PutsBehind d e [] (exported_file cmd text))
export_put (Err x) d e cmd slot lo hi named file text is some others same full lines file_is h = tt
export_put (Ok u) d e cmd slot lo hi named file text is some others same full lines file_is h = record {
  full = full;
  put = λ a q. by d.reply refl some (subst (λ (c : Command). AreOthers d.reply (exported_file c text)) is others) a q;
}
  where
    by : (o : Option (List ℕ)) → d.reply ≡ o → o ≢ None → AreOthers o ((named, text) ∷ []) → (a : Answered) → IsPutOut o a (put_at d.post) d.lines.items → IsPutOut e.reply (record { lines = a.lines ++ []; exports = a.exports ++ exported_file cmd text; full = a.full }) (put_at e.post) e.lines.items
    by None at nope others a q = absurd (nope refl)
    by (Some name) at nope others a q =
        let put = put_at d.post in let b : Answered = record { lines = a.lines ++ []; exports = a.exports ++ (named, text) ∷ []; full = a.full } in
        let out : IsPutOut (Some name) b (put ++ h.piece ∷ []) d.lines.items = file_out name a put h.piece d.lines.items named text (h.file_is ∙ file_is) h.text_is others.0 q in
        subst (λ (c : Command). IsPutOut e.reply (record { lines = a.lines ++ []; exports = a.exports ++ exported_file c text; full = a.full }) (put_at e.post) e.lines.items) (sym is)
        (subst (λ (o : Option (List ℕ)). IsPutOut o b (put_at e.post) e.lines.items) (sym (same.reply ∙ at))
        (subst (λ (l : List ℕ). IsPutOut (Some name) b (put_at e.post) l) (sym lines)
        (subst (λ (ps : List Piece). IsPutOut (Some name) b ps d.lines.items) (sym h.put) out)))

-- lines were kept, and then perhaps put out
pub lines_added : {E : Type 0} (r : Result (Unit {0}) E) (d m e : Desk) (more : List ℕ) → m.reply ≡ d.reply → put_at m.post ≡ put_at d.post → m.full ≡ d.full → m.lines.items ≡ d.lines.items ++ more → OnOk r (PutsBehind m e [] []) → OnOk r (PutsBehind d e more [])
lines_added (Err x) d m e more reply before full lines h = tt
lines_added (Ok u) d m e more reply before full lines h = record {
  full = h.full ∙ full;
  put = λ a q.
      let b : Answered = record { lines = a.lines ++ more; exports = a.exports ++ []; full = a.full } in
      let kept : IsPutOut d.reply b (put_at d.post) (d.lines.items ++ more) = lines_kept d.reply a (put_at d.post) d.lines.items more q in
      let there : IsPutOut m.reply b (put_at m.post) m.lines.items =
      subst (λ (o : Option (List ℕ)). IsPutOut o b (put_at m.post) m.lines.items) (sym reply)
      (subst (λ (ps : List Piece). IsPutOut d.reply b ps m.lines.items) (sym before)
      (subst (λ (l : List ℕ). IsPutOut d.reply b (put_at d.post) l) (sym lines) kept)) in
      let after = h.put b there in
      subst (λ (c : Answered). IsPutOut e.reply c (put_at e.post) e.lines.items) (both (a.lines ++ more) a.exports a.full) after;
}
  where
    both : (ls : List ℕ) (es : Outputs) (n : ℕ) → (let x : Answered = record { lines = ls ++ []; exports = (es ++ []) ++ []; full = n } in x) ≡ (let y : Answered = record { lines = ls; exports = es ++ []; full = n } in y)
    both ls es n = ap₂ (λ (l : List ℕ) (x : Outputs). (let y : Answered = record { lines = l; exports = x; full = n } in y)) (append-nil ls) (append-nil (es ++ []))

-- the desk of the same worker
pub same_more : (d e f : Desk) → IsSame d e → IsSame e f → IsSame d f
same_more d e f h k = record { reply = k.reply ∙ h.reply; who = k.who ∙ h.who; outlet = k.outlet ∙ h.outlet; sender = k.sender ∙ h.sender }

-- lines and the count of full replies may have changed before
pub puts_from : (d : Desk) (lines : Vec ℕ Global) (full : ℕ) (e : Desk) (outputs : Outputs) → GoesOnPutting (record d { lines = lines; full = full }) e outputs → GoesOnPutting d e outputs
puts_from d lines full e outputs h = record {
  same = (let s = h.same in record { reply = s.reply; who = s.who; outlet = s.outlet; sender = s.sender });
  counted = h.counted;
  pieces = h.pieces;
}

-- a piece for a file of these names
pub one_for : {E : Type 0} (r : Result (Unit {0}) E) (m e : Desk) (file text : List ℕ) (names : List (List ℕ)) → OnOk r (PutsOne m e file text) → OnErr r (put_at e.post ≡ put_at m.post) → IsNamed names file → AreFor names (put_at m.post) → AreFor names (put_at e.post)
one_for (Ok u) m e file text names put stays is all = subst (λ (ps : List Piece). AreFor names ps) (sym put.put) (for_push names (put_at m.post) put.piece all (subst (λ (x : List ℕ). IsNamed names x) (sym put.file_is) is))
one_for (Err x) m e file text names put stays is all = subst (λ (ps : List Piece). AreFor names ps) (sym stays) all

pub reply_in : (names : List (List ℕ)) (o : Option (List ℕ)) (name file : List ℕ) → o ≡ Some name → file ≡ name → IsNamedIf names o → IsNamed names file
reply_in names o name file some is h = subst (λ (x : List ℕ). IsNamed names x) (sym is) (subst (λ (x : Option (List ℕ)). IsNamedIf names x) some h)

pub export_in : (names : List (List ℕ)) (cmd : Command) (slot lo hi : ℕ) (named file text : List ℕ) → cmd ≡ command.Export slot lo hi named → file ≡ named → AreIn names (exported_file cmd text) → IsNamed names file
export_in names cmd slot lo hi named file text is file_is h = subst (λ (x : List ℕ). IsNamed names x) (sym file_is) (subst (λ (c : Command). AreIn names (exported_file c text)) is h).0

-- a piece more that is counted
pub counted_push : (who n m k : ℕ) (ps : List Piece) (p : Piece) → AreCountedFrom who n ps m → p.worker ≡ who → p.number ≡ raised m → k ≡ raised m → AreCountedFrom who n (ps ++ p ∷ []) k
counted_push who n m k [] p h is at to = (is, at ∙ ap raised h, to ∙ ap raised h)
counted_push who n m k (x ∷ ps) p h is at to = (h.0, h.1, counted_push who (raised n) m k ps p h.2 is at to)
