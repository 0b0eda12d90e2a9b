-- A worker's loop: one command more.
use Rattle.std.proofs.Common.{◌≡◌, ◌≤◌, ◌<◌, ◌+◌, ◌*◌, ◌^◌, ◌++◌, ℕ, List, [], ◌∷◌, length, get_or, take, drop, refl, ap, sym, ◌∙◌, subst, arith}
use Rattle.snap_prelude.proofs.Common.{drop_more, get_or-map, length-map, length-take-le}
use Rattle.snap_prelude.proofs.Common.{length_push, map-append, take_all, take_more}
use Rattle.snap_fits.specs.Sessions.{exported}
use Rattle.snap_prelude.specs.{Command, Known, Pairs, Reply}
use Rattle.snap_text.specs.{Replies.reply_text, Tables.table_text, declared.script.Line.Line, LoadFiles.Loads}
use Rattle.snap_service.specs.Prelude.{CanRun, CanRunAll, course, HasServed}
use Rattle.snap_service.specs.Prelude.{most_uses, Serves, ServesOn, SessionState, text_of}
use Rattle.snap_service.proofs.Admitting.{number_is}
use Rattle.snap_crew.specs.Prelude.{Answered, AreOf, AreOfWorker, CanWork, exported_file, full_of, HasRun, HasWorked}
use Rattle.snap_crew.specs.Prelude.{lines_with, script_commands, ServesAll, table_files}
use Rattle.snap_crew.proofs.Replying.{few_fulls, file_exported, fulls_more, lines_more}

-- one more was run behind those that were
serves_on : (loads : Loads) (cs : List Command) (rs : List Reply) (a b next : SessionState) (c : Command) (r : Reply) → ServesAll loads a cs rs b → Serves loads b c r next → ServesAll loads a (cs ++ c ∷ []) (rs ++ r ∷ []) next
serves_on loads [] [] a b next c r same serves = (next, subst (λ (s : SessionState). Serves loads s c r next) same serves, refl)
serves_on loads [] (y ∷ rs) a b next c r h serves = absurd h
serves_on loads (x ∷ cs) [] a b next c r h serves = absurd h
serves_on loads (x ∷ cs) (y ∷ rs) a b next c r h serves = (h.0, h.1, serves_on loads cs rs h.0 b next c r h.2 serves)

-- the commands so far were run, and the others can be
pub record IsAt (loads : Loads) (w : ℕ) (commands : List Command) (i : ℕ) (answers : Answered) (first now : SessionState) : Type 0 where
  pub replies : List Reply
  pub exports : List (List ℕ × Pairs)
  pub steps : ServesAll loads first (take i commands) replies now
  pub served : HasServed loads w (take i commands) replies exports now
  pub can : CanRunAll now loads (drop i commands)
  pub few : most_uses now.passes ≤ most_uses first.passes + i * 2 ^ 22
  pub tables : now.tables ≡ first.tables
  pub many : length replies ≡ i
  pub answered : AreOf (take i commands) replies exports answers

pub at_start : (loads : Loads) (w : ℕ) (commands : List Command) (answers : Answered) (s : SessionState) → CanWork loads w s commands → answers.lines ≡ [] → answers.exports ≡ [] → answers.full ≡ 0 → IsAt loads w commands 0 answers s s
at_start loads w commands answers s can lines files full = record {
  replies = [];
  exports = [];
  steps = refl;
  served = can.begins;
  can = can.can;
  few = omega arith;
  tables = refl;
  many = refl;
  answered = record { lines = lines; files = files; full = full };
}

pub command_at : (script : List Line) (i : ℕ) (line : Line) → i < length script → line ≡ get_or script i line → line.command ≡ get_or (script_commands script) i line.command
command_at script i line l is = ap (λ (x : Line). x.command) is ∙ sym (get_or-map (λ (x : Line). x.command) script i line line.command l)

pub command_within : (script : List Line) (i : ℕ) → i < length script → i < length (script_commands script)
command_within script i l = omega (arith, l, length-map script (λ (x : Line). x.command))

module _ (loads : Loads) (w : ℕ) (commands : List Command) (i : ℕ) (answers : Answered) (first now : SessionState) (c : Command) (l : i < length commands) (is : c ≡ get_or commands i c) (h : IsAt loads w commands i answers first now) where
  rest : drop i commands ≡ c ∷ drop (i + 1) commands
  rest = drop_more commands i c l ∙ ap (λ (x : Command). x ∷ drop (i + 1) commands) (sym is)

  done : take (i + 1) commands ≡ take i commands ++ c ∷ []
  done = take_more commands i c l ∙ ap (λ (x : Command). take i commands ++ x ∷ []) (sym is)

  here : CanRunAll now loads (c ∷ drop (i + 1) commands)
  here = subst (λ (cs : List Command). CanRunAll now loads cs) rest h.can

  pub can_run : CanRun now loads c
  can_run = here.0

  pub few_full : answers.full ≤ i
  few_full = let a = h.answered in omega (arith, a.full, few_fulls h.replies, h.many)

  pub one_more : (r : Reply) (more : Answered) (next : SessionState) (text : List ℕ) → more.lines ≡ answers.lines ++ reply_text c r → more.exports ≡ answers.exports ++ exported_file c text → more.full ≡ answers.full + full_of r → text ≡ text_of now c
      → Serves loads now c r next → ServesOn loads now c r next → next.tables ≡ now.tables → most_uses next.passes ≤ most_uses now.passes + 2 ^ 22
      → IsAt loads w commands (i + 1) more first next
  one_more r more next text lines files full wrote serves on tables uses =
      let a = h.answered in let cs = take i commands in let new = exported (course w now) c in
      let both : length cs ≡ length h.replies = length-take-le i commands (omega (arith, l)) ∙ sym h.many in
      record {
        replies = h.replies ++ r ∷ [];
        exports = h.exports ++ new;
        steps = subst (λ (xs : List Command). ServesAll loads first xs (h.replies ++ r ∷ []) next) (sym done) (serves_on loads cs h.replies first now next c r h.steps serves);
        served = subst (λ (xs : List Command). HasServed loads w xs (h.replies ++ r ∷ []) (h.exports ++ new) next) (sym done) (on w cs h.replies h.exports h.served);
        can = here.1 r next serves;
        few = omega (arith, uses, h.few);
        tables = tables ∙ h.tables;
        many = omega (arith, h.many, length_push h.replies r);
        answered = record {
          lines = lines ∙ ap (λ (x : List ℕ). x ++ reply_text c r) a.lines ∙ sym (lines_more cs h.replies c r both) ∙ ap (λ (xs : List Command). lines_with xs (h.replies ++ r ∷ [])) (sym done);
          files = files ∙ ap (λ (x : List (List ℕ × List ℕ)). x ++ exported_file c text) a.files
              ∙ ap (λ (x : List (List ℕ × List ℕ)). table_files h.exports ++ x) (ap (exported_file c) wrote ∙ file_exported now loads w c can_run)
              ∙ sym (map-append (λ (e : List ℕ × Pairs). (e.0, table_text e.1)) h.exports new);
          full = full ∙ ap (λ (n : ℕ). n + full_of r) a.full ∙ sym (fulls_more h.replies r);
        };
      }

pub has_run : (loads : Loads) (w : ℕ) (commands : List Command) (i : ℕ) (answers : Answered) (first now : SessionState) → length commands ≤ i → IsAt loads w commands i answers first now → HasRun loads w commands answers first now
has_run loads w commands i answers first now past h =
    let all : take i commands ≡ commands = take_all i commands past in
    record {
      replies = h.replies;
      exports = h.exports;
      steps = subst (λ (cs : List Command). ServesAll loads first cs h.replies now) all h.steps;
      served = subst (λ (cs : List Command). HasServed loads w cs h.replies h.exports now) all h.served;
      answered = subst (λ (cs : List Command). AreOf cs h.replies h.exports answers) all h.answered;
    }

pub numbered : (loads : Loads) (w : ℕ) (commands : List Command) (first : SessionState) (passes : List Known) (answers : Answered) → HasWorked loads w commands first passes answers → AreOfWorker w passes
numbered loads w commands first passes answers h = let r = h.ran in subst (AreOfWorker w) (sym h.left) (number_is loads w h.state commands r.replies r.exports r.served)
