-- A plan that was carried out, from what its workers handed over and what was written and told.
use Rattle.snap_prelude.proofs.Common.{length-map, option_to_list}
use Rattle.std.proofs.Common.{◌≡◌, ◌≢◌, ◌<◌, ◌≤◌, ◌+◌, ◌^◌, ℕ, List, [], ◌∷◌, ◌++◌, Option, Some, None, length, get_or, inl, inr, refl, sym, ◌∙◌, ap, ap₂, subst, append_assoc, arith, IfSome, is_some, map, sum_by, unwrap_or}
use Rattle.std.proofs.lemmas.List.Sums.{sum_by-cons, sum_by-le}
use Rattle.snap_fits.specs.Fits.{Front, Setting, Told}
use Rattle.snap_text.specs.declared.script.Line.{Line}
use Rattle.snap_service.specs.Prelude.{fronts_of}
use Rattle.snap_crew.specs.Prelude.{Answered, answer_names, answers_in, script_commands, exports_in, fulls_of, HasFit, IsFinished, replies_in}
use Rattle.snap_crew.specs.declared.scripts.Finished.{Finished}
use Rattle.snap_crew.proofs.Replying.{few_fulls, fulls_told}
use Rattle.snap_plan.specs.{Needs.all_commands, Needs.exports_named, Runnable.files_written, Runnable.IsRunnable}
use Rattle.snap_plan.specs.{declared.plan.Plan.Plan}
use Rattle.snap_write.specs.Outputs.{Outputs, names_of}
use Rattle.snap_desk.proofs.Told.{reply_names}
use Rattle.snap_write.proofs.Written.{names_of-append}
use Rattle.snap_run.specs.{Files.answer_files, Files.last_in, Files.names_written, Files.run_outputs, Files.setting_for}
use Rattle.snap_run.specs.{Outcomes.OnlyWorkers, Printed.entries, Printed.first_line, Printed.fulls, Printed.summary}
use Rattle.snap_run.specs.{Printed.table_lines, Reports.fulls_in, Reports.lines_in, Reports.summary_in}
use Rattle.snap_run.proofs.{Pairs.Differ, Pairs.new_differ, Told.all_fit, Told.AllFit}
use Rattle.snap_run.proofs.{Told.told_entries, Told.told_exports, Told.told_fulls, Told.told_many, Told.told_names}
use Rattle.snap_run.proofs.{Told.told_replies, Told.tolds, Writes.last_is, Writes.last_names}

-- no more replies are full than there are commands
full_told : (ts : List Told) → fulls_of ts ≤ length ts
full_told ts = let few = few_fulls (map (λ (t : Told). t.reply) ts) in omega (arith, few, fulls_told ts, length_replies ts)
  where
    length_replies : (ts : List Told) → length (map (λ (t : Told). t.reply) ts) ≡ length ts
    length_replies ts = length-map ts (λ (t : Told). t.reply)

pub full_entries : (told : List (List Told)) → fulls told ≤ entries told
full_entries [] = omega arith
full_entries (ts ∷ told) = omega (arith, full_told ts, full_entries told)

one_differs : (last : Option (List ℕ)) → Differ (option_to_list last)
one_differs None i j d l m same = omega (arith, l, m)
one_differs (Some name) i j d l m same = omega (arith, l, m)

answers_are : (replies : Option (List (List ℕ))) (s : Setting) (fronts : ℕ → Front) (xs : List (List Line)) (bs : List Answered) (h : AllFit s fronts 0 xs bs) → answers_in replies bs ≡ answer_files replies s fronts (tolds s fronts 0 xs bs h)
answers_are None s fronts xs bs h = refl
answers_are (Some names) s fronts xs bs h = ap₂ (λ (a b : Outputs). a ++ b) (told_replies s fronts names 0 xs bs h) (told_exports s fronts 0 xs bs h)

-- the numbers of all workers together
all_full : (bs : List Answered) → fulls_in (map (λ (a : Answered). a.full) bs) ≡ sum_by (λ (a : Answered). a.full) bs
all_full [] = refl
all_full (b ∷ bs) = sum_by-cons (λ (n : ℕ). n) b.full (map (λ (a : Answered). a.full) bs) ∙ ap (λ (n : ℕ). b.full + n) (all_full bs) ∙ sym (sum_by-cons (λ (a : Answered). a.full) b bs)

module _ (plan : Plan) (runs : IsRunnable plan) (replied : IfSome plan.replies (λ names. length names ≡ length plan.scripts)) (bs : List Answered) (f : Finished) (fin : IsFinished plan.tables plan.rows plan.loads plan.scripts (is_some plan.last) bs f) where
  abbrev s : Setting
  s = setting_for plan

  abbrev fronts : ℕ → Front
  fronts = fronts_of f.fronts

  pub fit : AllFit s fronts 0 plan.scripts bs
  fit = all_fit s fronts 0 plan.scripts bs fin.answers_each (λ i d a l. (let e : i ≡ 0 + i = omega arith in subst (λ (n : ℕ). HasFit s fronts n (script_commands (get_or plan.scripts i d)) (get_or bs i a)) e (fin.fits i d a l)))

  abbrev pub told : List (List Told)
  told = tolds s fronts 0 plan.scripts bs fit

  abbrev pub outs : Outputs
  outs = answers_in plan.replies bs ++ last_in plan.last f.last

  pub outs_are : outs ≡ run_outputs plan told f.fronts
  outs_are = ap₂ (λ (a b : Outputs). a ++ b) (answers_are plan.replies s fronts plan.scripts bs fit) (last_is plan.last f.last (fronts 0) fin.text)

  pub fulls_are : fulls_in f.fulls.items ≡ fulls told
  fulls_are = ap fulls_in fin.fulls ∙ all_full bs ∙ told_fulls s fronts 0 plan.scripts bs fit

  pub text_are : summary_in plan.scripts f.fulls.items plan.tables f.fronts ≡ summary plan told f.fronts
  text_are = ap (λ (n : ℕ). first_line n (lines_in plan.scripts) (fulls_in f.fulls.items) ++ table_lines plan.tables f.fronts) (sym (told_many s fronts 0 plan.scripts bs fit))
      ∙ ap (λ (n : ℕ). first_line (length told) n (fulls_in f.fulls.items) ++ table_lines plan.tables f.fronts) (told_entries s fronts 0 plan.scripts bs fit)
      ∙ ap (λ (n : ℕ). first_line (length told) (entries told) n ++ table_lines plan.tables f.fronts) fulls_are

  pub few_commands : lines_in plan.scripts < 2 ^ 63
  few_commands = let all = sum_by-le (λ (x : List Line). length x) 1000300 plan.scripts (λ i d l. (let x = runs.scripts i d l in x.few)) in omega (arith, all, runs.few_scripts)

  pub few_full : fulls_in f.fulls.items < 2 ^ 63
  few_full = omega (arith, few_commands, told_entries s fronts 0 plan.scripts bs fit, full_entries told, fulls_are)

  pub only_workers : (t : ℕ) → OnlyWorkers (length plan.scripts) ((t ≡ 0) × (plan.last ≢ None)) (fronts t)
  only_workers t = by plan.last refl
    where
      by : (o : Option (List ℕ)) → plan.last ≡ o → OnlyWorkers (length plan.scripts) ((t ≡ 0) × (plan.last ≢ None)) (fronts t)
      by None e = let w = fin.workers in let x = w.only t in record { entries = x.entries; cuts = x.cuts; own = inl (w.uncut (ap is_some e) t) }
      by (Some name) e = let w = fin.workers in let x = w.only t in record {
        entries = x.entries;
        cuts = x.cuts;
        own = elim x.final [ inl none ↦ inl none | inr one ↦ inr ((one.0, λ no. (let both : Some name ≡ None = sym e ∙ no in absurd cc)), one.1) ];
      }

  -- their names, which all differ
  pub outs_named : names_of outs ≡ names_written plan
  outs_named =
      names_of-append (answers_in plan.replies bs) (last_in plan.last f.last)
      ∙ ap₂ (λ (a b : List (List ℕ)). a ++ b) (by plan.replies replied) (ap names_of (last_is plan.last f.last (fronts 0) fin.text) ∙ last_names plan.last (fronts 0))
    where
      by : (o : Option (List (List ℕ))) → IfSome o (λ ns. length ns ≡ length plan.scripts) → names_of (answers_in o bs) ≡ answer_names o (exports_named (all_commands plan.scripts))
      by None h = refl
      by (Some names) many =
          names_of-append (replies_in names bs) (exports_in bs)
          ∙ ap₂ (λ (a b : List (List ℕ)). a ++ b) (reply_names names bs (omega (arith, many, fin.answers_each))) (ap names_of (told_exports s fronts 0 plan.scripts bs fit) ∙ told_names s fronts 0 plan.scripts bs fit)

  pub files_differ : Differ (names_of outs)
  files_differ = subst (λ (ns : List (List ℕ)). Differ ns) (sym outs_named) (by plan.replies refl)
    where
      by : (o : Option (List (List ℕ))) → plan.replies ≡ o → Differ (answer_names o (exports_named (all_commands plan.scripts)) ++ option_to_list plan.last)
      by None e = one_differs plan.last
      by (Some names) e =
          let all : answer_names (Some names) (exports_named (all_commands plan.scripts)) ++ option_to_list plan.last ≡ files_written plan =
          append_assoc names (exports_named (all_commands plan.scripts)) (option_to_list plan.last)
          ∙ ap (λ (o : Option (List (List ℕ))). unwrap_or o [] ++ (exports_named (all_commands plan.scripts) ++ option_to_list plan.last)) (sym e) in
          subst (λ (ns : List (List ℕ)). Differ ns) (sym all) (new_differ (files_written plan) runs.written)

  pub a_worker_each : length (unwrap_or plan.replies []) ≤ length bs
  a_worker_each = by plan.replies replied
    where
      by : (o : Option (List (List ℕ))) → IfSome o (λ ns. length ns ≡ length plan.scripts) → length (unwrap_or o []) ≤ length bs
      by None h = omega arith
      by (Some names) h = omega (arith, h, fin.answers_each)
