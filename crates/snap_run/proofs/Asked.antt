-- What a plan asks of its workers: their files differ, and the reply files are empty before they begin.
use denote.Ref.{Bor}
use Rattle.std.proofs.Common.{◌≡◌, ℕ, List, [], ◌∷◌, ◌++◌, Option, Some, None, Result, length, refl, sym, ◌∙◌, ap, ap₂, subst, append_assoc, IfSome, OnOk, map, unwrap_or}
use Rattle.std.proofs.lemmas.List.Elements.{filter_map-append}
use Rattle.snap_prelude.proofs.Common.{flat_map-cons, length-map, option_to_list}
use Rattle.snap_prelude.specs.{Command}
use Rattle.snap_io.specs.Prelude.{Changes, Files, IfTold}
use Rattle.snap_text.specs.declared.script.Line.{Line}
use Rattle.snap_crew.specs.Prelude.{all_files_named, answer_names, AreFilesApart, AreBlank, script_commands, exported_file, files_named, KeepsOthers, names_in}
use Rattle.snap_plan.specs.{Needs.all_commands, Needs.export_in, Needs.exports_named, Runnable.files_written}
use Rattle.snap_plan.specs.{Runnable.IsRunnable, declared.plan.Plan.Plan}
use Rattle.snap_write.specs.Outputs.{HasWritten, blank, names_of}
use Rattle.snap_run.proofs.{Pairs.Differ, Pairs.differ_left, Pairs.new_differ, Results.on_ok, Writes.made_blank}

-- the files that commands export are those that they name
one_named : (c : Command) → names_of (exported_file c []) ≡ exports_named (c ∷ [])
one_named (Command.Export n lo hi file) = refl
one_named _ = refl

script_named : (cs : List Command) → files_named cs ≡ exports_named cs
script_named [] = refl
script_named (c ∷ cs) = ap₂ (λ (a b : List (List ℕ)). a ++ b) (one_named c) (script_named cs) ∙ sym (filter_map-append export_in (c ∷ []) cs)

pub all_named : (scripts : List (List Line)) → all_files_named (map script_commands scripts) ≡ exports_named (all_commands scripts)
all_named [] = refl
all_named (x ∷ xs) =
    ap₂ (λ (a b : List (List ℕ)). a ++ b) (script_named (script_commands x)) (all_named xs)
    ∙ sym (filter_map-append export_in (script_commands x) (all_commands xs)) ∙ ap exports_named (sym (flat_map-cons script_commands x xs))

pub files_apart : (plan : Plan) → IsRunnable plan → IfSome plan.replies (λ names. length names ≡ length plan.scripts) → (replies : Option (Bor (List (List ℕ)))) → names_in replies ≡ plan.replies
    → IfSome replies (λ names. AreFilesApart names.now (map script_commands plan.scripts))
files_apart plan runs replied None is = tt
files_apart plan runs replied (Some names) is = record {
  each = subst (λ (o : Option (List (List ℕ))). IfSome o (λ ns. length ns ≡ length plan.scripts)) (sym is) replied ∙ sym (length-map plan.scripts script_commands);
  differ =
      let exports = exports_named (all_commands plan.scripts) in let last = option_to_list plan.last in
      let all : Differ (names.now ++ (exports ++ last)) = subst (λ (o : Option (List (List ℕ))). Differ (unwrap_or o [] ++ (exports ++ last))) (sym is) (new_differ (files_written plan) runs.written) in
      subst (λ (ns : List (List ℕ)). Differ (names.now ++ ns)) (sym (all_named plan.scripts))
      (differ_left (names.now ++ exports) last (subst (λ (ns : List (List ℕ)). Differ ns) (sym (append_assoc names.now exports last)) all));
}

pub replies_blank : {T E : Type 0} (named : Option (List (List ℕ))) (replies : Option (Bor (List (List ℕ)))) (made : Result T E) (old mid : Option Files) → names_in replies ≡ named
    → OnOk made (Changes old mid (HasWritten (blank (unwrap_or named [])))) → OnOk made (IfSome replies (λ names. IfTold mid (AreBlank names.now)))
replies_blank named None made old mid is written = on_ok made _ _ (λ w. tt) written
replies_blank named (Some names) made old mid is written =
    on_ok made _ _ (λ w. made_blank names.now old mid (subst (λ (o : Option (List (List ℕ))). Changes old mid (HasWritten (blank (unwrap_or o [])))) (sym is) w)) written

-- the files that workers leave alone, as the plan names them
pub kept_as_named : (plan : Plan) (named : Option (List (List ℕ))) (scripts : List (List Line)) (old new : Option Files) → named ≡ plan.replies → scripts ≡ plan.scripts
    → Changes old new (KeepsOthers (answer_names named (all_files_named (map script_commands scripts)))) → Changes old new (KeepsOthers (answer_names plan.replies (exports_named (all_commands plan.scripts))))
kept_as_named plan named scripts old new is same kept =
    subst (λ (ns : List (List ℕ)). Changes old new (KeepsOthers (answer_names plan.replies ns))) (all_named plan.scripts)
    (subst (λ (xs : List (List Line)). Changes old new (KeepsOthers (answer_names plan.replies (all_files_named (map script_commands xs))))) same
    (subst (λ (o : Option (List (List ℕ))). Changes old new (KeepsOthers (answer_names o (all_files_named (map script_commands scripts))))) is kept))
