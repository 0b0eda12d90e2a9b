-- The files that a run writes, by what its commands were told.
use Rattle.std.specs.Prelude.{◌++◌, ℕ, List, [], ◌∷◌, Option, Some, None, Result, Ok, Err, Vec, flat_map, length}
use Rattle.std.specs.{Option.option_to_list, Global.Global}
use Rattle.snap_fits.specs.Fits.{Front, Setting, Told}
use Rattle.snap_prelude.specs.{after, Ended}
use Rattle.snap_text.specs.Tables.{table_text}
use Rattle.snap_service.specs.Prelude.{fronts_of}
use Rattle.snap_crew.specs.Prelude.{answer_names, files_of, lines_of, setting_of}
pub use Rattle.snap_crew.specs.Prelude.{KeepsOthers}
use Rattle.snap_plan.specs.{Needs.all_commands, Needs.exports_named, declared.plan.Plan.Plan, declared.stop.Stop.Stop}
use Rattle.snap_write.specs.Outputs.{Outputs}

-- the run of a plan, as its outcome speaks of it
abbrev pub setting_for : Plan → Setting
setting_for plan = setting_of plan.tables plan.rows plan.loads (length plan.scripts)

-- the reply files, each with the lines of its worker's replies
abbrev pub reply_files : List (List ℕ) → List (List Told) → Outputs
reply_files (name ∷ names) (ts ∷ told) = (name, lines_of ts) ∷ reply_files names told
reply_files _ _ = []

-- the exports of all workers
abbrev pub export_files : Setting → (ℕ → Front) → List (List Told) → Outputs
export_files s fronts told = flat_map (files_of s fronts) told

-- the final file
abbrev pub last_file : Option (List ℕ) → Front → Outputs
last_file None front = []
last_file (Some name) front = (name, table_text (after front.history)) ∷ []

-- what made scripts reply and export is not written
abbrev pub answer_files : Option (List (List ℕ)) → Setting → (ℕ → Front) → List (List Told)
    → Outputs
answer_files None s fronts told = []
answer_files (Some names) s fronts told = reply_files names told ++ export_files s fronts told

-- all files that a run writes, with their texts
abbrev pub run_outputs : Plan → List (List Told) → List Ended → Outputs
run_outputs plan told fronts = answer_files plan.replies (setting_for plan) (fronts_of fronts) told
    ++ last_file plan.last (fronts_of fronts 0)

-- the names of all files that a plan may write: where the replies have files, these and the
-- exports; and the final file
abbrev pub names_written : Plan → List (List ℕ)
names_written plan = answer_names plan.replies (exports_named (all_commands plan.scripts))
    ++ option_to_list plan.last

-- those that a run may write, by what its words and files give: none where it is stopped
abbrev pub names_given : Result Plan Stop → List (List ℕ)
names_given (Ok plan) = names_written plan
names_given (Err stop) = []

-- the final file by its name and the text that was wanted for it
abbrev pub last_in : Option (List ℕ) → Option (Vec ℕ Global) → Outputs
last_in (Some name) (Some text) = (name, text.items) ∷ []
last_in _ _ = []
