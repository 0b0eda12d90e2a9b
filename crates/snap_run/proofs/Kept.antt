-- Files that a run leaves alone.
use Rattle.std.specs.Global.{Global}
use Rattle.snap_prelude.proofs.Common.{option_to_list}
use Rattle.std.proofs.Common.{◌≡◌, ◌⊎◌, ℕ, Bool, true, false, List, [], ◌∷◌, ◌++◌, Option, Some, None, Result, Ok, Err, inl, inr, refl, sym, ap, subst, ◌∙◌, OnErr, OnOk, Vec, unwrap_or}
use Rattle.snap_io.specs.Prelude.{Changes, Files, IfTold}
use Rattle.snap_plan.specs.{Needs.all_commands, Needs.among, Needs.exports_named, declared.plan.Plan.Plan}
use Rattle.snap_plan.specs.{declared.stop.Stop.Stop}
use Rattle.snap_write.specs.Outputs.{HasBegun, HasFront, HasWritten, Outputs, blank, names_of, text_for}
use Rattle.snap_write.specs.declared.unwritten.Unwritten.{Unwritten}
use Rattle.snap_write.proofs.Written.{changes_after, changes_as, text_for-unnamed, whole_begun}
use Rattle.snap_crew.specs.Prelude.{answer_names, IsAfter, KeepsOthers}
use Rattle.snap_run.specs.Files.{last_in, names_given, names_written}
use Rattle.snap_desk.proofs.Names.{among_left, among_right}

abbrev Keeps : List (List ℕ) → Option Files → Option Files → Type 0
Keeps names old new = Changes old new (KeepsOthers names)

-- files that were begun, or written, are those that were to be
begun_keeps : (outs : Outputs) (f g : Files) → HasBegun outs f g → KeepsOthers (names_of outs) f g
begun_keeps outs f g begun name = either (among (names_of outs) name) refl (begun name)
  where
    either : (b : Bool) → among (names_of outs) name ≡ b → (g name ≡ f name) ⊎ HasFront (text_for outs name) (g name) → (g name ≡ f name) ⊎ (among (names_of outs) name ≡ true)
    either true is h = inr is
    either false is (inl same) = inl same
    either false is (inr front) = absurd (subst (λ (o : Option (List ℕ)). HasFront o (g name)) (text_for-unnamed outs name is) front)

begun_kept : (outs : Outputs) (old new : Option Files) → Changes old new (HasBegun outs) → Keeps (names_of outs) old new
begun_kept outs = changes_as (HasBegun outs) (KeepsOthers (names_of outs)) (begun_keeps outs)

written_kept : (outs : Outputs) (old new : Option Files) → Changes old new (HasWritten outs) → Keeps (names_of outs) old new
written_kept outs = changes_as (HasWritten outs) (KeepsOthers (names_of outs)) (λ f g h. begun_keeps outs f g (whole_begun outs f g h))

pub same_kept : (names : List (List ℕ)) (old new : Option Files) → new ≡ old → Keeps names old new
same_kept names old new is = subst (λ (x : Option Files). Keeps names old x) (sym is) (here old)
  where
    here : (o : Option Files) → Keeps names o o
    here None = tt
    here (Some f) = λ name. inl refl

-- what is kept is kept with more names, and over one change after another
pub wider : (xs ys : List (List ℕ)) (old new : Option Files) → ((name : List ℕ) → among xs name ≡ true → among ys name ≡ true) → Keeps xs old new → Keeps ys old new
wider xs ys old new more = changes_as (KeepsOthers xs) (KeepsOthers ys) (λ f g h name. elim (h name) as (λ _. (g name ≡ f name) ⊎ (among ys name ≡ true)) [ inl same ↦ inl same | inr is ↦ inr (more name is) ]) old new

pub kept_through : (names : List (List ℕ)) (old mid new : Option Files) → Keeps names old mid → Keeps names mid new → Keeps names old new
kept_through names old mid new = changes_after (KeepsOthers names) (KeepsOthers names) (KeepsOthers names) step old mid new
  where
    join : (f g h : Files) (name : List ℕ) → (g name ≡ f name) ⊎ (among names name ≡ true) → (h name ≡ g name) ⊎ (among names name ≡ true) → (h name ≡ f name) ⊎ (among names name ≡ true)
    join f g h name (inl a) (inl b) = inl (b ∙ a)
    join f g h name (inl a) (inr b) = inr b
    join f g h name (inr a) next = inr a

    step : (f g h : Files) → KeepsOthers names f g → KeepsOthers names g h → KeepsOthers names f h
    step f g h first next = λ name. join f g h name (first name) (next name)

-- reply files that were made, or begun
names_blank : (names : List (List ℕ)) → names_of (blank names) ≡ names
names_blank [] = refl
names_blank (n ∷ names) = ap (λ (ns : List (List ℕ)). n ∷ ns) (names_blank names)

made_named : (plan : Plan) (name : List ℕ) → among (unwrap_or plan.replies []) name ≡ true → among (names_written plan) name ≡ true
made_named plan name is = by plan.replies is
  where
    by : (o : Option (List (List ℕ))) → among (unwrap_or o []) name ≡ true → among (answer_names o (exports_named (all_commands plan.scripts)) ++ option_to_list plan.last) name ≡ true
    by None is = absurd cc
    by (Some names) is = among_left (names ++ exports_named (all_commands plan.scripts)) (option_to_list plan.last) name (among_left names (exports_named (all_commands plan.scripts)) name is)

pub made_kept : {T E : Type 0} (plan : Plan) (made : Result T E) (old mid : Option Files) → OnOk made (Changes old mid (HasWritten (blank (unwrap_or plan.replies [])))) → OnErr made (Changes old mid (HasBegun (blank (unwrap_or plan.replies [])))) → Keeps (names_written plan) old mid
made_kept plan made old mid written begun =
    wider (unwrap_or plan.replies []) (names_written plan) old mid (made_named plan)
    (subst (λ (ns : List (List ℕ)). Keeps ns old mid) (names_blank (unwrap_or plan.replies [])) (by made written begun))
  where
    by : {T E : Type 0} (r : Result T E) → OnOk r (Changes old mid (HasWritten (blank (unwrap_or plan.replies [])))) → OnErr r (Changes old mid (HasBegun (blank (unwrap_or plan.replies [])))) → Keeps (names_of (blank (unwrap_or plan.replies []))) old mid
    by (Ok x) written begun = written_kept (blank (unwrap_or plan.replies [])) old mid written
    by (Err e) written begun = begun_kept (blank (unwrap_or plan.replies [])) old mid begun

-- all files of the run behind them
pub after_kept : (made written : Result (Unit {0}) Unwritten) (outs : Outputs) (mid new : Option Files) (fault : Type 0) → IsAfter made written outs mid new fault → Keeps (names_of outs) mid new
after_kept (Ok u) (Ok v) outs mid new fault after = written_kept outs mid new after
after_kept (Ok u) (Err why) outs mid new fault after = begun_kept outs mid new after.0
after_kept (Err why) written outs mid new fault after = same_kept (names_of outs) mid new after.0

-- those of the workers, and the final file
pub answers_kept : (plan : Plan) (mid new : Option Files) → Keeps (answer_names plan.replies (exports_named (all_commands plan.scripts))) mid new → Keeps (names_written plan) mid new
answers_kept plan mid new = wider (answer_names plan.replies (exports_named (all_commands plan.scripts))) (names_written plan) mid new (λ name is. among_left (answer_names plan.replies (exports_named (all_commands plan.scripts))) (option_to_list plan.last) name is)

pub last_kept : (plan : Plan) (text : Option (Vec ℕ Global)) (mid new : Option Files) → Keeps (names_of (last_in plan.last text)) mid new → Keeps (names_written plan) mid new
last_kept plan text mid new = wider (names_of (last_in plan.last text)) (names_written plan) mid new (λ name is. among_right (answer_names plan.replies (exports_named (all_commands plan.scripts))) (option_to_list plan.last) name (by plan.last text name is))
  where
    by : (last : Option (List ℕ)) (text : Option (Vec ℕ Global)) (name : List ℕ) → among (names_of (last_in last text)) name ≡ true → among (option_to_list last) name ≡ true
    by None text name is = absurd cc
    by (Some file) None name is = absurd cc
    by (Some file) (Some t) name is = is

-- by words and files: those of the plan that they give
pub kept_given : (ending : Files → Result Plan Stop) (plan : Plan) (old new : Option Files) → IfTold old (λ f. ending f ≡ Ok plan) → Keeps (names_written plan) old new → Changes old new (λ f. KeepsOthers (names_given (ending f)) f)
kept_given ending plan None None gives kept = tt
kept_given ending plan None (Some g) gives kept = absurd kept
kept_given ending plan (Some f) None gives kept = absurd kept
kept_given ending plan (Some f) (Some g) gives kept = subst (λ (r : Result Plan Stop). KeepsOthers (names_given r) f g) (sym gives) kept

pub same_given : (ending : Files → Result Plan Stop) (old new : Option Files) → new ≡ old → Changes old new (λ f. KeepsOthers (names_given (ending f)) f)
same_given ending old new is = subst (λ (x : Option Files). Changes old x (λ f. KeepsOthers (names_given (ending f)) f)) (sym is) (here old)
  where
    here : (o : Option Files) → Changes o o (λ f. KeepsOthers (names_given (ending f)) f)
    here None = tt
    here (Some f) = λ name. inl refl
