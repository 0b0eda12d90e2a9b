-- The walk over the lines of scripts: what they need so far, and the first line that passes a limit.
use Rattle.std.specs.Prelude.{◌||◌, fold, map, nat_lt, bytes_eq}
use Rattle.std.specs.BTreeSet.{contains_text}
use Rattle.std.specs.List.{cons_option}
use Rattle.std.proofs.Common.{◌≡◌, ◌<◌, ◌≤◌, ◌+◌, ◌⊎◌, ℕ, Bool, true, false, cond, List, [], ◌∷◌, ◌++◌, length, get_or, take, drop, Option, Some, None, refl, sym, ◌∙◌, ap, ap₂, subst, inl, inr, append_assoc, append-nil, arith}
use Rattle.std.proofs.lemmas.Bool.Decides.{nat_tests}
use Rattle.std.proofs.lemmas.Grind.{flat_map-append}
use Rattle.std.proofs.lemmas.List.{drop_more, drop_all, take_more, take_all, take-append-drop, map-append}
use Rattle.snap_model.specs.declared.command.Command.{Command}
use Rattle.snap_model.specs.declared.command.Command.TheVariants as command
use Rattle.snap_text.specs.declared.script.Line.{Line}
use Rattle.snap_plan.specs.declared.needs.Limit.{Limit}
use Rattle.snap_plan.specs.declared.needs.Limit.TheVariants as limit
use Rattle.snap_plan.specs.declared.needs.Passed.{Passed}
use Rattle.snap_plan.specs.declared.needs.Walk.{Walk}
use Rattle.snap_plan.specs.declared.stop.Stop.{Stop}
use Rattle.snap_plan.specs.declared.stop.Stop.TheVariants as stop
use Rattle.snap_plan.specs.Needs.{AllNew, NamedLine, all_commands, among, commands_of, export_in, exports_named, limit_of, load_in, loads_named, most_loads, most_tables, named_lines, passed_from, passed_in, stop_at, table_in, tables_named, with_name}
use Rattle.snap_plan.specs.Walks.{HasNeeds, PassesAt, stop_or}
use Rattle.snap_plan.proofs.Names.{among-push, exports-push, loads-push, tables-push}

-- what a command names: nothing, or one thing
abbrev NamesNothing : Command → Type 0
NamesNothing c = (table_in c ≡ None) × (load_in c ≡ None) × (export_in c ≡ None) × ((taken : List (List ℕ)) (before : List Command) → limit_of taken before c ≡ None)

record IsExport (c : Command) : Type 0 where
  slot : ℕ
  lo : ℕ
  hi : ℕ
  file : List ℕ
  is : c ≡ command.Export slot lo hi file

abbrev Names : Command → Type 0
Names c = NamesNothing c ⊎ ((name : List ℕ) × (c ≡ command.Table name)) ⊎ ((file : List ℕ) × (c ≡ command.Load file)) ⊎ IsExport c

names : (c : Command) → Names c
names (command.Table name) = inr (inl (name, refl))
names (command.Load file) = inr (inr (inl (file, refl)))
names (command.Export slot lo hi file) = inr (inr (inr (record { slot = slot; lo = lo; hi = hi; file = file; is = refl })))
names (command.Put key value) = inl (refl, refl, refl, λ taken before. refl)
names (command.Remove key) = inl (refl, refl, refl, λ taken before. refl)
names (command.Get key) = inl (refl, refl, refl, λ taken before. refl)
names (command.Snap slot name) = inl (refl, refl, refl, λ taken before. refl)
names (command.Forget slot name) = inl (refl, refl, refl, λ taken before. refl)
names (command.See slot key) = inl (refl, refl, refl, λ taken before. refl)
names (command.First slot) = inl (refl, refl, refl, λ taken before. refl)
names (command.Last slot) = inl (refl, refl, refl, λ taken before. refl)
names (command.Floor slot key) = inl (refl, refl, refl, λ taken before. refl)
names (command.Lower slot key) = inl (refl, refl, refl, λ taken before. refl)
names (command.Ceiling slot key) = inl (refl, refl, refl, λ taken before. refl)
names (command.Higher slot key) = inl (refl, refl, refl, λ taken before. refl)
names (command.Count slot lo hi) = inl (refl, refl, refl, λ taken before. refl)
names (command.Depth slot) = inl (refl, refl, refl, λ taken before. refl)

-- what is named behind a command that names no such thing
same_tables : (before : List Command) (c : Command) → table_in c ≡ None → tables_named (before ++ c ∷ []) ≡ tables_named before
same_tables before c none = tables-push before c ∙ ap (λ o. fold with_name (tables_named before) (cons_option o [])) none

same_loads : (before : List Command) (c : Command) → load_in c ≡ None → loads_named (before ++ c ∷ []) ≡ loads_named before
same_loads before c none = loads-push before c ∙ ap (λ o. fold with_name (loads_named before) (cons_option o [])) none

same_exports : (before : List Command) (c : Command) → export_in c ≡ None → exports_named (before ++ c ∷ []) ≡ exports_named before
same_exports before c none = exports-push before c ∙ ap (λ o. exports_named before ++ cons_option o []) none ∙ append-nil (exports_named before)

-- one command more in what is needed
abbrev Later : List (List ℕ) → List Command → Walk → Command → Type 0
Later taken before walk c = HasNeeds taken (before ++ c ∷ []) walk

pub needs_table : (taken : List (List ℕ)) (before : List Command) (c : Command) (name : List ℕ) (old new : Walk) → c ≡ command.Table name → new.tables ≡ with_name old.tables name → new.loads ≡ old.loads → new.taken ≡ old.taken
    → HasNeeds taken before old → HasNeeds taken (before ++ c ∷ []) new
needs_table taken before c name old new is more loads files has = subst (Later taken before new) (sym is) (record {
  tables = more ∙ ap (λ ns. with_name ns name) has.tables ∙ sym (tables-push before (command.Table name));
  loads = loads ∙ has.loads ∙ sym (same_loads before (command.Table name) refl);
  files = λ file. ap (λ t. contains_text t.names file) files ∙ has.files file ∙ ap (λ ns. among (taken ++ ns) file) (sym (same_exports before (command.Table name) refl));
})

pub needs_load : (taken : List (List ℕ)) (before : List Command) (c : Command) (name : List ℕ) (old new : Walk) → c ≡ command.Load name → new.loads ≡ with_name old.loads name → new.tables ≡ old.tables → new.taken ≡ old.taken
    → HasNeeds taken before old → HasNeeds taken (before ++ c ∷ []) new
needs_load taken before c name old new is more tables files has = subst (Later taken before new) (sym is) (record {
  tables = tables ∙ has.tables ∙ sym (same_tables before (command.Load name) refl);
  loads = more ∙ ap (λ ns. with_name ns name) has.loads ∙ sym (loads-push before (command.Load name));
  files = λ file. ap (λ t. contains_text t.names file) files ∙ has.files file ∙ ap (λ ns. among (taken ++ ns) file) (sym (same_exports before (command.Load name) refl));
})

pub needs_export : (taken : List (List ℕ)) (before : List Command) (c : Command) (slot lo hi : ℕ) (file : List ℕ) (old new : Walk) → c ≡ command.Export slot lo hi file → new.tables ≡ old.tables → new.loads ≡ old.loads
    → ((name : List ℕ) → contains_text new.taken.names name ≡ (contains_text old.taken.names name || bytes_eq file name))
    → HasNeeds taken before old → HasNeeds taken (before ++ c ∷ []) new
needs_export taken before c slot lo hi file old new is tables loads grown has = subst (Later taken before new) (sym is) (record {
  tables = tables ∙ has.tables ∙ sym (same_tables before (command.Export slot lo hi file) refl);
  loads = loads ∙ has.loads ∙ sym (same_loads before (command.Export slot lo hi file) refl);
  files = λ name. grown name ∙ ap (λ b. b || bytes_eq file name) (has.files name) ∙ sym (among-push (taken ++ exports_named before) file name)
      ∙ ap (λ ns. among ns name) (append_assoc taken (exports_named before) (file ∷ []) ∙ ap (λ ns. taken ++ ns) (sym (exports-push before (command.Export slot lo hi file))));
})

abbrev Goes : List (List ℕ) → List Command → Command → Walk → Type 0
Goes taken before c walk = (let none : Option Limit = None in none ≡ limit_of taken before c) × HasNeeds taken (before ++ c ∷ []) walk

pub needs_other : (taken : List (List ℕ)) (before : List Command) (c : Command) (walk : Walk)
    → ((name : List ℕ) → c ≡ command.Table name → ⊥) → ((file : List ℕ) → c ≡ command.Load file → ⊥) → ((slot lo hi : ℕ) (file : List ℕ) → c ≡ command.Export slot lo hi file → ⊥)
    → HasNeeds taken before walk → Goes taken before c walk
needs_other taken before c walk table load export has = elim (names c) as (λ _. Goes taken before c walk) [
  | inl nothing ↦ (
    sym (nothing.3 taken before),
    record {
      tables = has.tables ∙ sym (same_tables before c nothing.0);
      loads = has.loads ∙ sym (same_loads before c nothing.1);
      files = λ file. has.files file ∙ ap (λ ns. among (taken ++ ns) file) (sym (same_exports before c nothing.2));
    },
  )
  | inr other ↦ elim other as (λ _. Goes taken before c walk) [
    | inl is ↦ absurd (table is.0 is.1)
    | inr other ↦ elim other as (λ _. Goes taken before c walk) [
      | inl is ↦ absurd (load is.0 is.1)
      | inr is ↦ absurd (export is.slot is.lo is.hi is.file is.is)
    ]
  ]
]

-- one line more is one command more
commands_of-take : (lines : List Line) (i : ℕ) (line : Line) → i < length lines → line ≡ get_or lines i line → commands_of (take (i + 1) lines) ≡ commands_of (take i lines) ++ line.command ∷ []
commands_of-take lines i line within is =
    ap commands_of (take_more lines i line within) ∙ map-append (λ (l : Line). l.command) (take i lines) _ ∙ ap (λ (l : Line). commands_of (take i lines) ++ l.command ∷ []) (sym is)

-- the lines of a script so far: they pass no limit, and their needs are known
pub record HasWalked (taken : List (List ℕ)) (before : List Command) (lines : List Line) (i : ℕ) (walk : Walk) : Type 0 where
  pub needs : HasNeeds taken (before ++ commands_of (take i lines)) walk
  pub passes : PassesAt taken before (take i lines) None

pub walked_first : (taken : List (List ℕ)) (before : List Command) (lines : List Line) (walk : Walk) → HasNeeds taken before walk → HasWalked taken before lines 0 walk
walked_first taken before lines walk has = record {
  needs = subst (λ cs. HasNeeds taken cs walk) (sym (append-nil before)) has;
  passes = λ name below. ap (λ cs. passed_from taken cs below) (sym (append-nil before));
}

-- the lines from one on, behind those that pass no limit
from_line : (taken : List (List ℕ)) (before : List Command) (lines : List Line) (i : ℕ) (line : Line) (name : List ℕ) (behind : List Line) (below : List NamedLine) → PassesAt taken before (take i lines) None
    → passed_from taken before (map (λ (l : Line). (name, l)) (take i lines ++ line ∷ behind) ++ below)
    ≡ stop_at (name, line) (limit_of taken (before ++ commands_of (take i lines)) line.command) (passed_from taken ((before ++ commands_of (take i lines)) ++ line.command ∷ []) (map (λ (l : Line). (name, l)) behind ++ below))
from_line taken before lines i line name behind below passes =
    ap (λ (ls : List NamedLine). passed_from taken before (ls ++ below)) (map-append (λ (l : Line). (name, l)) (take i lines) (line ∷ behind))
    ∙ ap (passed_from taken before) (append_assoc (map (λ (l : Line). (name, l)) (take i lines)) ((name, line) ∷ map (λ (l : Line). (name, l)) behind) below)
    ∙ passes name ((name, line) ∷ (map (λ (l : Line). (name, l)) behind ++ below))

pub walked_more : (taken : List (List ℕ)) (before : List Command) (lines : List Line) (i : ℕ) (line : Line) (old new : Walk) → i < length lines → line ≡ get_or lines i line → HasWalked taken before lines i old
    → limit_of taken (before ++ commands_of (take i lines)) line.command ≡ None → HasNeeds taken ((before ++ commands_of (take i lines)) ++ line.command ∷ []) new → HasWalked taken before lines (i + 1) new
walked_more taken before lines i line old new within is has none needs =
    let more : (before ++ commands_of (take i lines)) ++ line.command ∷ [] ≡ before ++ commands_of (take (i + 1) lines)
    = append_assoc before (commands_of (take i lines)) (line.command ∷ []) ∙ ap (λ cs. before ++ cs) (sym (commands_of-take lines i line within is)) in
    record {
      needs = subst (λ cs. HasNeeds taken cs new) more needs;
      passes = λ name below.
          ap (λ (ls : List Line). passed_from taken before (map (λ (l : Line). (name, l)) ls ++ below)) (take_more lines i line within ∙ ap (λ (l : Line). take i lines ++ l ∷ []) (sym is))
          ∙ from_line taken before lines i line name [] below has.passes
          ∙ ap (λ o. stop_at (name, line) o (passed_from taken ((before ++ commands_of (take i lines)) ++ line.command ∷ []) below)) none
          ∙ ap (λ cs. passed_from taken cs below) more;
    }

pub walked_here : (taken : List (List ℕ)) (before : List Command) (lines : List Line) (i : ℕ) (line : Line) (limit : Limit) (walk : Walk) → i < length lines → line ≡ get_or lines i line → HasWalked taken before lines i walk
    → limit_of taken (before ++ commands_of (take i lines)) line.command ≡ Some limit → PassesAt taken before lines (Some (record { line = line.line; limit = limit }))
walked_here taken before lines i line limit walk within is has some = λ name below.
    ap (λ (ls : List Line). passed_from taken before (map (λ (l : Line). (name, l)) ls ++ below)) (sym (take-append-drop i lines) ∙ ap (λ (ls : List Line). take i lines ++ ls) (drop_more lines i line within ∙ ap (λ (l : Line). l ∷ drop (i + 1) lines) (sym is)))
    ∙ from_line taken before lines i line name (drop (i + 1) lines) below has.passes
    ∙ ap (λ o. stop_at (name, line) o (passed_from taken ((before ++ commands_of (take i lines)) ++ line.command ∷ []) (map (λ (l : Line). (name, l)) (drop (i + 1) lines) ++ below))) some

pub walked_whole : (taken : List (List ℕ)) (before : List Command) (lines : List Line) (i : ℕ) (walk : Walk) → HasWalked taken before lines i walk → length lines ≤ i → PassesAt taken before lines None × HasNeeds taken (before ++ commands_of lines) walk
walked_whole taken before lines i walk has past = (
  subst (λ ls. PassesAt taken before ls None) (take_all i lines past) has.passes,
  subst (λ ls. HasNeeds taken (before ++ commands_of ls) walk) (take_all i lines past) has.needs,
)

-- one script more
pub commands_push : (scripts : List (List Line)) (lines : List Line) → all_commands (scripts ++ lines ∷ []) ≡ all_commands scripts ++ commands_of lines
commands_push scripts lines = flat_map-append commands_of scripts (lines ∷ []) ∙ ap (λ cs. all_commands scripts ++ cs) (append-nil (commands_of lines))

all_commands-take : (scripts : List (List Line)) (i : ℕ) (lines : List Line) → i < length scripts → lines ≡ get_or scripts i lines → all_commands (take (i + 1) scripts) ≡ all_commands (take i scripts) ++ commands_of lines
all_commands-take scripts i lines within is =
    ap all_commands (take_more scripts i lines within ∙ ap (λ (ls : List Line). take i scripts ++ ls ∷ []) (sym is)) ∙ commands_push (take i scripts) lines

-- the scripts so far: what they need, and that the first line that passes a limit is in those that are left
pub record HasLeft (taken names : List (List ℕ)) (scripts : List (List Line)) (i : ℕ) (walk : Walk) : Type 0 where
  pub needs : HasNeeds taken (all_commands (take i scripts)) walk
  pub left : passed_in taken names scripts ≡ passed_from taken (all_commands (take i scripts)) (named_lines (drop i names) (drop i scripts))

pub left_first : (taken names : List (List ℕ)) (scripts : List (List Line)) (walk : Walk) → HasNeeds taken [] walk → HasLeft taken names scripts 0 walk
unfolding passed_in
left_first taken names scripts walk has = record { needs = has; left = refl }

at_script : (taken names : List (List ℕ)) (scripts : List (List Line)) (i : ℕ) (d : List ℕ) (lines : List Line) (walk : Walk) (passed : Option Passed) → i < length names → i < length scripts → lines ≡ get_or scripts i lines
    → HasLeft taken names scripts i walk → PassesAt taken (all_commands (take i scripts)) lines passed
    → passed_in taken names scripts ≡ stop_or (get_or names i d) passed (passed_from taken (all_commands (take i scripts) ++ commands_of lines) (named_lines (drop (i + 1) names) (drop (i + 1) scripts)))
at_script taken names scripts i d lines walk passed named within is has passes =
    has.left
    ∙ ap₂ (λ (ns : List (List ℕ)) (ss : List (List Line)). passed_from taken (all_commands (take i scripts)) (named_lines ns ss))
    (drop_more names i d named)
    (drop_more scripts i lines within ∙ ap (λ (ls : List Line). ls ∷ drop (i + 1) scripts) (sym is))
    ∙ passes (get_or names i d) (named_lines (drop (i + 1) names) (drop (i + 1) scripts))

pub left_more : (taken names : List (List ℕ)) (scripts : List (List Line)) (i : ℕ) (lines : List Line) (old new : Walk) → i < length names → i < length scripts → lines ≡ get_or scripts i lines
    → HasLeft taken names scripts i old → PassesAt taken (all_commands (take i scripts)) lines None → HasNeeds taken (all_commands (take i scripts) ++ commands_of lines) new → HasLeft taken names scripts (i + 1) new
left_more taken names scripts i lines old new named within is has passes needs =
    let more = all_commands-take scripts i lines within is in
    record {
      needs = subst (λ cs. HasNeeds taken cs new) (sym more) needs;
      left = at_script taken names scripts i [] lines old None named within is has passes
          ∙ ap (λ cs. passed_from taken cs (named_lines (drop (i + 1) names) (drop (i + 1) scripts))) (sym more);
    }

pub left_here : (taken names : List (List ℕ)) (scripts : List (List Line)) (i : ℕ) (d : List ℕ) (lines : List Line) (walk : Walk) (passed : Passed) → i < length names → i < length scripts → lines ≡ get_or scripts i lines
    → HasLeft taken names scripts i walk → PassesAt taken (all_commands (take i scripts)) lines (Some passed) → passed_in taken names scripts ≡ Some (stop.Limit (get_or names i d) passed.line passed.limit)
left_here taken names scripts i d lines walk passed named within is has passes = at_script taken names scripts i d lines walk (Some passed) named within is has passes

named_none : (names : List (List ℕ)) → named_lines names [] ≡ []
named_none [] = refl
named_none (name ∷ names) = refl

pub left_none : (taken names : List (List ℕ)) (scripts : List (List Line)) (i : ℕ) (walk : Walk) → HasLeft taken names scripts i walk → length scripts ≤ i → passed_in taken names scripts ≡ None
left_none taken names scripts i walk has past =
    has.left ∙ ap (λ (ss : List (List Line)). passed_from taken (all_commands (take i scripts)) (named_lines (drop i names) ss)) (drop_all i scripts past)
    ∙ ap (passed_from taken (all_commands (take i scripts))) (named_none (drop i names))

pub left_needs : (taken names : List (List ℕ)) (scripts : List (List Line)) (i : ℕ) (walk : Walk) → HasLeft taken names scripts i walk → length scripts ≤ i → HasNeeds taken (all_commands scripts) walk
left_needs taken names scripts i walk has past = subst (λ ss. HasNeeds taken (all_commands ss) walk) (take_all i scripts past) has.needs

-- where no line passes a limit, there are few tables and load files
abbrev Few : List Command → Type 0
Few cs = (length (tables_named cs) ≤ most_tables) × (length (loads_named cs) ≤ most_loads)

over : (b : Bool) (limit : Limit) → (let none : Option Limit = None in cond b (Some limit) none ≡ none) → b ≡ false
over true limit is = absurd cc
over false limit is = refl

few_from_test : (most n : ℕ) → nat_lt most n ≡ false → n ≤ most
few_from_test most n is = grind (arith, nat_tests)

few_more : (taken : List (List ℕ)) (before : List Command) (c : Command) → limit_of taken before c ≡ None → Few before → Few (before ++ c ∷ [])
few_more taken before c none few = elim (names c) as (λ _. Few (before ++ c ∷ [])) [
  | inl nothing ↦ (
    subst (λ ns. length ns ≤ most_tables) (sym (same_tables before c nothing.0)) few.0,
    subst (λ ns. length ns ≤ most_loads) (sym (same_loads before c nothing.1)) few.1,
  )
  | inr other ↦ elim other as (λ _. Few (before ++ c ∷ [])) [
    | inl is ↦ subst (λ c. Few (before ++ c ∷ [])) (sym is.1) (of_table is.0 (subst (λ c. limit_of taken before c ≡ None) is.1 none))
    | inr other ↦ elim other as (λ _. Few (before ++ c ∷ [])) [
      | inl is ↦ subst (λ c. Few (before ++ c ∷ [])) (sym is.1) (of_load is.0 (subst (λ c. limit_of taken before c ≡ None) is.1 none))
      | inr is ↦ subst (λ c. Few (before ++ c ∷ [])) (sym is.is) (
        subst (λ ns. length ns ≤ most_tables) (sym (same_tables before (command.Export is.slot is.lo is.hi is.file) refl)) few.0,
        subst (λ ns. length ns ≤ most_loads) (sym (same_loads before (command.Export is.slot is.lo is.hi is.file) refl)) few.1,
      )
    ]
  ]
]
  where
    of_table : (name : List ℕ) → limit_of taken before (command.Table name) ≡ None → Few (before ++ command.Table name ∷ [])
    of_table name none = (
      subst (λ ns. length ns ≤ most_tables) (sym (tables-push before (command.Table name))) (few_from_test most_tables (length (with_name (tables_named before) name)) (over _ limit.TooManyTables none)),
      subst (λ ns. length ns ≤ most_loads) (sym (same_loads before (command.Table name) refl)) few.1,
    )

    of_load : (name : List ℕ) → limit_of taken before (command.Load name) ≡ None → Few (before ++ command.Load name ∷ [])
    of_load name none = (
      subst (λ ns. length ns ≤ most_tables) (sym (same_tables before (command.Load name) refl)) few.0,
      subst (λ ns. length ns ≤ most_loads) (sym (loads-push before (command.Load name))) (few_from_test most_loads (length (with_name (loads_named before) name)) (over _ limit.TooManyLoads none)),
    )

-- a line and those below it pass no limit
unpassed : (here : NamedLine) (o : Option Limit) (below : Option Stop) → stop_at here o below ≡ None → (o ≡ None) × (below ≡ None)
unpassed here None below is = (refl, is)
unpassed here (Some limit) below is = absurd cc

abbrev commands_at : List NamedLine → List Command
commands_at lines = map (λ (here : NamedLine). here.1.command) lines

few_from : (taken : List (List ℕ)) (before : List Command) (lines : List NamedLine) → passed_from taken before lines ≡ None → Few before → Few (before ++ commands_at lines)
few_from taken before [] none few = subst Few (sym (append-nil before)) few
few_from taken before (here ∷ lines) none few =
    let both = unpassed here _ _ none in
    subst Few (append_assoc before (here.1.command ∷ []) (commands_at lines))
    (few_from taken (before ++ here.1.command ∷ []) lines both.1 (few_more taken before here.1.command both.0 few))

-- and the files for exports are all new
new_more : (taken : List (List ℕ)) (before : List Command) (c : Command) (files : List (List ℕ)) → limit_of taken before c ≡ None
    → AllNew (taken ++ exports_named (before ++ c ∷ [])) files → AllNew (taken ++ exports_named before) (exports_named (c ∷ []) ++ files)
new_more taken before c files none new = elim (names c) as (λ _. AllNew (taken ++ exports_named before) (exports_named (c ∷ []) ++ files)) [
  | inl nothing ↦ of_none c nothing.2 new
  | inr other ↦ elim other as (λ _. AllNew (taken ++ exports_named before) (exports_named (c ∷ []) ++ files)) [
    | inl is ↦ of_none c (ap export_in is.1) new
    | inr other ↦ elim other as (λ _. AllNew (taken ++ exports_named before) (exports_named (c ∷ []) ++ files)) [
      | inl is ↦ of_none c (ap export_in is.1) new
      | inr is ↦ subst (λ c. AllNew (taken ++ exports_named before) (exports_named (c ∷ []) ++ files)) (sym is.is)
          (of_export is.slot is.lo is.hi is.file (subst (λ c. limit_of taken before c ≡ None) is.is none) (subst (λ c. AllNew (taken ++ exports_named (before ++ c ∷ [])) files) is.is new))
    ]
  ]
]
  where
    of_none : (c : Command) → export_in c ≡ None → AllNew (taken ++ exports_named (before ++ c ∷ [])) files → AllNew (taken ++ exports_named before) (exports_named (c ∷ []) ++ files)
    of_none c nothing new =
        let empty : exports_named (c ∷ []) ≡ [] = ap (λ o. cons_option o []) nothing in
        subst (λ (ns : List (List ℕ)). AllNew (taken ++ exports_named before) (ns ++ files)) (sym empty) (subst (λ ns. AllNew (taken ++ ns) files) (same_exports before c nothing) new)

    of_export : (slot lo hi : ℕ) (file : List ℕ) → limit_of taken before (command.Export slot lo hi file) ≡ None → AllNew (taken ++ exports_named (before ++ command.Export slot lo hi file ∷ [])) files
        → AllNew (taken ++ exports_named before) (file ∷ files)
    of_export slot lo hi file none new = (
      over (among (taken ++ exports_named before) file) limit.OutputTaken none,
      subst (λ ns. AllNew ns files) (ap (λ ns. taken ++ ns) (exports-push before (command.Export slot lo hi file)) ∙ sym (append_assoc taken (exports_named before) (file ∷ []))) new,
    )

new_from : (taken : List (List ℕ)) (before : List Command) (lines : List NamedLine) → passed_from taken before lines ≡ None → AllNew (taken ++ exports_named before) (exports_named (commands_at lines))
new_from taken before [] none = tt
new_from taken before (here ∷ lines) none =
    let both = unpassed here _ _ none in
    subst (AllNew (taken ++ exports_named before)) (first (export_in here.1.command))
    (new_more taken before here.1.command (exports_named (commands_at lines)) both.0 (new_from taken (before ++ here.1.command ∷ []) lines both.1))
  where
    first : (o : Option (List ℕ)) → cons_option o [] ++ exports_named (commands_at lines) ≡ cons_option o (exports_named (commands_at lines))
    first None = refl
    first (Some file) = refl

commands_named : (name : List ℕ) (lines : List Line) → commands_at (map (λ (l : Line). (name, l)) lines) ≡ commands_of lines
commands_named name [] = refl
commands_named name (line ∷ lines) = ap (λ cs. line.command ∷ cs) (commands_named name lines)

all_named : (names : List (List ℕ)) (scripts : List (List Line)) → length names ≡ length scripts → commands_at (named_lines names scripts) ≡ all_commands scripts
all_named [] [] each = refl
all_named [] (lines ∷ scripts) each = absurd cc
all_named (name ∷ names) [] each = absurd cc
all_named (name ∷ names) (lines ∷ scripts) each =
    map-append (λ (here : NamedLine). here.1.command) (map (λ (l : Line). (name, l)) lines) (named_lines names scripts)
    ∙ ap₂ (λ (cs ds : List Command). cs ++ ds) (commands_named name lines) (all_named names scripts (omega (arith, each)))

pub few_needs : (taken names : List (List ℕ)) (scripts : List (List Line)) → length names ≡ length scripts → passed_in taken names scripts ≡ None → (length (tables_named (all_commands scripts)) ≤ most_tables) × (length (loads_named (all_commands scripts)) ≤ most_loads)
unfolding passed_in
few_needs taken names scripts each none = subst Few (all_named names scripts each) (few_from taken [] (named_lines names scripts) none (omega arith, omega arith))

pub exports_new : (taken names : List (List ℕ)) (scripts : List (List Line)) → length names ≡ length scripts → passed_in taken names scripts ≡ None → AllNew taken (exports_named (all_commands scripts))
unfolding passed_in
exports_new taken names scripts each none =
    subst (λ cs. AllNew taken (exports_named cs)) (all_named names scripts each) (subst (λ seen. AllNew seen (exports_named (commands_at (named_lines names scripts)))) (append-nil taken) (new_from taken [] (named_lines names scripts) none))
