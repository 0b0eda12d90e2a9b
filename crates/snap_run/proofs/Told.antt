-- What the workers were told, from what each of them handed over.
use Rattle.std.proofs.Common.{zero, suc, ◌≡◌, ◌<◌, ◌+◌, ℕ, List, [], ◌∷◌, ◌++◌, Option, Some, None, length, get_or, refl, sym, ◌∙◌, ap, ap₂, subst, arith, map, sum_by}
use Rattle.snap_prelude.proofs.Common.{flat_map-cons, length-map, map-append}
use Rattle.std.proofs.{lemmas.List.Elements.filter_map-append, lemmas.List.Sums.sum_by-cons}
use Rattle.snap_fits.specs.Fits.{AtClone, Clone, Fits, Front, Matching, Meets, MeetsAll, Setting, Told, export_at, export_of, exports_of, next, start}
use Rattle.snap_prelude.specs.{Command, Pairs, Reply}
use Rattle.snap_text.specs.{Tables.table_text, declared.script.Line.Line}
use Rattle.snap_crew.specs.Prelude.{Answered, script_commands, exports_in, files_of, HasFit, replies_in, table_files}
use Rattle.snap_plan.specs.Needs.{all_commands, export_in, exports_named}
use Rattle.snap_write.proofs.Written.{names_of-append}
use Rattle.snap_write.specs.Outputs.{Outputs, names_of}
use Rattle.snap_run.specs.{Files.export_files, Files.reply_files, Printed.entries, Printed.fulls}

-- an export that fits names its file
at_clone : (fronts : ℕ → Front) (o : Option Clone) (m lo hi : ℕ) (file : List ℕ) (P : Pairs → Type 0) → AtClone fronts o m P → names_of (table_files (export_at fronts o lo hi file)) ≡ file ∷ []
at_clone fronts None m lo hi file P h = absurd h
at_clone fronts (Some c) m lo hi file P h = refl

one_export : (s : Setting) (w : ℕ) (fronts : ℕ → Front) (q : Matching) (c : Command) (r : Reply) (m : ℕ) → Meets s w fronts q c r m → names_of (table_files (export_of fronts q c)) ≡ exports_named (c ∷ [])
one_export s w fronts q (Command.Export n lo hi file) r m h = at_clone fronts (q.clones n) m lo hi file _ h
one_export s w fronts q _ r m h = refl

files_append : (es fs : List (List ℕ × Pairs)) → table_files (es ++ fs) ≡ table_files es ++ table_files fs
files_append es fs = map-append (λ (e : List ℕ × Pairs). (e.0, table_text e.1)) es fs

export_names : (s : Setting) (w : ℕ) (fronts : ℕ → Front) (q : Matching) (ts : List Told) → MeetsAll s w fronts q ts → names_of (table_files (exports_of s fronts q ts)) ≡ exports_named (map (λ (t : Told). t.command) ts)
export_names s w fronts q [] h = refl
export_names s w fronts q (t ∷ ts) h =
    ap names_of (files_append (export_of fronts q t.command) (exports_of s fronts (next s q t.command t.reply t.moment) ts))
    ∙ names_of-append (table_files (export_of fronts q t.command)) (table_files (exports_of s fronts (next s q t.command t.reply t.moment) ts))
    ∙ ap₂ (λ (a b : List (List ℕ)). a ++ b) (one_export s w fronts q t.command t.reply t.moment h.0) (export_names s w fronts (next s q t.command t.reply t.moment) ts h.1)
    ∙ sym (filter_map-append export_in (t.command ∷ []) (map (λ (x : Told). x.command) ts))

module _ (s : Setting) (fronts : ℕ → Front) where
  -- the workers from number w on
  abbrev pub AllFit : ℕ → List (List Line) → List Answered → Type 0
  AllFit w [] [] = Unit {0}
  AllFit w (x ∷ xs) (a ∷ bs) = HasFit s fronts w (script_commands x) a × AllFit (w + 1) xs bs
  AllFit w _ _ = ⊥

  pub all_fit : (w : ℕ) (xs : List (List Line)) (bs : List Answered) → length bs ≡ length xs → ((i : ℕ) (d : List Line) (a : Answered) → i < length xs → HasFit s fronts (w + i) (script_commands (get_or xs i d)) (get_or bs i a)) → AllFit w xs bs
  all_fit w [] [] many h = tt
  all_fit w [] (a ∷ bs) many h = absurd (omega (arith, many))
  all_fit w (x ∷ xs) [] many h = absurd (omega (arith, many))
  all_fit w (x ∷ xs) (a ∷ bs) many h = (
    (let e : w + 0 ≡ w = omega arith in subst (λ (n : ℕ). HasFit s fronts n (script_commands x) a) e (h 0 x a (omega arith))),
    all_fit (w + 1) xs bs (omega (arith, many)) (λ i d e l. (let same : w + suc i ≡ w + 1 + i = omega arith in subst (λ (n : ℕ). HasFit s fronts n (script_commands (get_or xs i d)) (get_or bs i e)) same (h (suc i) d e (omega (arith, l))))),
  )

  abbrev pub tolds : (w : ℕ) (xs : List (List Line)) (bs : List Answered) → AllFit w xs bs → List (List Told)
  tolds w [] [] h = []
  tolds w [] (a ∷ bs) h = []
  tolds w (x ∷ xs) [] h = []
  tolds w (x ∷ xs) (a ∷ bs) h = (let f = h.0 in f.told) ∷ tolds (w + 1) xs bs h.1

  pub told_many : (w : ℕ) (xs : List (List Line)) (bs : List Answered) (h : AllFit w xs bs) → length (tolds w xs bs h) ≡ length xs
  told_many w [] [] h = refl
  told_many w [] (a ∷ bs) h = absurd h
  told_many w (x ∷ xs) [] h = absurd h
  told_many w (x ∷ xs) (a ∷ bs) h = ap (λ n. suc n) (told_many (w + 1) xs bs h.1)

  pub told_ran : (w : ℕ) (xs : List (List Line)) (bs : List Answered) (h : AllFit w xs bs) → map (λ (ts : List Told). map (λ (t : Told). t.command) ts) (tolds w xs bs h) ≡ map script_commands xs
  told_ran w [] [] h = refl
  told_ran w [] (a ∷ bs) h = absurd h
  told_ran w (x ∷ xs) [] h = absurd h
  told_ran w (x ∷ xs) (a ∷ bs) h = ap₂ (λ (c : List Command) (cs : List (List Command)). c ∷ cs) (let f = h.0 in f.ran) (told_ran (w + 1) xs bs h.1)

  pub told_fits : (w : ℕ) (xs : List (List Line)) (bs : List Answered) (h : AllFit w xs bs) (i : ℕ) (d : List Told) → i < length (tolds w xs bs h) → Fits s (w + i) fronts (get_or (tolds w xs bs h) i d)
  told_fits w [] [] h i d l = absurd (omega (arith, l))
  told_fits w [] (a ∷ bs) h i d l = absurd h
  told_fits w (x ∷ xs) [] h i d l = absurd h
  told_fits w (x ∷ xs) (a ∷ bs) h zero d l = let f = h.0 in let e : w ≡ w + 0 = omega arith in subst (λ (n : ℕ). Fits s n fronts f.told) e f.fits
  told_fits w (x ∷ xs) (a ∷ bs) h (suc i) d l = let e : w + 1 + i ≡ w + suc i = omega arith in subst (λ (n : ℕ). Fits s n fronts (get_or (tolds (w + 1) xs bs h.1) i d)) e (told_fits (w + 1) xs bs h.1 i d (omega (arith, l)))

  pub told_fulls : (w : ℕ) (xs : List (List Line)) (bs : List Answered) (h : AllFit w xs bs) → sum_by (λ (a : Answered). a.full) bs ≡ fulls (tolds w xs bs h)
  told_fulls w [] [] h = refl
  told_fulls w [] (a ∷ bs) h = absurd h
  told_fulls w (x ∷ xs) [] h = absurd h
  told_fulls w (x ∷ xs) (a ∷ bs) h = sum_by-cons (λ (b : Answered). b.full) a bs ∙ (let f = h.0 in let t = f.answered in ap₂ (λ (m n : ℕ). m + n) t.full (told_fulls (w + 1) xs bs h.1))

  pub told_entries : (w : ℕ) (xs : List (List Line)) (bs : List Answered) (h : AllFit w xs bs) → sum_by (λ (x : List Line). length x) xs ≡ entries (tolds w xs bs h)
  told_entries w [] [] h = refl
  told_entries w [] (a ∷ bs) h = absurd h
  told_entries w (x ∷ xs) [] h = absurd h
  told_entries w (x ∷ xs) (a ∷ bs) h = sum_by-cons (λ (y : List Line). length y) x xs ∙ (let f = h.0 in ap₂ (λ (m n : ℕ). m + n)
      (sym (length-map x (λ (l : Line). l.command)) ∙ sym (ap length f.ran) ∙ length-map f.told (λ (t : Told). t.command)) (told_entries (w + 1) xs bs h.1))

  pub told_replies : (names : List (List ℕ)) (w : ℕ) (xs : List (List Line)) (bs : List Answered) (h : AllFit w xs bs) → replies_in names bs ≡ reply_files names (tolds w xs bs h)
  told_replies [] w [] [] h = refl
  told_replies [] w [] (a ∷ bs) h = absurd h
  told_replies [] w (x ∷ xs) [] h = absurd h
  told_replies [] w (x ∷ xs) (a ∷ bs) h = refl
  told_replies (n ∷ names) w [] [] h = refl
  told_replies (n ∷ names) w [] (a ∷ bs) h = absurd h
  told_replies (n ∷ names) w (x ∷ xs) [] h = absurd h
  told_replies (n ∷ names) w (x ∷ xs) (a ∷ bs) h = let f = h.0 in let t = f.answered in ap₂ (λ (l : List ℕ) (os : Outputs). (n, l) ∷ os) t.lines (told_replies names (w + 1) xs bs h.1)

  pub told_exports : (w : ℕ) (xs : List (List Line)) (bs : List Answered) (h : AllFit w xs bs) → exports_in bs ≡ export_files s fronts (tolds w xs bs h)
  told_exports w [] [] h = refl
  told_exports w [] (a ∷ bs) h = absurd h
  told_exports w (x ∷ xs) [] h = absurd h
  told_exports w (x ∷ xs) (a ∷ bs) h = let f = h.0 in let t = f.answered in
      flat_map-cons (λ (b : Answered). b.exports) a bs ∙ ap₂ (λ (o os : Outputs). o ++ os) t.files (told_exports (w + 1) xs bs h.1) ∙ sym (flat_map-cons (files_of s fronts) f.told (tolds (w + 1) xs bs h.1))

  -- the files of all exports are those that the scripts name
  pub told_names : (w : ℕ) (xs : List (List Line)) (bs : List Answered) (h : AllFit w xs bs) → names_of (export_files s fronts (tolds w xs bs h)) ≡ exports_named (all_commands xs)
  told_names w [] [] h = refl
  told_names w [] (a ∷ bs) h = absurd h
  told_names w (x ∷ xs) [] h = absurd h
  told_names w (x ∷ xs) (a ∷ bs) h = let f = h.0 in let more = tolds (w + 1) xs bs h.1 in
      ap names_of (flat_map-cons (files_of s fronts) f.told more)
      ∙ names_of-append (files_of s fronts f.told) (export_files s fronts more)
      ∙ ap₂ (λ (a b : List (List ℕ)). a ++ b) (let g = f.fits in export_names s w fronts start f.told g.each ∙ ap exports_named f.ran) (told_names (w + 1) xs bs h.1)
      ∙ sym (filter_map-append export_in (script_commands x) (all_commands xs))
      ∙ ap exports_named (sym (flat_map-cons script_commands x xs))
