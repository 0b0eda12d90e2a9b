-- What a write into a map from texts to bytes does to the files that it stores.
use Rattle.std.proofs.Common.{◌≡◌, ◌≢◌, ℕ, false, List, Some, String, Vec, BTreeMap, option_map, string_bytes, string_cmp, nat_cmp, refl, sym, ap, ◌∙◌, inl, inr, ◌++◌, if◌then◌else◌, true≢false, Result, Ok, Err, is_ok, OnOk, OnErr}
use Rattle.std.specs.BTreeMap.{get_by_text, UpdatesBy}
use Rattle.std.specs.declared.alloc.AllocError.{AllocError}
use Rattle.std.specs.Cmp.Lexicographic.{slice_cmp}
use Rattle.std.specs.Global.{Global}
use Rattle.std.specs.Str.{bytes_eq}
use Rattle.std.proofs.lemmas.Bool.{cases_Bool}
use Rattle.std.proofs.lemmas.Map.{update_other}
use Rattle.std.proofs.lemmas.Map.Text.{btree_map_updates_text}
use Rattle.std.proofs.lemmas.Slice.Eq.{bytes_eq-Decides}
use Rattle.snap_io.specs.MemShelf.{stored_files}
use Rattle.snap_io.specs.Shelves.{Files, OfFile, Sets}

differ : (a b : List ℕ) → a ≢ b → bytes_eq a b ≡ false
differ a b apart = elim (cases_Bool (bytes_eq a b)) [
  | inl is ↦ absurd (apart ((bytes_eq-Decides a b).0 is))
  | inr other ↦ other
]

-- the file with that name has the new bytes, and the others keep theirs
pub sets_file : (key name : List ℕ) (m n : BTreeMap (String Global) (Vec ℕ Global)) (file : Vec ℕ Global) → key ≡ name
    → UpdatesBy string_cmp (λ k. slice_cmp nat_cmp key (string_bytes k)) m n (Some file) → Sets name file.items (stored_files m) (stored_files n)
sets_file key name m n file same updates = (
  (λ other apart.
      let differs = differ key other (λ e. apart (sym e ∙ same)) in
      ap (option_map (λ f. f.items)) (btree_map_updates_text key m n (Some file) updates other ∙ update_other bytes_eq (get_by_text m) key (Some file) other differs)),
  rw (← same) (ap (option_map (λ f. f.items)) updates.1),
)

-- to store a file's own bytes again changes nothing
same_file : (name bytes : List ℕ) (old new : Files) → old name ≡ Some bytes → Sets name bytes old new → new ≡ old
same_file name bytes old new had sets =
    let at : (other : List ℕ) → new other ≡ old other = λ other. elim (cases_Bool (bytes_eq other name)) [
      | inl is ↦ rw ((bytes_eq-Decides other name).0 is) (sets.1 ∙ sym had)
      | inr apart ↦ sets.0 other (λ e. true≢false (sym ((bytes_eq-Decides other name).1 e) ∙ apart))
    ] in
    λ i other. at other i

module _ (name : List ℕ) (m n : BTreeMap (String Global) (Vec ℕ Global)) (old new : Vec ℕ Global) (bytes : List ℕ) where
  -- a file that is there takes more bytes, where the memory for them was found
  pub grown_file : get_by_text m name ≡ Some old → UpdatesBy string_cmp (λ k. slice_cmp nat_cmp name (string_bytes k)) m n (Some new)
      → (added : Result (Unit {0}) AllocError) → new.items ≡ (if is_ok added then old.items ++ bytes else old.items)
      → OnOk added (OfFile (stored_files m name) (λ held. Sets name (held ++ bytes) (stored_files m) (stored_files n)))
  grown_file there updates (Ok _) items = rw there (rw (← items) (sets_file name name m n new refl updates))
  grown_file there updates (Err _) items = tt

  -- and else no file changes
  pub kept_file : get_by_text m name ≡ Some old → UpdatesBy string_cmp (λ k. slice_cmp nat_cmp name (string_bytes k)) m n (Some new)
      → (added : Result (Unit {0}) AllocError) → new.items ≡ (if is_ok added then old.items ++ bytes else old.items)
      → OnErr added (stored_files n ≡ stored_files m)
  kept_file there updates (Ok _) items = tt
  kept_file there updates (Err _) items =
      same_file name old.items (stored_files m) (stored_files n) (ap (option_map (λ f. f.items)) there) (rw (← items) (sets_file name name m n new refl updates))
