-- What a shelf holds, and what each call does to it. A shelf need not tell its files: then nothing
-- is said of them.
use Rattle.std.specs.Prelude.{◌≡◌, ◌≢◌, ◌⊎◌, ◌++◌, ◌≤◌, ℕ, List, [], Option, Some, None, Result, MatchResult, IfOk, ⊤, take, drop, length}

-- each name's bytes, or None where no such file is there
abbrev pub Files : Type 0
Files = List ℕ → Option (List ℕ)

-- all files but one are as they were
abbrev pub SameBut : List ℕ → Files → Files → Type 0
SameBut name old new = (other : List ℕ) → other ≢ name → new other ≡ old other

-- one file has these bytes, and all others are as they were
abbrev pub Sets : List ℕ → List ℕ → Files → Files → Type 0
Sets name bytes old new = SameBut name old new × (new name ≡ Some bytes)

-- a fact of the files, where they are told
abbrev pub IfTold : Option Files → (Files → Type 0) → Type 0
IfTold None fact = ⊤
IfTold (Some files) fact = fact files

-- how told files differ after a call from those before; whether they are told stays
abbrev pub Changes : Option Files → Option Files → (Files → Files → Type 0) → Type 0
Changes None None rule = ⊤
Changes None (Some new) rule = ⊥
Changes (Some old) None rule = ⊥
Changes (Some old) (Some new) rule = rule old new

-- what calls that only read leave of a shelf: files and the count of failed writes stay, and that of
-- failed reads never falls
pub record OnlyReads {S : Type 0} (files : S → Option Files) (read_faults write_faults : S → ℕ)
    (old new : S) : Type 0 where
  pub later : read_faults old ≤ read_faults new
  pub same_files : files new ≡ files old
  pub same_writes : write_faults new ≡ write_faults old

-- the files are told, and no file has the name
abbrev pub IsAbsent : Option Files → List ℕ → Type 0
IsAbsent None name = ⊥
IsAbsent (Some files) name = files name ≡ None

-- the file is there, with a fact of its bytes
abbrev pub OfFile : Option (List ℕ) → (List ℕ → Type 0) → Type 0
OfFile None fact = ⊥
OfFile (Some bytes) fact = fact bytes

-- an answered size is the length of a file that is there
abbrev pub Sizes : {E : Type 0} → Option Files → List ℕ → Result ℕ E → Type 0
Sizes files name result =
    IfTold files (λ f. IfOk result (λ n. OfFile (f name) (λ bytes. n ≡ length bytes)))

-- the first n of the bytes read are those from a place on; there are none only at the end, or where
-- none were asked
abbrev pub Gives : List ℕ → ℕ → ℕ → List ℕ → Type 0
Gives bytes at n into = (take n into ≡ take n (drop at bytes))
    × (n ≤ length (drop at bytes))
    × (n ≡ 0 → (length into ≡ 0) ⊎ (length bytes ≤ at))

-- an answered read gave bytes of a file that is there
abbrev pub ReadsFrom : {E : Type 0} → Option Files → List ℕ → ℕ → Result ℕ E → List ℕ → Type 0
ReadsFrom files name at result into =
    IfTold files (λ f. IfOk result (λ n. OfFile (f name) (λ bytes. Gives bytes at n into)))

-- the file is there and empty, or after a failure as before or empty
abbrev pub Creates : {T E : Type 0} → List ℕ → Result T E → Files → Files → Type 0
Creates name result old new = SameBut name old new
    × MatchResult result (λ _. new name ≡ Some [])
    (λ _. (new name ≡ old name) ⊎ (new name ≡ Some []))

-- a file has the bytes behind its own, or after a failure a prefix of them; an absent one is
-- refused and stays absent
abbrev pub GrowsBy : {T E : Type 0} → List ℕ → Result T E → Option (List ℕ) → Option (List ℕ)
    → Type 0
GrowsBy bytes result None new = MatchResult result (λ _. ⊥) (λ _. new ≡ None)
GrowsBy bytes result (Some old) new =
    MatchResult result (λ _. new ≡ Some (old ++ bytes))
    (λ _. (k : ℕ) × (new ≡ Some (old ++ take k bytes)))

-- the named file grows, and no other changes
abbrev pub Appends : {T E : Type 0} → List ℕ → List ℕ → Result T E → Files → Files → Type 0
Appends name bytes result old new =
    SameBut name old new × GrowsBy bytes result (old name) (new name)
