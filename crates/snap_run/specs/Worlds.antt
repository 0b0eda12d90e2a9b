-- What is outside of a run: the files, what was printed, and how often a read, a write and a print
-- have failed.
use Rattle.std.specs.Prelude.{◌≡◌, ◌++◌, ◌⊎◌, ℕ, List, Option, Some, None, ⊤, take}
use Rattle.snap_io.specs.Prelude.{Files}

pub record World : Type 0 where
  pub files : Option Files
  pub printed : Option (List ℕ)
  pub reading : ℕ
  pub writing : ℕ
  pub printing : ℕ

abbrev pub world : Option Files → Option (List ℕ) → ℕ → ℕ → ℕ → World
world files printed reading writing printing = record
    { files = files; printed = printed; reading = reading; writing = writing; printing = printing }

-- told bytes have grown by a text
abbrev pub Adds : Option (List ℕ) → Option (List ℕ) → List ℕ → Type 0
Adds None None text = ⊤
Adds None (Some now) text = ⊥
Adds (Some before) None text = ⊥
Adds (Some before) (Some now) text = now ≡ before ++ text

-- they have grown by the front of a text
pub record AddsPart (before now : Option (List ℕ)) (text : List ℕ) : Type 0 where
  pub part : ℕ
  pub is : Adds before now (take part text)

-- a text was printed, or its front where a print failed
abbrev pub Tells : Option (List ℕ) → Option (List ℕ) → Type 0 → List ℕ → Type 0
Tells before now fault text = Adds before now text ⊎ fault × AddsPart before now text
