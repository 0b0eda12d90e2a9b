-- A table that was just opened meets the rule.
use Rattle.std.proofs.Common.{◌≡◌, ℕ, inl, [], None, refl}
use Rattle.snap_model.specs.History.{told}
use Rattle.snap_rule.specs.Rule.{TableOk, NoneWrites, opened}

told_nothing : (k : ℕ) → None ≡ told [] k
unfolding told
told_nothing k = refl

pub opens : TableOk opened × NoneWrites opened
opens = (
  record {
    tree = record { tells = told_nothing; reads = tt; root = refl; ordered = tt; rows = λ n h. absurd h };
    present = record { stands = λ n h. absurd h; replaced = λ n h. absurd h; gone = λ n h i. h };
    links = record { no_zero = λ h. h; links = λ n d h. inl refl; births = λ n h. absurd h; zero_stamp = refl; zero_left = refl };
    sharing = record { links = λ n d h. absurd h };
    changes = record { fits = λ n d h. refl; live = λ n d h. absurd (h refl) };
    counts = record { entered = refl };
  },
  record { no_change = λ z n d. refl; no_mark = λ z n h. absurd h },
)
