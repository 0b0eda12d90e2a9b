-- The depth of a clone, by the answers of its view.
use Rattle.std.proofs.Common.{◌≡◌, ◌≤◌, ◌<◌, ◌^◌, ◌*◌, ℕ, Bool, false, length, refl, ap, ◌∙◌, subst}
use Rattle.snap_prelude.specs.{after, Cloned, count, depth, image, IsCloneOf, IsSettledTree, least, Pairs}
use Rattle.snap_model.specs.declared.command.Reply.TheVariants as reply
use Rattle.snap_view.specs.{Balances.TellsBalance, declared.balance.Settled.Settled}
use Rattle.snap_view.specs.declared.balance.Settled.TheVariants.{Yes, RowsOut, StampOut}
use Rattle.snap_view.proofs.Neighbours.{clone_rises, whole_range}
use Rattle.snap_service.specs.Prelude.{is_yes, Measures}

pub not_yes : (b : Settled) → ¬ (b ≡ Yes) → false ≡ is_yes b
not_yes Yes n = absurd (n refl)
not_yes (RowsOut rows) n = refl
not_yes (StampOut row) n = refl

-- all keys are counted
pub all_counted : (c : Cloned) → IsCloneOf c.base (image c) → count (after c.base) 0 18446744073709551615 ≡ length (after c.base)
all_counted c h = ap (λ (m : Pairs). length m) (whole_range (after c.base) (clone_rises c h))

pub measured : (old counted asked new : Cloned) (deep pairs : ℕ) (balance : Settled) (word : Bool) → IsCloneOf old.base (image old) → counted ≡ old → asked ≡ counted
    → deep ≡ depth (image old) → deep ≤ old.next → length (after old.base) < 2 ^ deep → (IsSettledTree (image old) → least deep ≤ 2 * length (after old.base))
    → pairs ≡ count (after counted.base) 0 18446744073709551615 → TellsBalance asked new balance → word ≡ is_yes balance → Measures old new (reply.Depth deep pairs word)
measured old counted asked new deep pairs balance word clone same later is low many shallow found tells said = record {
  deep = deep;
  balance = balance;
  reply = ap (λ (n : ℕ). reply.Depth deep n word) (found ∙ ap (λ (c : Cloned). count (after c.base) 0 18446744073709551615) same ∙ all_counted old clone) ∙ ap (λ (b : Bool). reply.Depth deep (length (after old.base)) b) said;
  deep_is = is;
  low = low;
  many = many;
  shallow = shallow;
  tells = subst (λ (c : Cloned). TellsBalance c new balance) (later ∙ same) tells;
}
