use Rattle.std.proofs.Common.{◌∙◌, sym}
use Rattle.std.specs.Prelude.{is_none, option_copied}
use Rattle.snap_text.proofs.Slots.{position-map}
use Rattle.snap_text.proofs.clones.Clones.free_slot.Goals as goal

pub returns-in_err-unnamed-clause-slot : goal.returns-in_err-unnamed-clause-slot
returns-in_err-unnamed-clause-slot c =
    c.from_residual.ensures ∙ c.in_err-unnamed.ensures.place ∙ rw (← c.self.view_is) (sym (position-map is_none option_copied c.self.inside.names))

pub returns-clause-slot : goal.returns-clause-slot
returns-clause-slot c =
    c.in_ok-unnamed.ensures.place ∙ rw (← c.self.view_is) (sym (position-map is_none option_copied c.self.inside.names))
