use Rattle.std.proofs.Common.{◌∙◌, sym}
use Rattle.std.specs.Prelude.{option_copied}
use Rattle.snap_text.specs.Clones.{has_name}
use Rattle.snap_text.proofs.Slots.{position-map}
use Rattle.snap_text.proofs.clones.Clones.slot_of.Goals as goal

pub returns-in_err-named-clause-slot : goal.returns-in_err-named-clause-slot
returns-in_err-named-clause-slot c =
    c.from_residual.ensures ∙ c.in_err-named.ensures.place ∙ rw (← c.self.view_is) (sym (position-map (has_name c.args.name.now) option_copied c.self.inside.names))

pub returns-clause-slot : goal.returns-clause-slot
returns-clause-slot c =
    c.in_ok-named.ensures.place ∙ rw (← c.self.view_is) (sym (position-map (has_name c.args.name.now) option_copied c.self.inside.names))
