use Rattle.std.specs.Prelude.{option_copied}
use Rattle.std.proofs.lemmas.List.{map-set}
use Rattle.snap_text.proofs.clones.Clones.clear.Goals as goal

pub returns : goal.returns
returns c = rw (← c.self.view_is) (map-set option_copied c.self.inside.names c.args.slot _)
