use Rattle.std.proofs.Common.{◌≡◌, []}
use Rattle.snap_steps.specs.Seen.{first_passes}
use Rattle.snap_steps.specs.Roles.{opener}
use Rattle.snap_steps.proofs.rows.Rows.deal.Given as goal

abbrev pub invariant-loop-who : goal.invariant-loop-who
invariant-loop-who l = (l.opener.table_id ≡ l.self.table) × (l.opener.me ≡ (opener l.self.rows l.passes l.who, [])) × (l.all.items ≡ first_passes l.self.table l.self.rows l.passes l.who)
