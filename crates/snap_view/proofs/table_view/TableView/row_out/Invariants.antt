use Rattle.std.proofs.Common.{◌≡◌, ◌<◌, ◌≤◌, ◌-◌}
use Rattle.snap_view.proofs.Balances.{out_row}
use Rattle.snap_view.proofs.table_view.TableView.row_out.Given as goal

-- the rows before this one were asked, and the row that keeps the clone from being settled is none of them
abbrev pub invariant-loop-number : goal.invariant-loop-number
invariant-loop-number l = (l.self ≡ l.fn.self) × (0 < l.number) × (l.number ≤ out_row l.fn.self.balance)

abbrev pub decreases-loop-number : goal.decreases-loop-number
decreases-loop-number l = out_row l.fn.self.balance - l.number
