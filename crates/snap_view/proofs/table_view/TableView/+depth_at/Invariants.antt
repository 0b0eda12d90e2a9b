use Rattle.snap_view.proofs.table_view.TableView.+depth_at.Given as goal

abbrev pub decreases-depth_at : goal.decreases-depth_at
decreases-depth_at g l = l.levels
