use Rattle.snap_view.proofs.table_view.TableView.+settled_height.Given as goal

abbrev pub decreases-settled_height : goal.decreases-settled_height
decreases-settled_height g l = l.levels
