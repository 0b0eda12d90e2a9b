use Rattle.snap_view.proofs.table_view.TableView.any_depth.Given as goal

abbrev pub ghosts-low_depth : goal.ghosts-low_depth
ghosts-low_depth a = record { name = a.blank.name; parts = a.blank.parts }
