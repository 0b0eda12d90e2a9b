use Rattle.snap_view.proofs.table_view.TableView.get.Given as goal

abbrev pub ghosts-value_at : goal.ghosts-value_at
ghosts-value_at a = record { name = a.blank.name; parts = a.blank.parts }
