use Rattle.snap_view.proofs.table_view.TableView.settled.Given as goal

abbrev pub ghosts-is_settled : goal.ghosts-is_settled
ghosts-is_settled a = record { name = a.blank.name; parts = a.blank.parts }
