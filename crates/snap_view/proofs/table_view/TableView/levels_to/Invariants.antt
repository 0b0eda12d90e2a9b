use Rattle.snap_view.proofs.table_view.TableView.levels_to.Given as goal

abbrev pub ghosts-way_from : goal.ghosts-way_from
ghosts-way_from a = record { name = a.blank.name; parts = a.blank.parts }
