use Rattle.snap_view.proofs.table_view.TableView.pair_near.Given as goal

abbrev pub ghosts-pair_from : goal.ghosts-pair_from
ghosts-pair_from a = record { name = a.blank.name; parts = a.blank.parts }
