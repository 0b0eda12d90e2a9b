use Rattle.snap_view.proofs.walk.Walk.begin.Given as goal

abbrev pub ghosts-rows_from : goal.ghosts-rows_from
ghosts-rows_from a = record { name = a.blank.name; parts = a.blank.parts }
