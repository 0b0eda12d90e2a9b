use Rattle.snap_view.proofs.walk.WalkIterator.next.Given as goal

abbrev pub ghosts-next_pair : goal.ghosts-next_pair
ghosts-next_pair a = record { name = a.blank.name; parts = a.blank.parts }
