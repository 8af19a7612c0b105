use Rattle.world_core.proofs.halves.begin.Given as goal

abbrev pub ghosts-begin_in : goal.ghosts-begin_in
ghosts-begin_in a = record { name = a.blank.name; parts = a.blank.parts }
