use Rattle.world_core.proofs.halves.retire.Given as goal

abbrev pub ghosts-retire_in : goal.ghosts-retire_in
ghosts-retire_in a = record { name = a.blank.name; parts = a.blank.parts }
