use Rattle.conn_worker.proofs.judge.begun.Given as goal

abbrev pub ghosts-begun_in : goal.ghosts-begun_in
ghosts-begun_in a = record { name = a.blank.name; parts = a.blank.parts }
