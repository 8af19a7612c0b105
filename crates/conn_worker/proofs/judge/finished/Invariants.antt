use Rattle.conn_worker.proofs.judge.finished.Given as goal

abbrev pub ghosts-finished_in : goal.ghosts-finished_in
ghosts-finished_in a = record { name = a.blank.name; parts = a.blank.parts }
