use Rattle.conn_worker.proofs.judge.retired.Given as goal

abbrev pub ghosts-retired_in : goal.ghosts-retired_in
ghosts-retired_in a = record { name = a.blank.name; parts = a.blank.parts }
