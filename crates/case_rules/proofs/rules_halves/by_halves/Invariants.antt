use Rattle.case_rules.proofs.rules_halves.by_halves.Given as goal

abbrev pub ghosts-by_two : goal.ghosts-by_two
ghosts-by_two a = record { name = a.blank.name; parts = a.blank.parts }
