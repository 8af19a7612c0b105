use Rattle.sec_ops.proofs.built.build.Goals as goal

pub returns-in-Err-clause-word : goal.returns-in-Err-clause-word
returns-in-Err-clause-word c = λ at kind bad. let is = c.in-Err.ensures.word at kind bad in cc

pub returns-in-Ok-clause-word : goal.returns-in-Ok-clause-word
returns-in-Ok-clause-word c = λ at kind bad. let no = c.in-Ok.ensures.word at kind bad in absurd cc
