use Rattle.sec_eval.proofs.phase.at_rule.Goals as goal

pub returns-then-count-eq0-clause-most : goal.returns-then-count-eq0-clause-most
returns-then-count-eq0-clause-most g c = λ rest. rw (c.in-Skipping.is, c.if-count-eq0.true) (c.look-then-count-eq0.ensures.most rest)

pub returns-in-Looking-clause-most : goal.returns-in-Looking-clause-most
returns-in-Looking-clause-most g c = λ rest. rw c.in-Looking.is (c.look.ensures.most rest)
