use Rattle.agent_main.proofs.Commands.{told_all}
use Rattle.agent_main.proofs.offline.run.Goals as goal

pub returns-in-Help-clause-checked : goal.returns-in-Help-clause-checked
returns-in-Help-clause-checked g c = told_all (g.F.Files.content c.args.files.now) _ (λ told name is. absurd (cc (c.in-Help.is, is)))

pub returns-in-Help-clause-refused : goal.returns-in-Help-clause-refused
returns-in-Help-clause-refused g c = told_all (g.F.Files.content c.args.files.now) _ (λ told name line is. absurd (cc (c.in-Help.is, is)))

pub returns-in-Help-clause-served : goal.returns-in-Help-clause-served
returns-in-Help-clause-served g c = told_all (g.F.Files.content c.args.files.now) _ (λ told name rules is. absurd (cc (c.in-Help.is, is)))

pub returns-in-Help-clause-replayed : goal.returns-in-Help-clause-replayed
returns-in-Help-clause-replayed g c = told_all (g.S.Source.left c.args.input.now) _ (λ text plain name is. absurd (cc (c.in-Help.is, is)))

pub returns-in-Help-clause-unloaded : goal.returns-in-Help-clause-unloaded
returns-in-Help-clause-unloaded g c = told_all (g.F.Files.content c.args.files.now) _ (λ told plain name fault is. absurd (cc (c.in-Help.is, is)))
