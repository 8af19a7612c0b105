use Rattle.agent_main.proofs.Tables.{exits, exits_at_once}
use Rattle.agent_main.proofs.once.under.Goals as goal

pub returns-in-Ok-clause-served : goal.returns-in-Ok-clause-served
returns-in-Ok-clause-served g c =
    exits _ c.serve.result c.args.rules _ _ _ (g.S.Source.left c.args.input.now) _ (g.S.Source.ends c.args.input.now) _ _ _ c.status_of.ensures c.in-Ok.ensures.rules c.in-Ok.ensures.table c.serve.ensures.served

pub returns-in-Err-clause-served : goal.returns-in-Err-clause-served
returns-in-Err-clause-served g c = exits_at_once c.args.rules (g.S.Source.left c.args.input.now) (g.S.Source.ends c.args.input.now) (g.K.Sink.held c.args.output.now)
