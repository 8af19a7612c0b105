use Rattle.agent_main.proofs.Tables.{entered_runs}
use Rattle.agent_main.proofs.judge.OnceHostHostTheRulesHalfTicket.enter.Goals as goal

pub returns-clause-holds : goal.returns-clause-holds
returns-clause-holds c = λ ticket is.
    entered_runs c.args.self.now.hall c.enter.new.self c.args.key c.enter.result ticket (c.entry_answer.ensures.ticket ticket is) c.enter.ensures.reply c.enter.ensures.state
