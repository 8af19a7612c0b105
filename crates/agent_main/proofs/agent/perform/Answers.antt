use Rattle.std.proofs.Common.{sym}
use Rattle.agent_main.proofs.Commands.{not_serve, ran_as, told_all}
use Rattle.agent_main.proofs.agent.perform.Goals as goal

pub returns-in-Err-clause-offline : goal.returns-in-Err-clause-offline
returns-in-Err-clause-offline g c = λ is. ran_as _ _ _ _ _ _ (sym c.in-Err.ensures.err.0) (record {
  usage = c.run.ensures.usage;
  taken = c.run.ensures.taken;
  help = c.run.ensures.help;
  version = c.run.ensures.version;
  checked_all = c.run.ensures.checked;
  refused = c.run.ensures.refused;
  served = c.run.ensures.served;
  replayed = c.run.ensures.replayed;
  unloaded = c.run.ensures.unloaded;
  generated = c.run.ensures.generated;
  untouched = c.run.ensures.untouched;
  unread = c.run.ensures.unread;
  once_alone = c.run.ensures.once_alone;
  no_door = c.run.ensures.no_door;
  read_fault = c.run.ensures.read_fault;
  write_fault = c.run.ensures.write_fault;
})

pub returns-in-Err-clause-refused : goal.returns-in-Err-clause-refused
returns-in-Err-clause-refused g c = told_all (g.F.Files.content c.args.files.now) _ (λ told name fault is refused. absurd (not_serve c.args.command c.in-Err.command name c.in-Err.ensures.err.0 c.in-Err.ensures.err.1 is))
