use Rattle.std.proofs.Common.{rules}
use Rattle.agent_main.proofs.Commands.{ran_as, ran_out}
use Rattle.agent_main.proofs.offline.offline_main.Goals as goal

pub returns-in-Ok : goal.returns-in-Ok
returns-in-Ok g c = ran_as _ _ _ _ _ _ (search rules) (record {
  usage = c.run.ensures.usage;
  taken = c.run.ensures.taken;
  help = c.run.ensures.help;
  version = c.run.ensures.version;
  checked_all = c.run.ensures.checked;
  refused = c.run.ensures.refused;
  served = c.run.ensures.served;
  replayed = c.run.ensures.replayed;
  unloaded = c.run.ensures.unloaded;
  generated = c.run.ensures.generated;
  untouched = c.run.ensures.untouched;
  unread = c.run.ensures.unread;
  once_alone = c.run.ensures.once_alone;
  no_door = c.run.ensures.no_door;
  read_fault = c.run.ensures.read_fault;
  write_fault = c.run.ensures.write_fault;
})

pub returns : goal.returns
returns g c = ran_out _ _ _
