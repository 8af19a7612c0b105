use Rattle.hall_core.specs.Keeping.{entered_runs}
use Rattle.trials.proofs.hall.parks.Goals as goal

pub park-requires : goal.park-requires
park-requires c = record { running = entered_runs c.args.hall.now c.enter.new.self c.args.key c.in-Entered.ticket c.in-Entered.ensures.reply c.in-Entered.ensures.state }
