use Rattle.std.proofs.Common.{refl}
use Rattle.agent_main.proofs.Runs.{counted, kept_plan}
use Rattle.agent_main.proofs.playing.reload.Goals as goal

pub returns-in-Ok-clause-plan : goal.returns-in-Ok-clause-plan
returns-in-Ok-clause-plan g c = (c.in-Ok.field-0-0, c.in-Ok.apps, c.in-Ok.ensures.told, refl)

pub returns : goal.returns
returns g c =
    let files = g.F.Files in
    let before = files.faults c.args.files.now in
    let now = files.faults c.load.new.files in
    let k = kept_plan (files.content c.args.files.now) c.args.name.now c.in-Err.fault before now c.kept.result c.in-Err.ensures.told (counted c.in-Err.fault before now c.in-Err.ensures.cause c.in-Err.ensures.later) c.kept.ensures in
    record { plan = k.0; same = c.in-Err.ensures.same; reads = k.1 }
