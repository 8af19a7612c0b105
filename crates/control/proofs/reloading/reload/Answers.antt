use Rattle.control.proofs.Reloads.{keeps, publishes}
use Rattle.control.proofs.reloading.reload.Goals as goal

pub returns-in-Ok-clause-obeyed : goal.returns-in-Ok-clause-obeyed
returns-in-Ok-clause-obeyed g c =
    publishes _ _ c.in-Ok.field-0-0 c.in-Ok.apps _ _ _ _ _ _ _ c.in-Ok.ensures.told c.publish.ensures.publishes c.load.ensures.later

pub returns-clause-obeyed : goal.returns-clause-obeyed
returns-clause-obeyed g c =
    keeps _ _ c.in-Err.fault _ _ _ _ _ _ c.in-Err.ensures.told c.keep.ensures.kept c.in-Err.ensures.cause c.load.ensures.later
