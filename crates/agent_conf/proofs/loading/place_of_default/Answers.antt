use Rattle.std.proofs.Common.{sym}
use Rattle.agent_conf.proofs.loading.place_of_default.Goals as goal

pub returns-in-None-place_of-clause-place : goal.returns-in-None-place_of-clause-place
returns-in-None-place_of-clause-place c =
    rw (c.in-Some.is, sym c.as_slice.ensures, sym c.as_slice-in-Some.ensures) c.in-None-place_of.ensures.place
