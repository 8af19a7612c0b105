use Rattle.std.proofs.Common.{◌∙◌, ap}
use Rattle.std.specs.Prelude.{is_some}
use Rattle.sec_read.proofs.addresses.is_address.Goals as goal

pub returns : goal.returns
returns c = c.is_some.ensures ∙ ap is_some c.read.ensures.block
