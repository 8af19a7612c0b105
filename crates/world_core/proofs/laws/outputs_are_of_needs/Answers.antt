use Rattle.world_core.proofs.Outputs.{output_is_of_needs}
use Rattle.world_core.proofs.laws.outputs_are_of_needs.Goals as goal

pub returns : goal.returns
returns g c listing_of w log u n s none h has = output_is_of_needs listing_of w log u n s none h has
