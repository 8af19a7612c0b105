use Rattle.world_core.proofs.Tickets.{tickets_run}
use Rattle.world_core.proofs.laws.tickets_stay_with_rows.Goals as goal

pub returns : goal.returns
returns g c listing_of w step u seen run steps = tickets_run listing_of w step u seen run steps
