use Rattle.std.proofs.Common.{subst}
use Rattle.row_table.specs.Table.{listed}
use Rattle.hall_core.specs.Found.{IsSought}
use Rattle.hall_core.proofs.Numbers.{running_at, running_is_there}
use Rattle.hall_core.proofs.search.place_of_running.Goals as goal

pub unreachable-requires : goal.unreachable-requires
unreachable-requires g c = running_is_there (listed c.args.table.now) c.args.number c.requires.running (subst (λ o. IsSought (listed c.args.table.now) c.args.number o) c.in-None.is c.place_of.ensures)

pub returns : goal.returns
returns g c = running_at (listed c.args.table.now) c.args.number c.in-Some.at c.requires.ascending c.requires.running (subst (λ o. IsSought (listed c.args.table.now) c.args.number o) c.in-Some.is c.place_of.ensures)
