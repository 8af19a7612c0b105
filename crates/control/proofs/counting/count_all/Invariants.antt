use Rattle.std.proofs.Common.{◌≡◌, List, length}
use Rattle.hall.specs.Passes.{IsPassOfHall}
use Rattle.hall_core.specs.declared.Counts.{Counts}
use Rattle.conn_worker.specs.Entries.{lists_of, shares_of}
use Rattle.control.specs.Turns.{Counted, parked, running}
use Rattle.control.proofs.counting.count_all.Given as goal

abbrev pub invariant-loop-shard : goal.invariant-loop-shard
invariant-loop-shard g l = IsPassOfHall l.desk l.pass × (shares_of l.pass ≡ shares_of l.initial.pass)
    × ((counts : List Counts) × (length counts ≡ l.shard) × Counted 0 counts (lists_of l.initial.pass) (lists_of l.pass) × (l.totals.running ≡ running counts) × (l.totals.parked ≡ parked counts))
