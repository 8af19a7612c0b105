-- The rows of all shards.
use Rattle.std.specs.Prelude.{◌≡◌, ℕ, List, Option}
use Rattle.waf_io.specs.declared.sink.Wrote as wrote
use Rattle.hall_core.specs.declared.Counts.{Counts}
use Rattle.conn_worker.specs.Entries.{HallEntry}
use Rattle.control.specs.declared.counting.Totals.{Totals}
use Rattle.control.specs.Turns.{Counted, parked, running, stats_text}
use Rattle.control.specs.Written.{IsWritten}

-- each shard was counted, once, and these are the rows of all
pub record CountsAll (totals : Totals) (old new : List (List HallEntry)) : Type 0 where
  pub counts : List Counts
  pub counted : Counted 0 counts old new
  pub running_is : totals.running ≡ running counts
  pub parked_is : totals.parked ≡ parked counts

abbrev pub totals_text : Totals → List ℕ
totals_text t = stats_text t.running t.parked

-- and they were told
pub record Stats (how : wrote.Wrote) (old new : List (List HallEntry)) (held now : Option (List ℕ)) : Type 0 where
  pub counts : List Counts
  pub counted : Counted 0 counts old new
  pub written : IsWritten how (stats_text (running counts) (parked counts)) held now
