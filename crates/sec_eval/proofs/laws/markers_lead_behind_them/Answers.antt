use Rattle.sec_eval.proofs.Jumps.{until_marker}
use Rattle.sec_eval.proofs.laws.markers_lead_behind_them.Goals as goal

pub returns : goal.returns
returns c = until_marker
