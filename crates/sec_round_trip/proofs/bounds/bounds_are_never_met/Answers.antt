use Rattle.sec_parts.proofs.PieceBounds.{more_pieces, more_targets}
use Rattle.sec_round_trip.proofs.bounds.bounds_are_never_met.Goals as goal

pub returns-clause-targets : goal.returns-clause-targets
returns-clause-targets c = more_targets

pub returns-clause-actions : goal.returns-clause-actions
returns-clause-actions c = more_pieces
