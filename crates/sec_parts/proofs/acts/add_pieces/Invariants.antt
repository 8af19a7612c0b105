use Rattle.std.proofs.Common.{length, Some, suc}
use Rattle.std.specs.Prelude.{option_copied}
use Rattle.sec_parts.specs.Acts.{pieces_in}
use Rattle.sec_parts.proofs.ActionLoop.{Goes, left}
use Rattle.sec_parts.proofs.acts.add_pieces.Given as goal

abbrev pub invariant-loop-rest : goal.invariant-loop-rest
invariant-loop-rest l = Goes l.stand (option_copied l.rest) l.acts (pieces_in l.stand (suc (length l.text)) (Some l.text) l.fn.acts)

abbrev pub decreases-loop-rest : goal.decreases-loop-rest
decreases-loop-rest l = left (option_copied l.rest)
