use Rattle.std.specs.Prelude.{option_copied}
use Rattle.sec_parts.specs.Targets.{next_target, targets_of}
use Rattle.sec_parts.proofs.Loops.{Goes}
use Rattle.sec_parts.proofs.TargetLoop.{left}
use Rattle.sec_parts.proofs.targets.read_targets.Given as goal

abbrev pub invariant-loop-rest : goal.invariant-loop-rest
invariant-loop-rest l = Goes next_target left (option_copied l.rest) l.targets (targets_of l.text)

abbrev pub decreases-loop-rest : goal.decreases-loop-rest
decreases-loop-rest l = left (option_copied l.rest)
