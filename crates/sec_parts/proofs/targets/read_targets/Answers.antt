use Rattle.std.proofs.Common.{suc, length, Some, ap, arith}
use Rattle.std.specs.Prelude.{option_copied}
use Rattle.sec_parts.specs.Targets.{next_target, one_target, targets_of}
use Rattle.sec_parts.proofs.Loops.{starts, goes_on}
use Rattle.sec_parts.proofs.TargetLoop.{left, left-shorter}
use Rattle.sec_parts.proofs.targets.read_targets.Goals as goal

pub loop-rest-init : goal.loop-rest-init
unfolding targets_of
loop-rest-init c =
    rw c.new-targets.ensures (starts next_target left (suc (suc (length c.args.text.now))) (Some c.args.text.now) (omega arith))

pub loop-rest-preserved : goal.loop-rest-preserved
loop-rest-preserved c =
    let start = rw c.in-Some.is at c.loop-rest.invariant in
    let step = ap one_target c.in_ok-target.ensures.target in
    let less = left-shorter c.in-Some.here.now (option_copied c.in_ok-target.after) (grind (arith, c.in_ok-target.ensures.shorter)) in
    rw c.in_ok-push.ensures.ok (goes_on next_target left (Some c.in-Some.here.now) (option_copied c.in_ok-target.after) c.loop-rest.targets c.in_ok-target.target (targets_of c.args.text.now) start step less)
