use Rattle.std.proofs.Common.{rules}
use Rattle.sec_collect.specs.Request.{basename}
use Rattle.sec_collect.proofs.Basename.{whole_or, at_slash}
use Rattle.sec_collect.proofs.request.basename.Goals as goal

pub loop-first-init : goal.loop-first-init
loop-first-init c = whole_or c.args.path.now

pub loop-first-preserved-then-is_slash : goal.loop-first-preserved-then-is_slash
loop-first-preserved-then-is_slash c =
    at_slash c.in-Some.first.now c.in-Some.following.now c.loop-first.name.now (basename c.args.path.now) (search rules) (rw c.in-Some.ensures.cases.0 at c.loop-first.invariant)
