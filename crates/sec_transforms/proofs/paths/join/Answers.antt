use Rattle.std.proofs.Common.{[], arith}
use Rattle.sec_transforms.proofs.Joins.{begun, join_turn, join_end}
use Rattle.sec_transforms.proofs.paths.join.Goals as goal

pub loop-piece-init : goal.loop-piece-init
loop-piece-init c = begun c.args.out.now c.append.new.self c.in-Some.first.now c.in-Some.others.now c.args.left.now c.in-Some.ensures.cases.0 c.in_ok-append.ensures.ok

pub loop-piece-preserved : goal.loop-piece-preserved
loop-piece-preserved c =
    join_turn c.loop-piece.out c.push.new.self _ _ c.in-Some.others.now c.loop-piece.piece-index record { ref_ptr = (0, 0); now = [] } (omega arith) c.loop-piece.invariant c.in_ok-push.ensures.ok c.in_ok-append-2.ensures.ok

pub returns : goal.returns
returns c = join_end c.loop-piece.out _ c.in-Some.others.now c.loop-piece.piece-index (omega arith) c.loop-piece.invariant
