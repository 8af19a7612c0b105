use Rattle.std.proofs.Common.{arith}
use Rattle.sec_transforms.proofs.Chains.{chain_turn, chain_end}
use Rattle.sec_transforms.proofs.apply_names.apply_others.Goals as goal

pub loop-name-preserved : goal.loop-name-preserved
loop-name-preserved c =
    chain_turn c.args.names.now c.loop-name.name-index _ c.loop-name.held _ _ (omega arith) c.loop-name.invariant (rw c.as_slice.ensures at c.in_ok-held.ensures)

pub returns : goal.returns
returns c = chain_end c.args.names.now c.loop-name.name-index c.loop-name.held _ (omega arith) c.loop-name.invariant
