use Rattle.std.proofs.Common.{◌≡◌, rules, None, replicate, arith}
use Rattle.due_index.proofs.Settling.{free_index}
use Rattle.due_index.proofs.index.DueIndex.new.Goals as goal

pub invariant_of-result : goal.invariant_of-result
invariant_of-result c =
    let held : c.in_ok-held.held.items ≡ replicate c.args.capacity None = search rules in
    let firsts : c.in_ok-firsts.firsts.items ≡ replicate c.args.capacity None = search rules in
    free_index c.args.capacity c.in_ok-held.held.items c.in_ok-firsts.firsts.items (omega arith) held firsts
