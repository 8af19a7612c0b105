use Rattle.std.proofs.Common.{rules}
use Rattle.sec_collect.proofs.captures.captured_rows.Goals as goal

pub invariant_of-result : goal.invariant_of-result
invariant_of-result c = (c.args.groups.now, search rules)
