use Rattle.std.proofs.Common.{rules}
use Rattle.sec_ops.proofs.GateLemmas.{of_regex}
use Rattle.sec_ops.proofs.pattern.compile.Goals as goal

pub invariant_of-result : goal.invariant_of-result
invariant_of-result c = record {
  gated = of_regex c.in-Ok.regex c.args.source.now c.in-Ok-gate_of.gate (search rules) (search rules) (search rules) c.in-Ok-gate_of.ensures;
}
