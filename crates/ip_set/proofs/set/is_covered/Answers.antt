use Rattle.std.proofs.Common.{arith}
use Rattle.std.proofs.NetLemmas.Theorems.{IsIpText_unique}
use Rattle.ip_set.proofs.set.is_covered.Goals as goal

pub returns : goal.returns
returns c = (
  λ e. cc,
  λ m.
      let ip = IsIpText_unique c.args.text.now m.0 c.in-Ok.ip m.1 c.in-Ok.ensures in
      absurd (c.loop-block.invariant m.2.0 m.2.1 (omega (arith, m.2.2)) m.2.3 (rw ip at m.2.4)),
)
