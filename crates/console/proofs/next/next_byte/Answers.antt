use Rattle.std.proofs.Common.{rules, refl}
use Rattle.console.specs.Orders.{around}
use Rattle.console.proofs.Taking.{took_none, took_one}
use Rattle.console.proofs.next.next_byte.Goals as goal

pub returns-in-Bytes-clause-takes : goal.returns-in-Bytes-clause-takes
returns-in-Bytes-clause-takes g c =
    took_one c.read.new.into c.in-Bytes.field-0 (around (g.S.Source.left c.args.input.now) (g.S.Source.ends c.args.input.now)) (around (g.S.Source.left c.read.new.self) (g.S.Source.ends c.read.new.self))
    (search rules) (search rules) c.in-Bytes.ensures.bytes.2 c.in-Bytes.ensures.end

pub returns-in-Failed-clause-takes : goal.returns-in-Failed-clause-takes
returns-in-Failed-clause-takes g c =
    took_none (around (g.S.Source.left c.args.input.now) (g.S.Source.ends c.args.input.now)) (around (g.S.Source.left c.read.new.self) (g.S.Source.ends c.read.new.self))
    (λ i. around (c.in-Failed.ensures.bytes i) (c.in-Failed.ensures.end i))
