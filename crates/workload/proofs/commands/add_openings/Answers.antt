use Rattle.std.proofs.Common.{◌≡◌, ℕ, ◌++◌, ◌∙◌, ap, arith}
use Rattle.std.specs.List.{flat_map, range_with_len}
use Rattle.workload.specs.Workload.{opening, openings}
use Rattle.workload.proofs.Joined.{grown}
use Rattle.workload.proofs.commands.add_openings.Goals as goal

pub loop-conn-preserved : goal.loop-conn-preserved
loop-conn-preserved c =
    grown opening c.args.commands.now c.loop-conn.commands c.add_opening.new.commands 0 c.loop-conn.conn c.loop-conn.conn c.loop-conn.invariant c.in_ok-add_opening.ensures (omega arith)

pub returns : goal.returns
unfolding openings
returns c =
    let all : c.loop-conn.conn ≡ 16 = omega arith in
    c.loop-conn.invariant ∙ ap (λ (n : ℕ). c.args.commands.now ++ flat_map opening (range_with_len 0 n)) all
