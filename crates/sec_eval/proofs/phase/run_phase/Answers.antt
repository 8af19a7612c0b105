use Rattle.std.proofs.Common.{arith}
use Rattle.sec_meaning.specs.declared.state.Passing.TheVariants.{Looking}
use Rattle.sec_eval.proofs.Bounds.{body_most, walk_most}
use Rattle.sec_eval.proofs.phase.run_phase.Goals as goal

pub returns-then-number-eq-REQUEST_BODY-clause-most : goal.returns-then-number-eq-REQUEST_BODY-clause-most
returns-then-number-eq-REQUEST_BODY-clause-most g c =
    let most = body_most c.args.askers.now c.open_body.new.self in
    rw c.if-number-eq-REQUEST_BODY.true (omega (arith, most, c.with_body.ensures.most))

pub returns-clause-most : goal.returns-clause-most
returns-clause-most g c =
    let most = walk_most c.args.number c.args.askers.now.items Looking c.args.state.now in
    omega (arith, most, c.walk.ensures.most)
