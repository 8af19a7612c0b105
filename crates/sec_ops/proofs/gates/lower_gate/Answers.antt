use Rattle.regex_extract.specs.Needles.{needles_of}
use Rattle.regex_hir.specs.Meaning.{meaning}
use Rattle.sec_ops.proofs.GateLemmas.{are_same, follows}
use Rattle.sec_ops.proofs.gates.lower_gate.Goals as goal

pub returns-in-Some-2 : goal.returns-in-Some-2
returns-in-Some-2 c =
    let sign = c.in-Some.sign in
    let needles = needles_of sign.needles in
    let same = are_same c.in_ok-needles.field-0 needles c.in-Some-2.needles c.in_ok-needles.ensures.needles c.in-Some-2.is in
    rw same (follows (meaning c.args.hir.now) (meaning sign.head) (meaning sign.tail) needles (rw c.in-Some.is at c.in_ok-sign.ensures.follows))
