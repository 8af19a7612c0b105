use Rattle.regex_extract.specs.Needles.{needles_of}
use Rattle.regex_hir.specs.Meaning.{meaning}
use Rattle.sec_ops.proofs.GateLemmas.{are_same, contained}
use Rattle.sec_ops.proofs.gates.exact_gate.Goals as goal

pub returns-in-Some-2 : goal.returns-in-Some-2
returns-in-Some-2 c =
    let needles = needles_of c.in-Some.needles in
    let same = are_same c.in_ok-needles-2.field-0 needles c.in-Some-2.needles c.in_ok-needles-2.ensures.needles c.in-Some-2.is in
    rw same (contained (meaning c.args.hir.now) needles (rw c.in-Some.is at c.in_ok-needles.ensures.contains))
