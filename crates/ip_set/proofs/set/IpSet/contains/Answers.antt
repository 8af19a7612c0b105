use Rattle.std.proofs.Common.{◌≡◌, ◌∙◌}
use Rattle.ip_set.proofs.Computed.{result_is}
use Rattle.ip_set.proofs.set.IpSet.contains.Goals as goal

pub returns-clause-test : goal.returns-clause-test
returns-clause-test c =
    let same : c.as_slice.result.now ≡ c.args.self.now = c.as_slice.ensures ∙ c.self.view_is in
    result_is c.args.self.now c.args.text.now c.is_covered.result (rw same at c.is_covered.ensures)
