use Rattle.std.proofs.Common.{ap, ◌∙◌, Some}
use Rattle.sec_ops.specs.Pattern.{spans_of}
use Rattle.sec_ops.proofs.PatternLemmas.{spans_of_locations}
use Rattle.sec_ops.proofs.pattern.groups_in.Goals as goal

pub returns : goal.returns
returns c =
    let f = c.in-Some.ensures.found in
    let count = c.in-Some.ensures.count ∙ c.in_ok-locations.ensures.value in
    rw (← c.in_ok-matcher.ensures.pattern, f.1, c.in_ok-spans-in-Some.ensures)
    (ap Some (spans_of_locations f.0 c.captures_read.new.locations f.2.1 ∙ ap (λ n. spans_of n f.0) count))
