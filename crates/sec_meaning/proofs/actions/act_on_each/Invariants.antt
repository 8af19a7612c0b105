use Rattle.std.proofs.Common.{◌≡◌, []}
use Rattle.std.specs.List.{fold}
use Rattle.sec_meaning.specs.Links.{act_on}
use Rattle.sec_meaning.proofs.actions.act_on_each.Given as goal

abbrev pub invariant-loop-row : goal.invariant-loop-row
invariant-loop-row g l =
    let seen = g.S.Transaction.seen in
    seen l.state ≡ fold (act_on l.link) (record (seen l.fn.state) { matched = [] }) l.yielded
