use Rattle.std.proofs.Common.{rules}
use Rattle.web_parts.proofs.Ends.{return_dropped, return_kept}
use Rattle.web_parts.proofs.headers.without_return.Goals as goal

pub returns-then-last-eq-CR : goal.returns-then-last-eq-CR
returns-then-last-eq-CR c = return_dropped c.in-Some.last.now c.args.line.now c.in-Some.front.now c.in-Some.ensures.cases.0 (search rules)

pub returns-else-last-eq-CR : goal.returns-else-last-eq-CR
returns-else-last-eq-CR c = return_kept c.in-Some.last.now c.args.line.now c.in-Some.front.now c.in-Some.ensures.cases.0 (search rules)
