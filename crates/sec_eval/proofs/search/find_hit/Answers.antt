use Rattle.sec_ops.specs.Hits.{hit}
use Rattle.sec_eval.proofs.Searches.{tested_each}
use Rattle.sec_eval.proofs.search.find_hit.Goals as goal

pub returns-then-link-clause-found : goal.returns-then-link-clause-found
returns-then-link-clause-found c =
    tested_each c.search_each.result (hit c.args.asker.now.op c.args.argument.now) c.args.link.now c.args.value.now c.if-link.true c.search_each.ensures.found
