use Rattle.std.proofs.Common.{◌∙◌, sym, arith}
use Rattle.std.proofs.lemmas.List.{drop_all}
use Rattle.sec_ops.specs.Hits.{hit}
use Rattle.sec_eval.proofs.Searches.{begun, ended, leads_on, led, next_found, next_leads}
use Rattle.sec_eval.proofs.search.search_each.Goals as goal

pub loop-transform-init : goal.loop-transform-init
loop-transform-init c = record {
  same = c.search_in.ensures.same;
  found = rw c.as_slice-transform-items.ensures (begun _ _ c.args.value.now _ c.in_ok-search.ensures.found c.in_ok-search.ensures.missed);
  missed = rw c.as_slice-transform-items.ensures (leads_on _ c.args.value.now _ c.in_ok-search.ensures.missed);
}

pub loop-transform-preserved : goal.loop-transform-preserved
loop-transform-preserved c = record {
  same = c.search_on.ensures.same ∙ c.loop-transform.invariant.same;
  found = next_found _ c.as_slice-transform-items.result.now c.loop-transform.transform-index _ c.loop-transform.search _ _ (omega arith) c.loop-transform.invariant.found (rw c.loop-transform.invariant.same at c.in_ok-search-2.ensures.found);
  missed = next_leads c.as_slice-transform-items.result.now c.loop-transform.transform-index _ c.loop-transform.search _ _ (omega arith) c.loop-transform.invariant.missed c.in_ok-search-2.ensures.missed;
}

pub returns-clause-found : goal.returns-clause-found
returns-clause-found c =
    let gone = drop_all c.loop-transform.transform-index c.as_slice-transform-items.result.now c.loop-transform-test.false in
    sym (ended (hit c.args.asker.now.op c.args.argument.now) c.loop-transform.search) ∙ rw gone at c.loop-transform.invariant.found

pub returns-clause-missed : goal.returns-clause-missed
returns-clause-missed c =
    let gone = drop_all c.loop-transform.transform-index c.as_slice-transform-items.result.now c.loop-transform-test.false in
    led _ c.loop-transform.search (rw gone at c.loop-transform.invariant.missed)
