use Rattle.sec_ops.proofs.askers.search_of.Goals as goal

pub returns : goal.returns
returns c = rw (c.in_ok-new.ensures.ok, c.in_ok-search.ensures) c.in-Some.ensures
