use Rattle.sec_meaning.proofs.matching.matches_of.Goals as goal

pub returns : goal.returns
returns c = rw (c.as_slice.ensures, c.in_ok-argument.ensures, c.as_slice-2.ensures, c.in_ok-rows.ensures) at c.matches_in.ensures
