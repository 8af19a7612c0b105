use Rattle.phrase_set.proofs.PhraseLaw.{first_end_is}
use Rattle.sec_ops.proofs.laws.phrases_end_first.Goals as goal

pub returns : goal.returns
returns c = first_end_is
