use Rattle.spop_data.proofs.Numbers.{counted}
use Rattle.spop_data.proofs.Types.{value}
use Rattle.spop_data.proofs.Laws.{pair, pairs}
use Rattle.spop_data.proofs.law.spelled_is_read.Goals as goal

pub returns : goal.returns
returns c = record { text = λ bytes rest text. counted.again bytes rest text; value = value.again; pair = pair.again; pairs = λ count. (pairs count).again }
