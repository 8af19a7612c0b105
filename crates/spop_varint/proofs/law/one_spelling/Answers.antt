use Rattle.spop_varint.proofs.Laws.{apart, short_enough, unique}
use Rattle.spop_varint.proofs.Spelling.{spelled, spelling_is}
use Rattle.spop_varint.proofs.law.one_spelling.Goals as goal

pub returns : goal.returns
returns c = record { apart = apart; unique = unique; spelled = spelled; written = spelling_is; short = short_enough }
