use Rattle.spop_varint.proofs.Splits.{split_again, split_spells}
use Rattle.spop_varint.proofs.law.one_reading.Goals as goal

pub returns : goal.returns
returns c = record { again = split_again; spelled = split_spells }
