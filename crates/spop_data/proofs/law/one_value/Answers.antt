use Rattle.spop_data.specs.Data.{SpellsData, SpellsPair}
use Rattle.spop_data.specs.Reading.{data_at, pair_at}
use Rattle.spop_data.proofs.Steps.{apart}
use Rattle.spop_data.proofs.Types.{value}
use Rattle.spop_data.proofs.Laws.{pair}
use Rattle.spop_data.proofs.law.one_value.Goals as goal

pub returns : goal.returns
returns c = record { values = apart data_at SpellsData value; pairs = apart pair_at SpellsPair pair }
