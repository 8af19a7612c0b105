use Rattle.spop_data.proofs.Written.{number, text, value, pair}
use Rattle.spop_data.proofs.law.written_is_spelled.Goals as goal

pub returns : goal.returns
returns c = record { number = number; text = text; value = value; pair = pair }
