use Rattle.spop_frame.proofs.Bodies.{frame_spelled}
use Rattle.spop_frame.proofs.Spellings.{frame_read}
use Rattle.spop_frame.proofs.law.frame_is_spelled.Goals as goal

pub returns : goal.returns
returns c = record { found = frame_read; spelled = frame_spelled }
