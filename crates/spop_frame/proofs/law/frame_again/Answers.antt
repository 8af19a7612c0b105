use Rattle.spop_frame.proofs.Heads.{frame_again}
use Rattle.spop_frame.proofs.law.frame_again.Goals as goal

pub returns : goal.returns
returns c = frame_again
