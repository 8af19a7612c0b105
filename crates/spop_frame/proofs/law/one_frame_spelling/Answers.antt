use Rattle.spop_frame.proofs.Spellings.{frame_is}
use Rattle.spop_frame.proofs.law.one_frame_spelling.Goals as goal

pub returns : goal.returns
returns c = frame_is
