use Rattle.spop_talk.proofs.Acks.{ack_again}
use Rattle.spop_talk.proofs.law.ack_again.Goals as goal

pub returns : goal.returns
returns c = ack_again
