use Rattle.spop_talk.proofs.Messages.{messages_again}
use Rattle.spop_talk.proofs.law.messages_are_read.Goals as goal

pub returns : goal.returns
returns c = messages_again
