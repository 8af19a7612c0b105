use Rattle.std.proofs.Common.{ap, not}
use Rattle.replay_text.specs.Script.{opened_by}
use Rattle.replay_text.proofs.script.is_in_order.Goals as goal

pub returns-in-Open : goal.returns-in-Open
returns-in-Open c = λ past flags. rw c.in-Open.is (ap not (c.has.ensures (opened_by past) flags))

pub returns-in-Feed : goal.returns-in-Feed
returns-in-Feed c = λ past flags. rw c.in-Feed.is (c.has-in-Feed.ensures (opened_by past) flags)

pub returns-in-End : goal.returns-in-End
returns-in-End c = λ past flags. rw c.in-End.is (c.has-in-End.ensures (opened_by past) flags)

pub returns-in-Act : goal.returns-in-Act
returns-in-Act c = λ past flags. rw c.in-Act.is (c.has-in-Act.ensures (opened_by past) flags)
