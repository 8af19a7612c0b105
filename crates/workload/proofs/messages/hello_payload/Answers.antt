use Rattle.workload.specs.Messages.{hello_payload}
use Rattle.workload.proofs.Joined.{three}
use Rattle.workload.proofs.messages.hello_payload.Goals as goal

pub returns : goal.returns
unfolding hello_payload
returns c =
    three c.new-payload.result c.put_text.new.out c.put_number.new.out c.put_text-2.new.out _ _ _ c.new-payload.ensures c.in_ok-put_text.ensures c.in_ok-put_number.ensures c.in_ok-put_text-2.ensures
