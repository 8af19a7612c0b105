use Rattle.std.proofs.Common.{◌<◌, length, List, ◌∙◌, ap}
use Rattle.spop_data.specs.Lists.{all_of}
use Rattle.spop_data.proofs.Items.{after, smaller, after_one, left_bytes}
use Rattle.spop_talk.specs.Message.{SpellsMessage}
use Rattle.spop_talk.specs.Reading.{message_at}
use Rattle.spop_talk.specs.declared.message.Message.{Message}
use Rattle.spop_talk.proofs.Messages.{message, some, not_empty}
use Rattle.spop_talk.proofs.message.messages_in.Goals as goal

pub loop-rest-smaller : goal.loop-rest-smaller
loop-rest-smaller c =
    smaller message_at SpellsMessage message some c.loop-rest.rest.now c.in_ok-message.message c.in_ok-message.more.now c.loop-rest.invariant.bytes c.in_ok-message.ensures

pub loop-rest-preserved : goal.loop-rest-preserved
loop-rest-preserved c =
    let rest = c.loop-rest.rest.now in
    let x = c.in_ok-message.message in
    let more = c.in_ok-message.more.now in
    let all = c.loop-rest.invariant.bytes in
    let has : 0 < length rest = not_empty rest c.is_empty.result c.loop-rest-test.true c.is_empty.ensures in
    record {
      left = ap (λ (ms : List Message). after ms (all_of message_at more)) c.in_ok-push.ensures.ok
          ∙ after_one message_at SpellsMessage message some c.loop-rest.messages rest x more all has c.in_ok-message.ensures
          ∙ c.loop-rest.invariant.left;
      bytes = left_bytes message_at SpellsMessage message some rest x more all c.in_ok-message.ensures;
    }
