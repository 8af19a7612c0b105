use Rattle.std.proofs.Common.{◌≡◌, ◌+◌, ◌≤◌, length, arith, ◌∙◌, ap, length-append}
use Rattle.spop_varint.proofs.Tails.{eight, spell_more, room_more}
use Rattle.spop_varint.proofs.write.spell.Goals as goal

pub loop-rest-preserved : goal.loop-rest-preserved
loop-rest-preserved c =
    let out = c.loop-rest.out.items in
    let more = c.push-in-loop-rest.new.self.items in
    let is = c.push-in-loop-rest.ensures.items in
    let kept = c.loop-rest.invariant in
    let low = c.loop-rest-test.true in
    let size : length more ≡ length out + 1 = ap length is ∙ length-append out _ in
    let few : length out ≤ 8 = eight (length out) c.loop-rest.rest c.args.value kept.most low kept.room (omega arith) in
    record {
      completes = spell_more out more c.loop-rest.rest c.args.value is low kept.some kept.completes;
      room = room_more out more c.loop-rest.rest c.args.value is low kept.some kept.room;
      some = omega arith;
      most = omega arith;
    }
