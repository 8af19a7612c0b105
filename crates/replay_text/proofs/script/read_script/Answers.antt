use Rattle.std.proofs.Common.{rules, ◌∙◌, sym}
use Rattle.replay_text.proofs.Lines.{goes_on, still_room, stops}
use Rattle.replay_text.proofs.script.read_script.Goals as goal

pub returns-in-None : goal.returns-in-None
returns-in-None c =
    sym c.loop-rest.invariant.read
    ∙ stops c.loop-rest.commands c.loop-rest.rest.now c.split_line.result.0.now c.split_line.result.1.now c.len.result (search rules)
    (sym c.in-None.is ∙ c.in_ok-next_command.ensures.next c.loop-rest.commands c.loop-rest.invariant.flags) (search rules)

pub loop-rest-preserved : goal.loop-rest-preserved
loop-rest-preserved c = record {
  read =
      rw c.in_ok-push-in-Some.ensures.ok
      (sym (goes_on c.loop-rest.commands c.in-Some.command c.loop-rest.rest.now c.split_line.result.0.now c.split_line.result.1.now (search rules)
      (sym c.in-Some.is ∙ c.in_ok-next_command.ensures.next c.loop-rest.commands c.loop-rest.invariant.flags))
      ∙ c.loop-rest.invariant.read);
  flags = rw c.in_ok-push-in-Some.ensures.ok (c.note.ensures c.loop-rest.commands c.loop-rest.invariant.flags);
  room =
      rw c.in_ok-push-in-Some.ensures.ok
      (still_room c.loop-rest.commands c.in-Some.command c.loop-rest.rest.now c.split_line.result.1.now c.args.text.now c.loop-rest.invariant.room (search rules));
}
