use Rattle.std.proofs.Common.{◌≡◌, ◌++◌, take}
use Rattle.std.specs.List.{flat_map}
use Rattle.spop_talk.specs.Ack.{action_bytes}
use Rattle.spop_talk.proofs.ack.put_actions.Given as goal

abbrev pub invariant-loop-action : goal.invariant-loop-action
invariant-loop-action l = l.out ≡ l.fn.out ++ flat_map action_bytes (take l.action-index l.actions)
