use Rattle.std.proofs.Common.{◌≤◌, ◌+◌, ◌-◌, length}
use Rattle.agent_main.specs.declared.script.TheConstants.{SCRIPT_LIMIT}
use Rattle.agent_main.proofs.Taking.{Told}
use Rattle.agent_main.proofs.script.take.Given as goal

abbrev pub invariant-loop-buffer : goal.invariant-loop-buffer
invariant-loop-buffer g l =
    let source = g.S.Source in
    record {
      told : Told (source.left l.fn.input) l.text (source.left l.input);
      later : source.faults l.fn.input ≤ source.faults l.input;
    }

abbrev pub decreases-loop-buffer : goal.decreases-loop-buffer
decreases-loop-buffer g l = SCRIPT_LIMIT + 1 - length l.text
