use Rattle.std.proofs.Common.{◌≡◌, ◌≤◌, ◌+◌, length}
use Rattle.replay_text.specs.Opened.{Flags}
use Rattle.replay_text.specs.Script.{commands_from, lines_of, opened_by, script}
use Rattle.replay_text.proofs.script.read_script.Given as goal

abbrev pub invariant-loop-rest : goal.invariant-loop-rest
invariant-loop-rest l = record {
  read : commands_from l.commands (lines_of l.rest) ≡ script l.text;
  flags : Flags l.opened (opened_by l.commands);
  room : length l.commands + length l.rest ≤ length l.text;
}

abbrev pub decreases-loop-rest : goal.decreases-loop-rest
decreases-loop-rest l = length l.rest
