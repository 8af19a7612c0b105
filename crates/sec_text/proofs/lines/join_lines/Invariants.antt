use Rattle.std.proofs.Common.{◌≡◌, ◌≤◌, ◌+◌, length}
use Rattle.std.specs.Prelude.{option_copied}
use Rattle.sec_text.specs.Lines.{logical, physical_from}
use Rattle.sec_text.specs.Joining.{made, parts, left}
use Rattle.sec_text.proofs.lines.join_lines.Given as goal

abbrev pub invariant-loop-rest : goal.invariant-loop-rest
invariant-loop-rest l = record {
  joined : made l.joining (physical_from l.number (parts (option_copied l.rest))) ≡ logical l.text;
  counted : l.number + left (option_copied l.rest) ≤ length l.text + 2;
}

abbrev pub decreases-loop-rest : goal.decreases-loop-rest
decreases-loop-rest l = left (option_copied l.rest)
