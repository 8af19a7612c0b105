use Rattle.std.proofs.Common.{◌≡◌, ◌++◌, drop}
use Rattle.sec_transforms.specs.CmdLine.{cmd_line, to_come}
use Rattle.sec_transforms.proofs.command.line_of.Given as goal

abbrev pub invariant-loop-byte : goal.invariant-loop-byte
invariant-loop-byte l = l.line.out ++ to_come l.line.space (drop l.byte-index l.value) ≡ cmd_line l.value
