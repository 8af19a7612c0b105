use Rattle.std.proofs.Common.{◌≡◌, drop}
use Rattle.sec_text.specs.Lines.{first_long}
use Rattle.sec_text.proofs.lines.find_long.Given as goal

abbrev pub invariant-loop-line : goal.invariant-loop-line
invariant-loop-line l = first_long (drop l.line-index l.lines) ≡ first_long l.lines
