use Rattle.std.proofs.Common.{length}
use Rattle.sec_parts.specs.Macros.{EndsAfterLast, macro_of, part_at}
use Rattle.sec_parts.proofs.Loops.{Goes}
use Rattle.sec_parts.proofs.macros.read_macro.Given as goal

abbrev pub invariant-loop-parts : goal.invariant-loop-parts
invariant-loop-parts l = record {
  goes : Goes part_at (λ rest. length rest) l.rest l.parts (macro_of l.text);
  ends : EndsAfterLast l.tail l.rest;
}

abbrev pub decreases-loop-parts : goal.decreases-loop-parts
decreases-loop-parts l = length l.rest
