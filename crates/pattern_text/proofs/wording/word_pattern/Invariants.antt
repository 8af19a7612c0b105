use Rattle.std.proofs.Common.{◌≡◌, length}
use Rattle.pattern_text.specs.Wording.{after, worded, worded_from}
use Rattle.pattern_text.proofs.wording.word_pattern.Given as goal

abbrev pub invariant-loop-rest : goal.invariant-loop-rest
invariant-loop-rest l = after l.out (worded_from l.place 0 l.rest) ≡ worded l.pattern

abbrev pub decreases-loop-rest : goal.decreases-loop-rest
decreases-loop-rest l = length l.rest
