use Rattle.std.proofs.Common.{◌≡◌, ◌+◌, ◌-◌, ◌≤◌, length, take}
use Rattle.regex_literal.specs.Find.{AnyOccursAt, Nowhere}
use Rattle.phrase_set.proofs.Nearer.{IsBest}
use Rattle.phrase_set.proofs.joint.first_end_of.Given as goal

abbrev pub invariant-loop-best : goal.invariant-loop-best
invariant-loop-best l = record {
  front : l.front ≡ take (length l.front) l.text;
  within : length l.front ≤ length l.text;
  fits : l.from ≤ length l.front;
  none : Nowhere (AnyOccursAt l.front l.needles) 0 l.from;
  best : IsBest l.needles l.text (length l.front) l.best;
}

abbrev pub decreases-loop-best : goal.decreases-loop-best
decreases-loop-best l = length l.front + (length l.text - l.from)
