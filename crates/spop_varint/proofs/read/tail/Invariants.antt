use Rattle.std.proofs.Common.{◌≡◌, ◌+◌, ◌*◌, ◌^◌, drop}
use Rattle.spop_varint.specs.Reading.{tail_at}
use Rattle.spop_varint.proofs.read.tail.Given as goal

abbrev pub invariant-loop-index : goal.invariant-loop-index
invariant-loop-index l = record {
  left : tail_at (l.index + 1) (7 * l.index + 4) l.sum (drop l.index l.bytes) ≡ tail_at 1 4 l.first l.bytes;
  weight : l.weight ≡ 2 ^ (7 * l.index + 4);
}
