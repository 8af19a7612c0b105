use Rattle.std.proofs.Common.{◌≡◌, map, take}
use Rattle.sec_transforms.proofs.alphabets.mapped.Given as goal

abbrev pub invariant-loop-byte : goal.invariant-loop-byte
invariant-loop-byte g l = l.out ≡ map g.A.Alphabet.image (take l.byte-index l.value)
