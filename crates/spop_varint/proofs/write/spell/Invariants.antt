use Rattle.std.proofs.Common.{◌-◌, ◌≡◌, ◌≤◌, ◌*◌, ◌^◌, List, ℕ, ◌++◌, length}
use Rattle.spop_varint.specs.Varint.{Spells, IsTail, weighed}
use Rattle.spop_varint.proofs.write.spell.Given as goal

-- whatever stands for the rest completes the number
abbrev pub invariant-loop-rest : goal.invariant-loop-rest
invariant-loop-rest l = record {
  completes : (bs : List ℕ) → IsTail bs → weighed (7 * length l.out.items - 3) bs ≡ l.rest * 2 ^ (7 * length l.out.items - 3) → Spells (l.out.items ++ bs) l.value;
  room : l.rest * 2 ^ (7 * length l.out.items - 3) ≤ l.value;
  some : 1 ≤ length l.out.items;
  most : length l.out.items ≤ 9;
}

abbrev pub decreases-loop-rest : goal.decreases-loop-rest
decreases-loop-rest l = l.rest
