use Rattle.std.proofs.Common.{◌≡◌, ◌++◌, drop, map}
use Rattle.std.specs.List.{join_with_byte}
use Rattle.sec_transforms.proofs.Joins.{tails}
use Rattle.sec_transforms.proofs.paths.join.Given as goal

abbrev pub invariant-loop-piece : goal.invariant-loop-piece
invariant-loop-piece l = l.out ++ tails (map (λ p. p.now) (drop l.piece-index l.others)) ≡ l.fn.out ++ join_with_byte 47 (map (λ p. p.now) l.left)
