use Rattle.std.proofs.Common.{◌≡◌, drop, map}
use Rattle.std.specs.List.{fold}
use Rattle.sec_transforms.specs.NormalizePath.{after, is_rooted, left_of}
use Rattle.sec_transforms.proofs.paths.of_pieces.Given as goal

abbrev pub invariant-loop-piece : goal.invariant-loop-piece
invariant-loop-piece l = record {
  left : fold (after (is_rooted l.value)) (map (λ p. p.now) l.left.items, l.dropped) (map (λ p. p.now) (drop l.piece-index l.piece-items)) ≡ left_of l.value;
}
