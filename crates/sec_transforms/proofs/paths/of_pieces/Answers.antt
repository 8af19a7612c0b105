use Rattle.std.proofs.Common.{[], List, ℕ, ap, ◌∙◌, take, arith}
use Rattle.sec_transforms.specs.NormalizePath.{after, is_rooted}
use Rattle.sec_transforms.proofs.Joins.{texts, fold_turn, fold_end, path_is}
use Rattle.sec_transforms.proofs.paths.of_pieces.Goals as goal

pub loop-piece-preserved : goal.loop-piece-preserved
loop-piece-preserved c =
    let step = rw c.starts_at_root-rooted.ensures at (c.in_ok-dropped.ensures c.loop-piece.dropped) in
    record {
      left = fold_turn (after (is_rooted c.args.value.now)) (texts c.loop-piece.left.items, c.loop-piece.dropped) _ _ c.deref-piece-items.result.now c.loop-piece.piece-index record { ref_ptr = (0, 0); now = [] } (omega arith) c.loop-piece.invariant.left step;
    }

pub returns : goal.returns
returns c =
    let left = fold_end (after (is_rooted c.args.value.now)) (texts c.loop-piece.left.items, c.loop-piece.dropped) _ c.deref-piece-items.result.now c.loop-piece.piece-index (omega arith) c.loop-piece.invariant.left in
    let kept = ap texts c.as_slice.ensures.value in
    let out = c.in_ok-out.ensures in
    c.truncate.ensures ∙ ap (take 1048576) (path_is c.args.value.now c.in_ok-out.out c.starts_at_root-rooted.result c.loop-piece.dropped (texts c.as_slice.result.now) c.starts_at_root-rooted.ensures (ap (λ (l : List (List ℕ)). (l, c.loop-piece.dropped)) kept ∙ left) out)
