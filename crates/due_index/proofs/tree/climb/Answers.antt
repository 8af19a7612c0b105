use Rattle.std.proofs.Common.{◌∙◌, ap, arith}
use Rattle.due_index.specs.Tree.{below}
use Rattle.due_index.proofs.Settling.{settles, fits_set}
use Rattle.due_index.proofs.tree.climb.Goals as goal

pub loop-at-preserved : goal.loop-at-preserved
loop-at-preserved c =
    let held = c.args.held.now in let firsts = c.loop-at.firsts.items in let at = c.loop-at.at in
    let kept = c.loop-at.invariant in
    let first = c.below.ensures ∙ ap (λ f. below held f at) c.deref.ensures.value in
    record {
      fits = fits_set held firsts at c.below.result kept.fits;
      inner = omega arith;
      rest = settles held firsts at c.below.result kept.fits (omega arith) kept.inner kept.rest first;
    }
