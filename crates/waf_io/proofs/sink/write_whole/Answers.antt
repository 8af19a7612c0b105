use Rattle.std.proofs.Common.{refl, List, ℕ, ◌++◌, take, arith, ap, ◌∙◌, append_assoc}
use Rattle.waf_io.proofs.Adds.{adds_both, split_rest}
use Rattle.waf_io.proofs.sink.write_whole.Goals as goal

pub loop-rest-preserved : goal.loop-rest-preserved
loop-rest-preserved g c =
    let kept = c.loop-rest.invariant in
    let n = c.in-Bytes.count in
    let rest = c.loop-rest.rest.now in
    record {
      front = (kept.front.0 ++ take n rest, append_assoc kept.front.0 (take n rest) _ ∙ ap (λ (l : List ℕ). kept.front.0 ++ l) (split_rest rest n _ refl) ∙ kept.front.1, adds_both _ _ _ _ _ kept.front.2 c.in-Bytes.ensures.bytes.2);
      later = omega (arith, kept.later, c.in-Bytes.ensures.later);
    }
