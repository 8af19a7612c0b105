use Rattle.std.proofs.Common.{◌≡◌, ◌∷◌, drop, length, ap, sym, ◌∙◌, arith, length-drop}
use Rattle.sec_decoders.proofs.Kept.{kept_more}
use Rattle.sec_transforms.specs.Whitespace.{run}
use Rattle.sec_transforms.proofs.whitespace.spaced_len.Goals as goal

pub loop-count-preserved : goal.loop-count-preserved
loop-count-preserved c =
    let text = c.args.text.now in
    let s = c.stands.ensures c.loop-count-test.true in
    let parts : drop c.loop-count.count text ≡ s.0 ∷ s.1 = sym c.split_at.ensures.back ∙ s.2 in
    let front : run (s.0 ∷ s.1) ≡ run c.split_at.result.1.now = ap run (sym s.2) in
    record {
      within = omega (arith, length-drop c.loop-count.count text, ap length parts);
      kept = kept_more run c.loop-count.count s.0 s.1 text c.loop-count.invariant.kept parts (front ∙ s.3);
    }
