use Rattle.std.proofs.Common.{Some, sym, ◌∙◌, arith}
use Rattle.sec_text.proofs.QuotedSteps.{onto-step, quoted_byte-shorter}
use Rattle.sec_text.proofs.quotes.read_quoted.Goals as goal

pub loop-byte-preserved : goal.loop-byte-preserved
loop-byte-preserved c =
    let step = rw c.in-Some-byte.is at c.in-Some.ensures in
    record {
      text = rw c.in_ok-push.ensures.ok (onto-step c.args.quote c.loop-byte.text c.loop-byte.rest.now c.in-Some.after.now c.in-Some-byte.byte (sym step) ∙ c.loop-byte.invariant.text);
      within = omega (arith, quoted_byte-shorter c.args.quote c.loop-byte.rest.now (Some c.in-Some-byte.byte, c.in-Some.after.now) (sym step), c.loop-byte.invariant.within);
    }
