use Rattle.std.proofs.Common.{suc, length, arith}
use Rattle.sec_parts.specs.Macros.{macro_of, part_at}
use Rattle.sec_parts.proofs.Loops.{starts, goes_on}
use Rattle.sec_parts.proofs.macros.read_macro.Goals as goal

pub loop-parts-init : goal.loop-parts-init
unfolding macro_of
loop-parts-init c = record {
  goes = rw c.new-parts.ensures (starts part_at (λ rest. length rest) (suc (length c.args.text.now)) c.args.text.now (omega arith));
  ends = c.count_after_last_close-tail.ensures.tail;
}

pub loop-parts-preserved : goal.loop-parts-preserved
loop-parts-preserved c =
    let step = rw c.in-Some.is at c.in_ok-part.ensures.part in
    let less = rw c.in-Some.is at c.in_ok-part.ensures.shorter in
    record {
      goes = rw c.in_ok-push.ensures.ok (goes_on part_at (λ rest. length rest) c.loop-parts.rest.now c.in-Some.after.now c.loop-parts.parts c.in-Some.part (macro_of c.args.text.now) c.loop-parts.invariant.goes step less);
      ends = rw c.in-Some.is at c.in_ok-part.ensures.rest;
    }
