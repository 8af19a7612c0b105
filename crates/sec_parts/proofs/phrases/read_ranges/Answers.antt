use Rattle.std.proofs.Common.{suc, length, arith}
use Rattle.sec_parts.specs.Phrases.{is_parting, next_word, range, ranges_of}
use Rattle.sec_parts.proofs.Loops.{starts, goes_on}
use Rattle.sec_parts.proofs.phrases.read_ranges.Goals as goal

pub loop-words-init : goal.loop-words-init
unfolding ranges_of
loop-words-init c =
    rw c.new-words.ensures (starts (next_word is_parting range) (λ rest. length rest) (suc (length c.args.argument.now)) c.args.argument.now (omega arith))

pub loop-words-preserved : goal.loop-words-preserved
loop-words-preserved c =
    let step = rw c.in-Some.is at c.in_ok-word.ensures.part in
    let less = rw c.in-Some.is at c.in_ok-word.ensures.shorter in
    rw c.in_ok-push.ensures.ok (goes_on (next_word is_parting range) (λ rest. length rest) c.loop-words.rest.now c.in-Some.after.now c.loop-words.words c.in-Some.word (ranges_of c.args.argument.now) c.loop-words.invariant step less)
