use Rattle.sec_text.specs.Words.{next_word}
use Rattle.sec_text.proofs.Readers.{one_more}
use Rattle.sec_text.proofs.Shrinking.{next_word-shorter}
use Rattle.sec_text.proofs.words.find_words.Goals as goal

pub loop-words-smaller : goal.loop-words-smaller
loop-words-smaller c =
    let step = rw c.in-Some.is at c.in_ok-word.ensures in
    next_word-shorter c.loop-words.rest.now c.in-Some.word c.in-Some.after.now step

pub loop-words-preserved : goal.loop-words-preserved
loop-words-preserved c =
    let step = rw c.in-Some.is at c.in_ok-word.ensures in
    rw c.in_ok-push.ensures.ok (one_more next_word c.args.line.now c.loop-words.words c.loop-words.rest.now c.in-Some.word c.in-Some.after.now c.loop-words.invariant step)
