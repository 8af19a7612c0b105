use Rattle.command_line.proofs.Texts.{left_more, none_left, taken_more}
use Rattle.command_line.proofs.words.texts_in.Goals as goal

pub returns-in_default : goal.returns-in_default
returns-in_default c =
    none_left c.args.words.now c.loop-word.word-index c.word-item.result c.as_slice.result.now
    c.loop-word-test.true c.word-item.is c.as_slice.ensures c.in_default.ensures.cases.0 c.loop-word.invariant.left

pub loop-word-preserved : goal.loop-word-preserved
loop-word-preserved c =
    let words = c.args.words.now in
    let i = c.loop-word.word-index in
    let within = c.loop-word-test.true in
    record {
      taken = taken_more words i _ _ within c.word-item.is c.as_slice.ensures (λ text. text.now)
          c.loop-word.texts.items c.push.new.self.items c.in-Ok.text c.in-Ok.ensures.cases.0 c.in_ok-push.ensures.items c.loop-word.invariant.taken;
      left = left_more words i _ _ within c.word-item.is c.as_slice.ensures c.in-Ok.ensures.cases.1 c.loop-word.invariant.left;
    }
