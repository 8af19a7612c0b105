use Rattle.std.proofs.Common.{arith}
use Rattle.sec_ast.proofs.Written.{line_end}
use Rattle.sec_ast.proofs.print_texts.put_line.Goals as goal

pub returns : goal.returns
returns c =
    line_end c.push.result c.args.out.now c.args.name.now c.loop-word.out c.push.new.self c.args.words.now c.loop-word.word-index
    (omega arith) c.loop-word.invariant c.push.ensures.ok
