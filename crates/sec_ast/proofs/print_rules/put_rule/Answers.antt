use Rattle.sec_ast.proofs.Written.{line_turn, lines_end}
use Rattle.sec_ast.proofs.print_rules.put_rule.Goals as goal

pub loop-link-preserved : goal.loop-link-preserved
loop-link-preserved c =
    line_turn c.loop-link.out c.put_link.new.out _ c.loop-link.pieces c.new-pieces.result c.in-Some.link.now c.in-Some.rest.now c.loop-link.left.now
    c.is_more.result c.in-Some.ensures.cases.0 c.is_more.ensures c.new-pieces.ensures c.in_ok-put_link.ensures c.loop-link.invariant

pub returns : goal.returns
returns c = lines_end c.loop-link.out _ c.loop-link.pieces c.loop-link.left.now c.in_default.ensures.cases c.loop-link.invariant
