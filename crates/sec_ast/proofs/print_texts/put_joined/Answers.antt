use Rattle.std.proofs.Common.{ℕ, List, arith, rules, ◌∙◌, ap, ◌++◌}
use Rattle.sec_ast.proofs.Turns.{begun, join_turn, join_end}
use Rattle.sec_ast.proofs.print_texts.put_joined.Goals as goal

pub loop-piece-init : goal.loop-piece-init
loop-piece-init c = begun c.args.byte c.args.out.now c.append.new.self c.in-Some.first.now c.in-Some.others.now c.args.pieces.now (search rules) (search rules)

pub loop-piece-preserved : goal.loop-piece-preserved
loop-piece-preserved c =
    join_turn c.args.byte c.loop-piece.out c.push.new.self _ _ c.in-Some.others.now c.loop-piece.piece-index c.piece-item.result (omega arith) c.loop-piece.invariant c.in_ok-push.ensures.ok (c.in_ok-append-2.ensures.ok ∙ ap (λ (l : List ℕ). c.push.new.self ++ l) (c.as_slice-in-loop-piece.ensures ∙ c.piece-item.is))

pub returns : goal.returns
returns c = join_end c.args.byte c.loop-piece.out _ c.in-Some.others.now c.loop-piece.piece-index (omega arith) c.loop-piece.invariant
