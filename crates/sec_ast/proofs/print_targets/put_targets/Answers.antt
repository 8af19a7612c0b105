use Rattle.std.proofs.Common.{arith, rules, ap, ◌∙◌, ◌++◌, ◌∷◌}
use Rattle.sec_ast.specs.PrintTargets.{target_text, targets_text}
use Rattle.sec_ast.specs.declared.target.Target.{Target}
use Rattle.sec_ast.proofs.Turns.{map_begun, map_turn, map_end}
use Rattle.sec_ast.proofs.print_targets.put_targets.Goals as goal

pub loop-target-init : goal.loop-target-init
unfolding targets_text
loop-target-init c = map_begun target_text 124 c.args.out.now c.put_target.new.out c.in-Some.first.now c.in-Some.others.now c.args.targets.now (search rules) c.in_ok-put_target.ensures

pub loop-target-preserved : goal.loop-target-preserved
loop-target-preserved c =
    map_turn target_text 124 c.loop-target.out c.put_further_target.new.out _ c.in-Some.others.now c.loop-target.target-index c.target-item.result (omega arith) c.loop-target.invariant
    (c.in_ok-put_further_target.ensures ∙ ap (λ (t : Target). c.loop-target.out ++ (124 ∷ target_text t)) c.target-item.is)

pub returns : goal.returns
returns c = map_end target_text 124 c.loop-target.out _ c.in-Some.others.now c.loop-target.target-index (omega arith) c.loop-target.invariant
