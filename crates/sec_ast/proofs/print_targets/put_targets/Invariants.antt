use Rattle.std.proofs.Common.{◌≡◌, ◌++◌, drop, map}
use Rattle.sec_ast.specs.PrintTargets.{target_text, targets_text}
use Rattle.sec_ast.proofs.Turns.{tails}
use Rattle.sec_ast.proofs.print_targets.put_targets.Given as goal

abbrev pub invariant-loop-target : goal.invariant-loop-target
invariant-loop-target l = l.out ++ tails 124 (map target_text (drop l.target-index l.others)) ≡ l.fn.out ++ targets_text l.targets
