use Rattle.std.proofs.Common.{◌≡◌, ◌++◌, length}
use Rattle.sec_ast.specs.PrintRules.{lines_behind, rule_text}
use Rattle.sec_ast.proofs.print_rules.put_rule.Given as goal

abbrev pub invariant-loop-link : goal.invariant-loop-link
invariant-loop-link l = l.out ++ lines_behind l.pieces l.left ≡ l.fn.out ++ rule_text l.rule

abbrev pub decreases-loop-link : goal.decreases-loop-link
decreases-loop-link l = length l.left
