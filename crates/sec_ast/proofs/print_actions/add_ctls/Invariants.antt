use Rattle.std.proofs.Common.{◌≡◌, ◌++◌, map, take}
use Rattle.sec_ast.specs.PrintActions.{ctl_text}
use Rattle.sec_ast.proofs.print_actions.add_ctls.Given as goal

abbrev pub invariant-loop-ctl : goal.invariant-loop-ctl
invariant-loop-ctl l = l.pieces ≡ l.fn.pieces ++ map ctl_text (take l.ctl-index l.ctl-items)
