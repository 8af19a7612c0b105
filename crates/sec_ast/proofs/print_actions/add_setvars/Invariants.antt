use Rattle.std.proofs.Common.{◌≡◌, ◌++◌, map, take}
use Rattle.sec_ast.specs.PrintActions.{setvar_text}
use Rattle.sec_ast.proofs.print_actions.add_setvars.Given as goal

abbrev pub invariant-loop-setvar : goal.invariant-loop-setvar
invariant-loop-setvar l = l.pieces ≡ l.fn.pieces ++ map setvar_text (take l.setvar-index l.setvar-items)
