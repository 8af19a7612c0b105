use Rattle.std.proofs.Common.{◌≡◌, ◌++◌, map, take}
use Rattle.sec_ast.specs.PrintActions.{transform_text}
use Rattle.sec_ast.proofs.print_actions.add_transforms.Given as goal

abbrev pub invariant-loop-transform : goal.invariant-loop-transform
invariant-loop-transform l = l.pieces ≡ l.fn.pieces ++ map transform_text (take l.transform-index l.transform-items)
