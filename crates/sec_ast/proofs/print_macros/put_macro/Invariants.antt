use Rattle.std.proofs.Common.{◌≡◌, ◌++◌, take}
use Rattle.std.specs.List.{flat_map}
use Rattle.sec_ast.specs.PrintMacros.{part_text}
use Rattle.sec_ast.proofs.print_macros.put_macro.Given as goal

abbrev pub invariant-loop-part : goal.invariant-loop-part
invariant-loop-part l = l.out ≡ l.fn.out ++ flat_map part_text (take l.part-index l.part-items)
