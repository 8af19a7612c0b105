use Rattle.std.proofs.Common.{◌≡◌, ◌++◌, take}
use Rattle.std.specs.List.{flat_map}
use Rattle.sec_ast.specs.PrintOperators.{phrase_byte}
use Rattle.sec_ast.proofs.print_operators.put_phrase.Given as goal

abbrev pub invariant-loop-byte : goal.invariant-loop-byte
invariant-loop-byte l = l.out ≡ l.fn.out ++ flat_map phrase_byte (take l.byte-index l.phrase)
