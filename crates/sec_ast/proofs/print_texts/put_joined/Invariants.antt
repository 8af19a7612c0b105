use Rattle.std.proofs.Common.{◌≡◌, ◌++◌, drop}
use Rattle.std.specs.List.{join_with_byte}
use Rattle.sec_ast.proofs.Turns.{tails}
use Rattle.sec_ast.proofs.print_texts.put_joined.Given as goal

abbrev pub invariant-loop-piece : goal.invariant-loop-piece
invariant-loop-piece l = l.out ++ tails l.byte (drop l.piece-index l.others) ≡ l.fn.out ++ join_with_byte l.byte l.pieces
