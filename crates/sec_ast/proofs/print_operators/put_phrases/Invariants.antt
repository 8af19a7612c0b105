use Rattle.std.proofs.Common.{◌≡◌, ◌++◌, drop, map}
use Rattle.std.specs.List.{join_with_byte}
use Rattle.sec_ast.specs.PrintOperators.{phrase_text}
use Rattle.sec_ast.proofs.Turns.{tails}
use Rattle.sec_ast.proofs.print_operators.put_phrases.Given as goal

abbrev pub invariant-loop-phrase : goal.invariant-loop-phrase
invariant-loop-phrase l = l.out ++ tails 32 (map phrase_text (drop l.phrase-index l.others)) ≡ l.fn.out ++ join_with_byte 32 (map phrase_text l.phrases)
