use Rattle.std.proofs.Common.{◌≡◌, ◌++◌, take}
use Rattle.std.specs.List.{flat_map}
use Rattle.sec_ast.specs.PrintTexts.{spread}
use Rattle.sec_ast.proofs.print_texts.put_line.Given as goal

abbrev pub invariant-loop-word : goal.invariant-loop-word
invariant-loop-word l = l.out ≡ (l.fn.out ++ l.name) ++ flat_map (λ word. spread word.now) (take l.word-index l.words)
