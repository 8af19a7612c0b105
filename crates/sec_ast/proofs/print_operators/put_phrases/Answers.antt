use Rattle.std.proofs.Common.{arith, rules, ap, ◌∙◌, ◌++◌, ◌∷◌, List, ℕ}
use Rattle.sec_ast.specs.PrintOperators.{phrase_text}
use Rattle.sec_ast.proofs.Turns.{map_begun, map_turn, map_end}
use Rattle.sec_ast.proofs.print_operators.put_phrases.Goals as goal

pub loop-phrase-init : goal.loop-phrase-init
loop-phrase-init c = map_begun phrase_text 32 c.args.out.now c.put_phrase.new.out c.in-Some.first.now c.in-Some.others.now c.args.phrases.now (search rules) (search rules)

pub loop-phrase-preserved : goal.loop-phrase-preserved
loop-phrase-preserved c =
    map_turn phrase_text 32 c.loop-phrase.out c.put_further_phrase.new.out _ c.in-Some.others.now c.loop-phrase.phrase-index c.phrase-item.result (omega arith) c.loop-phrase.invariant
    (c.in_ok-put_further_phrase.ensures ∙ ap (λ (l : List ℕ). c.loop-phrase.out ++ (32 ∷ phrase_text l)) (c.as_slice-in-loop-phrase.ensures ∙ c.phrase-item.is))

pub returns : goal.returns
returns c = map_end phrase_text 32 c.loop-phrase.out _ c.in-Some.others.now c.loop-phrase.phrase-index (omega arith) c.loop-phrase.invariant
