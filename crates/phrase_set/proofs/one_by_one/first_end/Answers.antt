use Rattle.std.proofs.Common.{◌≡◌, ◌∙◌, ℕ, [], length, get_or, refl, subst, arith}
use Rattle.phrase_set.specs.Phrases.{IsFirstEnd, first_end}
use Rattle.phrase_set.proofs.Earliest.{same_item, first_end_turn}
use Rattle.phrase_set.proofs.one_by_one.first_end.Goals as goal

pub loop-phrase-init : goal.loop-phrase-init
unfolding first_end
loop-phrase-init c = record {
  first = λ place o. absurd (omega (arith, o.among));
  value = refl;
}

pub loop-phrase-preserved : goal.loop-phrase-preserved
loop-phrase-preserved c =
    let i = c.loop-phrase.phrase-index in
    let phrases = c.args.phrases.now in
    let item : c.as_slice.result.now ≡ get_or phrases i [] = c.as_slice.ensures ∙ c.phrase-item.is ∙ same_item phrases i c.phrase-item.result [] (omega arith) in
    record {
      first = c.best_with-best.ensures.first i phrases c.loop-phrase.invariant.first item;
      value = first_end_turn phrases c.args.text.now i c.loop-phrase.best c.best_with-best.result c.as_slice.result.now (omega arith) c.loop-phrase.invariant.value item c.best_with-best.ensures.value;
    }

pub returns-clause-first : goal.returns-clause-first
returns-clause-first c =
    let e : c.loop-phrase.phrase-index ≡ length c.args.phrases.now = omega arith in
    subst (λ (n : ℕ). IsFirstEnd n c.args.phrases.now c.args.text.now c.loop-phrase.best) e c.loop-phrase.invariant.first
