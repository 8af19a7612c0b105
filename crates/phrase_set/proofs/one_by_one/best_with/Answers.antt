use Rattle.std.proofs.Common.{◌+◌, ℕ, List, length, ap, subst, refl, Some, None}
use Rattle.memchr.specs.Find.{FindsNeedle}
use Rattle.phrase_set.proofs.Earliest.{passed, added}
use Rattle.phrase_set.proofs.one_by_one.best_with.Goals as goal

pub returns-in-None-clause-first : goal.returns-in-None-clause-first
returns-in-None-clause-first c = λ n phrases first is.
    passed n phrases c.args.text.now c.args.best first (subst (λ (p : List ℕ). FindsNeedle c.args.text.now p 0 None) is c.in-None.ensures.finds)

pub returns-in-Some-clause-first : goal.returns-in-Some-clause-first
returns-in-Some-clause-first c = λ n phrases first is.
    let start = c.in-Some.start in
    added n phrases c.args.text.now c.args.best start (start, start + length c.args.phrase.now) c.earlier_of.result first
    (subst (λ (p : List ℕ). FindsNeedle c.args.text.now p 0 (Some start)) is c.in-Some.ensures.finds) refl (ap (λ (p : List ℕ). start + length p) is) c.earlier_of.ensures.order
