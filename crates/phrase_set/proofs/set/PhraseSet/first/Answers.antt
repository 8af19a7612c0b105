use Rattle.std.proofs.Common.{◌≡◌, ◌∙◌, ◌+◌, ◌++◌, ℕ, Option, length, take, ap, sym, subst, arith}
use Rattle.std.specs.List.{flat_map}
use Rattle.std.proofs.lemmas.List.{take_all}
use Rattle.phrase_set.specs.declared.part.Part.{Part}
use Rattle.phrase_set.specs.Phrases.{IsFirstEnd}
use Rattle.phrase_set.specs.Search.{phrases_of}
use Rattle.phrase_set.proofs.Joined.{Texts, joined, more_parts}
use Rattle.phrase_set.proofs.set.PhraseSet.first.Goals as goal

pub loop-part-preserved : goal.loop-part-preserved
loop-part-preserved c =
    let items = c.as_slice-part-items.result.now in
    let i = c.loop-part.part-index in
    let item = c.part-item.result in
    let value = c.args.value.now in
    let done = flat_map phrases_of (take i items) in
    let same : done ++ phrases_of item ≡ flat_map phrases_of (take (i + 1) items) =
    ap (λ (p : Part). done ++ phrases_of p) c.part-item.is ∙ sym (more_parts phrases_of items i item (omega arith)) in
    let both = joined done (phrases_of item) value c.loop-part.best c.first_in.result c.loop-part.invariant c.first_in.ensures in
    let best = subst (λ (o : Option (ℕ × ℕ)). IsFirstEnd (length (done ++ phrases_of item)) (done ++ phrases_of item) value o) (sym c.sooner-best.ensures) both in
    subst (λ (l : Texts). IsFirstEnd (length l) l value c.sooner-best.result) same best

pub returns : goal.returns
returns c =
    let items = c.as_slice-part-items.result.now in
    let all : take c.loop-part.part-index items ≡ items = take_all c.loop-part.part-index items (omega arith) in
    let same = ap (flat_map phrases_of) (all ∙ c.as_slice-part-items.ensures.value) ∙ c.self.view_is in
    subst (λ (l : Texts). IsFirstEnd (length l) l c.args.value.now c.loop-part.best) same c.loop-part.invariant
