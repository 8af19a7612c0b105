use Rattle.std.proofs.Common.{◌∙◌, ℕ, List, length, ap, sym, subst}
use Rattle.phrase_set.specs.Phrases.{IsFirstEnd}
use Rattle.phrase_set.specs.Search.{phrases_of}
use Rattle.phrase_set.proofs.part.first_in.Goals as goal

pub returns-in-Each : goal.returns-in-Each
returns-in-Each c =
    let same = c.as_slice.ensures ∙ ap phrases_of (sym c.in-Each.is) in
    subst (λ (l : List (List ℕ)). IsFirstEnd (length l) l c.args.value.now c.first_end.result) same c.first_end.ensures.first

pub returns-in-Joint : goal.returns-in-Joint
returns-in-Joint c =
    subst (λ (l : List (List ℕ)). IsFirstEnd (length l) l c.args.value.now c.first_end_of.result) (ap phrases_of (sym c.in-Joint.is)) c.first_end_of.ensures
