use Rattle.std.proofs.Common.{◌≡◌, ◌+◌, ◌∷◌, ◌++◌, [], List, ℕ, take, sym, ◌∙◌, ap}
use Rattle.std.proofs.lemmas.List.{take_more}
use Rattle.std.specs.Option.{option_copied}
use Rattle.std.specs.Str.{bytes_eq}
use Rattle.spop_hello.specs.Client.{value_of}
use Rattle.spop_data.specs.declared.value.Pair.{Pair}
use Rattle.spop_hello.proofs.Pairs.{value_is, value_stays}
use Rattle.spop_hello.proofs.client.value_in.Goals as goal
use Rattle.spop_hello.proofs.client.value_in.Goals.{then-eq, else-eq}

pub loop-pair-preserved : goal.loop-pair-preserved
loop-pair-preserved c =
    let name = c.args.name.now in
    let pairs = c.args.pairs.now in
    let index = c.loop-pair.pair-index in
    let p : Pair = c.pair-item.result in
    let one_more : take (index + 1) pairs ≡ take index pairs ++ p ∷ [] = take_more pairs index p c.loop-pair-test.true ∙ ap (λ (q : Pair). take index pairs ++ q ∷ []) (sym c.pair-item.is) in
    let test : c.eq.result ≡ bytes_eq p.name name = c.eq.ensures ∙ ap (λ (l : List ℕ). bytes_eq l name) c.as_slice.ensures in
    elim c.if-eq.branch [
      | then-eq w ↦ ap (λ o. option_copied o) w.found-is ∙ sym (ap (value_of name) one_more ∙ value_is name (take index pairs) p (sym test ∙ w.if-eq.true))
      | else-eq w ↦ ap (λ o. option_copied o) w.found-is ∙ c.loop-pair.invariant ∙ sym (ap (value_of name) one_more ∙ value_stays name (take index pairs) p (sym test ∙ w.if-eq.false))
    ]
