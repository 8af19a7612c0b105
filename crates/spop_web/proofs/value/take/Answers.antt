use Rattle.std.proofs.Common.{◌≡◌, ◌<◌, List, Option, cond, get_or, set, length, sym, ap, ◌∙◌, arith, take, ◌++◌, ◌∷◌, [], ◌+◌}
use Rattle.std.proofs.lemmas.List.{take_more}
use Rattle.std.specs.Prelude.{bytes_eq}
use Rattle.spop_data.specs.declared.value.Pair.{Pair}
use Rattle.spop_data.specs.declared.value.Data as values
use Rattle.spop_web.specs.Names.{name_of}
use Rattle.spop_web.specs.Taking.{emptied}
use Rattle.spop_web.specs.Values.{given, present}
use Rattle.spop_web.proofs.Takes.{given_push, mapped_next, present_cond}
use Rattle.spop_web.proofs.value.take.Goals as goal

pub loop-pair-preserved : goal.loop-pair-preserved
loop-pair-preserved c =
    let arg = c.args.arg in
    let xs = c.args.args.now in
    let i = c.loop-pair.pair-index in
    let d = c.pair-item.result in
    let pair = get_or c.loop-pair.args i d in
    let old = c.loop-pair.invariant in
    let inside : i < length xs = omega arith in
    let one = mapped_next (emptied (name_of arg)) xs i d inside in
    let item : pair ≡ get_or xs i d = ap (λ (l : List Pair). get_or l i d) old.args ∙ one.0 in
    let more : take (i + 1) xs ≡ take i xs ++ pair ∷ [] = take_more xs i d inside ∙ ap (λ (p : Pair). take i xs ++ p ∷ []) (sym item) in
    record {
      value = ap present c.later-last.ensures.value
          ∙ present_cond (bytes_eq pair.name (name_of arg)) pair.value c.loop-pair.last
          ∙ ap (λ (v : Option values.Data). cond (bytes_eq pair.name (name_of arg)) (present pair.value) v) old.value
          ∙ sym (given_push arg (take i xs) pair)
          ∙ ap (given arg) (sym more);
      args = ap (λ (p : Pair). set c.loop-pair.args i p) (c.later-last.ensures.pair ∙ ap (emptied (name_of arg)) item)
          ∙ ap (λ (l : List Pair). set l i (emptied (name_of arg) (get_or xs i d))) old.args
          ∙ one.1;
    }
