use Rattle.std.proofs.Common.{◌≡◌, ◌∷◌, ◌++◌, ◌∙◌, [], List, drop, ap, sym, subst}
use Rattle.std.specs.List.{All, flat_map}
use Rattle.std.proofs.lemmas.List.Elements.{All-push}
use Rattle.phrase_set.specs.declared.part.Part.{Part}
use Rattle.phrase_set.specs.Search.{IsSound, phrases_of}
use Rattle.phrase_set.proofs.Joined.{Texts, added_part}
use Rattle.phrase_set.proofs.set.PhraseSet.build.Goals as goal

pub loop-rest-preserved : goal.loop-rest-preserved
loop-rest-preserved c =
    let parts = c.loop-rest.parts.items in
    let part = c.in_ok-part.part in
    let rest = c.loop-rest.rest.now in
    let made = c.in_ok-part.ensures in
    let items : c.push.new.self.items ≡ parts ++ part ∷ [] = c.in_ok-push.ensures.items in
    let left : flat_map phrases_of c.push.new.self.items ++ drop c.in_ok-part.count rest ≡ c.args.phrases.now =
    added_part phrases_of parts c.push.new.self.items part rest c.args.phrases.now c.in_ok-part.count c.loop-rest.invariant.left items made.part in
    record {
      left = ap (λ (l : Texts). flat_map phrases_of c.push.new.self.items ++ l) c.split_at.ensures.back ∙ left;
      sound = subst (λ (l : List Part). All IsSound l) (sym items) (All-push IsSound parts part c.loop-rest.invariant.sound made.sound);
    }
