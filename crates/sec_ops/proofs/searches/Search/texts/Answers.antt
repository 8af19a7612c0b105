use Rattle.std.proofs.Common.{◌≡◌, ap, sym, ◌∙◌, Some}
use Rattle.regex.specs.Bytes.{regex_pattern}
use Rattle.regex.specs.Patterns.{Re, find}
use Rattle.sec_ops.specs.Pattern.{spans_of, texts_in}
use Rattle.sec_ops.proofs.PatternLemmas.{spans_of_locations}
use Rattle.sec_ops.proofs.searches.Search.texts.Goals as goal

pub returns-in_ok-texts_of-in-Some-clause-found : goal.returns-in_ok-texts_of-in-Some-clause-found
returns-in_ok-texts_of-in-Some-clause-found c =
    let value = c.args.value.now in
    let f = c.in-Some.ensures.found in
    let found : find (regex_pattern c.args.self.now.pattern.now.regex) value 0 ≡ Some f.0 =
    sym (c.args.self.now.same value) ∙ ap (λ (re : Re). find re value 0) (sym c.is_match.ensures.same) ∙ f.1 in
    let count = c.in-Some.ensures.count ∙ c.args.self.now.count in
    let groups = c.as_slice.ensures.value ∙ c.in_ok-spans-in-Some.ensures ∙ spans_of_locations f.0 c.captures_read.new.locations f.2.1 ∙ ap (λ n. spans_of n f.0) count in
    rw found (ap Some (c.in_ok-texts_of-in-Some.ensures ∙ ap (texts_in value) groups))
