use Rattle.std.proofs.Common.{ℕ, rules, tests, ap, ◌∙◌, not, filter}
use Rattle.std.proofs.lemmas.Fn.{filter_same}
use Rattle.sec_transforms.specs.Whitespace.{is_wide}
use Rattle.sec_transforms.proofs.whitespace.without_wide.Goals as goal

pub returns : goal.returns
returns c =
    let kept = filter_same _ (λ (b : ℕ). not (is_wide b)) _ (λ x b f k. search (rules, tests)) _ _ c.retain.ensures.filtered in
    c.from_vec.ensures ∙ kept ∙ ap (filter (λ (b : ℕ). not (is_wide b))) c.in_ok-kept.ensures.items
