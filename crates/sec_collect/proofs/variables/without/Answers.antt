use Rattle.std.proofs.Common.{rules, tests, refl, not}
use Rattle.std.proofs.lemmas.Fn.{filter_same}
use Rattle.web_parts.specs.declared.row.NameValue.{NameValue}
use Rattle.sec_collect.specs.Row.{is_named}
use Rattle.sec_collect.proofs.variables.without.Goals as goal

pub returns : goal.returns
returns c =
    let kept = filter_same _ (λ (r : NameValue). not (is_named c.args.name.now r)) _ (λ x b f k. search (rules, tests)) _ _ c.retain.ensures.filtered in
    rw (c.from_vec.ensures, kept, c.into_vec-rows.ensures) refl
