use Rattle.std.proofs.Common.{refl, rules, tests}
use Rattle.std.proofs.lemmas.Iterator.{items_from_collect, YieldsList-from_slice, YieldsList-from_map_by}
use Rattle.form_urlencoded.specs.Form as form
use Rattle.web_parts.proofs.arguments.decoded.Goals as goal

pub returns : goal.returns
returns c =
    let got = items_from_collect _ c.collect.ensures.ran (YieldsList-from_map_by _ (λ r. r) form.plus_to_space (YieldsList-from_slice c.args.raw.now cc) c.map-spaced.ensures.closure (λ x r q k. search (rules, tests))) in
    let spaced = rw c.in_ok-spaced.was at got in
    rw (c.from_vec.ensures, c.in_ok-append_to.ensures.ok, c.new-bytes.ensures.items, c.percent_decode.ensures.bytes, c.as_slice.ensures.value, spaced) refl
