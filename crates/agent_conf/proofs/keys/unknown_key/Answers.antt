use Rattle.std.proofs.Common.{◌∙◌, sym, ap, flat_map}
use Rattle.toml.specs.View.{table_view}
use Rattle.agent_conf.specs.Document.{applications}
use Rattle.agent_conf.specs.Keys.{application_keys, top_keys, unknown_keys}
use Rattle.agent_conf.specs.Reading.{first}
use Rattle.agent_conf.proofs.Firsts.{first_before, first_behind}
use Rattle.agent_conf.proofs.keys.unknown_key.Goals as goal

pub returns-in-Some : goal.returns-in-Some
returns-in-Some c =
    let top = table_view c.args.top.now in
    sym (first_before (unknown_keys top_keys top) (flat_map (unknown_keys application_keys) (applications top)) c.in-Some.key.now (sym c.in-Some.ensures))

pub returns-in-None : goal.returns-in-None
returns-in-None c =
    let top = table_view c.args.top.now in
    c.unknown_in_applications.ensures ∙ ap (λ apps. first (flat_map (unknown_keys application_keys) apps)) c.members.ensures
    ∙ sym (first_behind (unknown_keys top_keys top) (flat_map (unknown_keys application_keys) (applications top)) (sym c.in-None.ensures))
