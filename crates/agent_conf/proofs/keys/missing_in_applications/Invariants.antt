use Rattle.std.proofs.Common.{◌≡◌, drop, flat_map}
use Rattle.toml.specs.View.{items_view}
use Rattle.agent_conf.specs.Document.{tables}
use Rattle.agent_conf.specs.Keys.{missing_keys}
use Rattle.agent_conf.specs.Reading.{first}
use Rattle.agent_conf.proofs.keys.missing_in_applications.Given as goal

abbrev pub invariant-loop-member : goal.invariant-loop-member
invariant-loop-member l = first (flat_map missing_keys (tables (items_view (drop l.member-index l.members)))) ≡ first (flat_map missing_keys (tables (items_view l.members)))
