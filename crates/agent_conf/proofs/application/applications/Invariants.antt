use Rattle.std.proofs.Common.{◌≡◌, ◌++◌, drop, flat_map, map}
use Rattle.toml.specs.View.{items_view}
use Rattle.agent_conf.specs.Configuration.{application_of}
use Rattle.agent_conf.specs.Document.{tables}
use Rattle.agent_conf.specs.Faults.{application_rows, bad_keys}
use Rattle.agent_conf.proofs.application.applications.Given as goal

abbrev pub invariant-loop-member : goal.invariant-loop-member
invariant-loop-member l =
    (l.apps ++ map application_of (tables (items_view (drop l.member-index l.members))) ≡ map application_of (tables (items_view l.members)))
    × (flat_map (bad_keys application_rows) (tables (items_view (drop l.member-index l.members))) ≡ flat_map (bad_keys application_rows) (tables (items_view l.members)))
