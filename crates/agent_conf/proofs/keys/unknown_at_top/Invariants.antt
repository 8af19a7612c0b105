use Rattle.std.proofs.Common.{◌≡◌}
use Rattle.toml.specs.View.{members_view}
use Rattle.agent_conf.specs.Keys.{top_keys, unknown_keys}
use Rattle.agent_conf.specs.Reading.{first}
use Rattle.agent_conf.proofs.keys.unknown_at_top.Given as goal

abbrev pub invariant-loop-key : goal.invariant-loop-key
invariant-loop-key l =
    (goal.iterator-loop-key).can_next l.key-iterator × (goal.iterator-loop-key).is_finite l.key-iterator
    × (first (unknown_keys top_keys (members_view l.key-iterator)) ≡ first (unknown_keys top_keys (members_view l.top.entries)))
