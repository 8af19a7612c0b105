use Rattle.std.proofs.Common.{◌≡◌, ◌++◌, drop, option_map}
use Rattle.toml.specs.View.{items_view}
use Rattle.agent_conf.specs.Values.{texts_in}
use Rattle.agent_conf.proofs.values.texts_of.Given as goal

abbrev pub invariant-loop-item : goal.invariant-loop-item
invariant-loop-item l = option_map (λ more. l.texts ++ more) (texts_in (items_view (drop l.item-index l.items))) ≡ texts_in (items_view l.items)
