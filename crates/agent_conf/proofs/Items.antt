-- The items of a list of values.
use Rattle.std.proofs.Common.{◌≡◌, suc, List, [], ◌∷◌, length, refl, ap}
use Rattle.toml.specs.View.{items_view}
use Rattle.toml.specs.declared.value.Value.{Value}
use Rattle.agent_conf.specs.Values.{count}

pub count_items : (vs : List Value) → length vs ≡ count (items_view vs)
count_items [] = refl
count_items (v ∷ vs) = ap suc (count_items vs)
