-- The items of a listing, in reading order.
use Rattle.std.specs.Prelude.{◌≡◌, ℕ, ◌==◌, Bool, true, false, nat_le, min, ◌^◌, ◌-◌, List}
use Rattle.std.specs.BTreeSet.{BTreeSet, contains}
use Rattle.std.specs.Ordering.{nat_cmp}
use Rattle.std.specs.List.{count_by, list_any}
use Rattle.sec_ast.specs.declared.Item.{Item}
use Rattle.sec_ast.specs.declared.Item.TheVariants as items
use Rattle.sec_read.specs.declared.items.TheConstants.{RULE_LIMIT}

abbrev pub is_rule : Item → Bool
is_rule (items.Rule rule) = true
is_rule (items.Marker label) = false

abbrev pub is_rule_with : ℕ → Item → Bool
is_rule_with id (items.Rule rule) = rule.id == id
is_rule_with id (items.Marker label) = false

-- some rule has this identifier
abbrev pub has_id : ℕ → List Item → Bool
has_id id list = list_any (is_rule_with id) list

-- no further rule has room
abbrev pub is_full : List Item → Bool
is_full list = nat_le RULE_LIMIT (count_by is_rule list)

-- what lies beside the items: the set of their rules' identifiers, and how many rules there are, up to the end of u32
pub record Indexes (ids : BTreeSet ℕ) (rules : ℕ) (list : List Item) : Type 0 where
  pub held : (id : ℕ) → contains nat_cmp ids id ≡ has_id id list
  pub counted : rules ≡ min (count_by is_rule list) (2 ^ 32 - 1)
