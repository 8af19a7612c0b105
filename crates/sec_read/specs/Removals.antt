-- Rules that are struck out: `SecRuleRemoveById` and `SecRuleRemoveByTag`.
use Rattle.std.specs.Prelude.{ℕ, Bool, false, not, ◌&&◌, ◌||◌, nat_le, bytes_eq, filter, List, [], ◌∷◌, ◌++◌, Option, Some, None, Result, Ok}
use Rattle.std.specs.List.{list_any}
use Rattle.sec_ast.specs.declared.Item.{Item}
use Rattle.sec_ast.specs.declared.Item.TheVariants as items
use Rattle.sec_ast.specs.declared.Rule.{Rule}
use Rattle.sec_parts.specs.declared.faults.Bad.{Bad}
use Rattle.sec_parts.specs.Changes.{id_range}
use Rattle.sec_parts.specs.Results.{◌>>=◌, bad}
use Rattle.sec_read.specs.declared.removals.Removals.{Removals}

abbrev pub no_removals : Removals
no_removals = record { ids = []; tags = [] }

-- ---- what the directives name

abbrev pub with_range : List ℕ → Option (ℕ × ℕ) → Removals → Result Removals Bad
with_range word None removals = bad word
with_range word (Some range) removals = Ok (record removals { ids = removals.ids ++ range ∷ [] })

-- each word is an identifier or a range of them
abbrev pub with_ids : List (List ℕ) → Removals → Result Removals Bad
with_ids [] removals = Ok removals
with_ids (word ∷ words) removals = with_range word (id_range word) removals >>= with_ids words

abbrev pub with_tag : List ℕ → Removals → Removals
with_tag tag removals = record removals { tags = removals.tags ++ tag ∷ [] }

-- ---- what is left

-- a range names the rule's identifier
abbrev pub names_id : List (ℕ × ℕ) → ℕ → Bool
names_id ranges id = list_any (λ range. nat_le range.0 id && nat_le id range.1) ranges

-- a tag of the rule is one of these
abbrev pub names_tag : List (List ℕ) → List (List ℕ) → Bool
names_tag removed tags = list_any (λ tag. list_any (bytes_eq tag) removed) tags

abbrev pub names_rule : Removals → Rule → Bool
names_rule removals rule = names_id removals.ids rule.id || names_tag removals.tags rule.tags

abbrev pub is_removed : Removals → Item → Bool
is_removed removals (items.Rule rule) = names_rule removals rule
is_removed removals (items.Marker label) = false

-- the items without the rules that a removing directive names, before it or behind it
abbrev pub kept : Removals → List Item → List Item
kept removals list = filter (λ item. not (is_removed removals item)) list
