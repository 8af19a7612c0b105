-- Where a phase goes on that passes items over.
use Rattle.std.specs.Prelude.{ℕ, zero, suc, if◌then◌else◌, List, [], ◌∷◌}
use Rattle.std.specs.Str.{bytes_eq}
use Rattle.sec_ast.specs.declared.listing.Item.{Item}
use Rattle.sec_ast.specs.declared.listing.Item.TheVariants as items
use Rattle.sec_eval.specs.Counting.{is_rule_of}

-- the items after the next marker of that label, none where no such marker follows
abbrev pub after_marker : List ℕ → List Item → List Item
after_marker label [] = []
after_marker label (items.Marker marker ∷ left) = if bytes_eq marker label then left else after_marker label left
after_marker label (items.Rule r ∷ left) = after_marker label left

-- the items after the next n rules of a phase
abbrev pub after_rules : ℕ → ℕ → List Item → List Item
after_rules p n [] = []
after_rules p zero (item ∷ left) = item ∷ left
after_rules p (suc n) (item ∷ left) = if is_rule_of p item then after_rules p n left else after_rules p (suc n) left
