-- The canonical text of a listing: its settings and its items, a line each.
use Rattle.std.specs.Prelude.{ℕ, Bool, List, [], ◌∷◌, ◌++◌, codes, decimal, if◌then◌else◌}
use Rattle.std.specs.List.{flat_map}
use Rattle.sec_ast.specs.PrintActions.{switch_text}
use Rattle.sec_ast.specs.PrintRules.{rule_text}
use Rattle.sec_ast.specs.PrintTexts.{line_of}
use Rattle.sec_ast.specs.Settings.{engine_name}
use Rattle.sec_ast.specs.declared.listing.Item.{Item}
use Rattle.sec_ast.specs.declared.listing.Item.TheVariants as items
use Rattle.sec_ast.specs.declared.listing.Listing.{Listing}

abbrev pub limit_action : Bool → List ℕ
limit_action is_rejected = if is_rejected then codes "Reject" else codes "ProcessPartial"

unfoldable pub setting : List ℕ → List ℕ → List ℕ
setting name word = line_of name (word ∷ [])

unfoldable pub settings_text : Listing → List ℕ
settings_text listing =
    setting (codes "SecRuleEngine") (engine_name listing.engine)
    ++ setting (codes "SecRequestBodyAccess") (switch_text listing.request_body)
    ++ setting (codes "SecRequestBodyLimit") (decimal listing.request_limit)
    ++ setting (codes "SecRequestBodyLimitAction") (limit_action listing.limit_reject)
    ++ setting (codes "SecResponseBodyAccess") (switch_text listing.response_body)

abbrev pub item_text : Item → List ℕ
item_text (items.Rule rule) = rule_text rule
item_text (items.Marker label) = line_of (codes "SecMarker") (label ∷ [])

unfoldable pub listing_text : Listing → List ℕ
listing_text listing = settings_text listing ++ flat_map item_text listing.items
