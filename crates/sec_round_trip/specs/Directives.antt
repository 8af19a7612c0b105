-- The directives of a printed listing, a line each.
use Rattle.std.specs.Prelude.{◌≡◌, ℕ, Bool, true, false, not, ◌&&◌, List, [], ◌∷◌, ◌++◌, codes, decimal, if◌then◌else◌}
use Rattle.std.specs.List.{AllByRecursion, flat_map, join_with_byte}
use Rattle.sec_ast.specs.Print.{limit_action}
use Rattle.sec_ast.specs.PrintActions.{link_pieces, rule_pieces, switch_text}
use Rattle.sec_ast.specs.PrintRules.{action_word, condition_words, is_more}
use Rattle.sec_ast.specs.Settings.{engine_name}
use Rattle.sec_ast.specs.declared.link.Link.{Link}
use Rattle.sec_ast.specs.declared.listing.Item.{Item}
use Rattle.sec_ast.specs.declared.listing.Item.TheVariants as items
use Rattle.sec_ast.specs.declared.listing.Listing.{Listing}
use Rattle.sec_text.specs.Lines.{is_line_feed}
use Rattle.sec_text.specs.Written.{ends_with_backslash}
use Rattle.sec_text.specs.declared.characters.TheConstants.{COMMA}
use Rattle.sec_round_trip.specs.Lines.{written}

-- a name and words
abbrev pub Directive : Type 0
Directive = List ℕ × List (List ℕ)

abbrev pub directive_line : Directive → List ℕ
directive_line directive = written directive.0 directive.1

abbrev pub settings_of : Listing → List Directive
settings_of listing =
    (codes "SecRuleEngine", engine_name listing.engine ∷ []) ∷
    (codes "SecRequestBodyAccess", switch_text listing.request_body ∷ []) ∷
    (codes "SecRequestBodyLimit", decimal listing.request_limit ∷ []) ∷
    (codes "SecRequestBodyLimitAction", limit_action listing.limit_reject ∷ []) ∷
    (codes "SecResponseBodyAccess", switch_text listing.response_body ∷ []) ∷ []

abbrev pub link_directive : Link → List ℕ → Directive
link_directive link actions =
    if link.always then (codes "SecAction", action_word actions ∷ [])
    else (codes "SecRule", condition_words link actions)

-- those of some links, the first of which has these pieces before its own
unfoldable pub directives_behind : List (List ℕ) → List Link → List Directive
directives_behind pieces [] = []
directives_behind pieces (link ∷ links) =
    link_directive link (join_with_byte COMMA (pieces ++ link_pieces link (is_more links))) ∷ directives_behind [] links

abbrev pub item_directives : Item → List Directive
item_directives (items.Rule rule) = directives_behind (rule_pieces rule) rule.links
item_directives (items.Marker label) = (codes "SecMarker", label ∷ []) ∷ []

unfoldable pub directives_of : Listing → List Directive
directives_of listing = settings_of listing ++ flat_map item_directives listing.items

abbrev pub has_no_feed : List ℕ → Bool
has_no_feed [] = true
has_no_feed (b ∷ text) = not (is_line_feed b) && has_no_feed text

-- a word that can be written: no line feed, and no backslash at its end
abbrev pub IsSafe : List ℕ → Type 0
IsSafe word = (has_no_feed word ≡ true) × (ends_with_backslash word ≡ false)

abbrev pub HasSafeWords : Listing → Type 0
HasSafeWords listing =
    AllByRecursion (λ (directive : Directive). AllByRecursion IsSafe directive.1) (directives_of listing)
