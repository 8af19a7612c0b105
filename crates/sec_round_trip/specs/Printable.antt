-- Listings that are read back from their text, and what reading makes of them.
use Rattle.std.specs.Prelude.{◌≡◌, ◌≤◌, ℕ, ◌+◌, Bool, true, false, List, [], ◌∷◌, length, Some}
use Rattle.std.specs.List.{AllByRecursion, count_by, list_all}
use Rattle.std.specs.Str.{is_utf8}
use Rattle.sec_ast.specs.Print.{listing_text}
use Rattle.sec_ast.specs.declared.link.Link.{Link}
use Rattle.sec_ast.specs.declared.listing.Item.{Item}
use Rattle.sec_ast.specs.declared.listing.Item.TheVariants as items
use Rattle.sec_ast.specs.declared.listing.Listing.{Listing}
use Rattle.sec_ast.specs.declared.operator.Op.{Op}
use Rattle.sec_ast.specs.declared.operator.OpKind.TheVariants as kinds
use Rattle.sec_ast.specs.declared.rule.Rule.{Rule}
use Rattle.sec_text.specs.declared.lines.TheConstants.{LINE_LIMIT}
use Rattle.sec_read.specs.declared.items.TheConstants.{RULE_LIMIT}
use Rattle.sec_read.specs.declared.links.TheConstants.{LINK_LIMIT}
use Rattle.sec_read.specs.declared.settings.TheConstants.{MAX_REQUEST_LIMIT}
use Rattle.sec_read.specs.declared.texts.TheConstants.{FILE_LIMIT}
use Rattle.sec_read.specs.FileWords.{Named}
use Rattle.sec_read.specs.Items.{has_id, is_rule}
use Rattle.sec_read.specs.Operators.{is_address_word, is_of_addresses}
use Rattle.sec_round_trip.specs.Actions.{IsHead, IsTail}
use Rattle.sec_round_trip.specs.Directives.{Directive, HasSafeWords, directive_line, directives_of, settings_of}
use Rattle.sec_round_trip.specs.Operators.{IsOperator, is_byte}
use Rattle.sec_round_trip.specs.Targets.{AreTargets}

-- ---- links and rules

-- the words of ipMatch are addresses and blocks
abbrev pub HasAddresses : Op → Type 0
HasAddresses op = is_of_addresses op.kind ≡ true → AllByRecursion (λ word. is_address_word word ≡ true) op.words

-- what a SecRule tests
pub record IsTested (link : Link) : Type 0 where
  pub targets : AreTargets link.targets
  pub operator : IsOperator link.op
  pub addresses : HasAddresses link.op

-- a SecAction tests nothing, and always holds
pub record IsUntested (link : Link) : Type 0 where
  pub targets : link.targets ≡ []
  pub negated : link.negated ≡ false
  pub op : link.op ≡ record { kind = kinds.UnconditionalMatch; text = []; words = [] }

abbrev pub IsCondition : Bool → Link → Type 0
IsCondition true link = IsUntested link
IsCondition false link = IsTested link

abbrev pub IsLink : Link → Type 0
IsLink link = IsCondition link.always link × IsTail link

pub record IsRule (rule : Rule) : Type 0 where
  pub head : IsHead rule
  pub links : AllByRecursion IsLink rule.links
  pub some : 1 ≤ length rule.links
  pub few : length rule.links ≤ LINK_LIMIT

abbrev pub IsItem : Item → Type 0
IsItem (items.Rule rule) = IsRule rule
IsItem (items.Marker label) = Unit {0}

-- ---- listings

-- no two rules have one identifier
abbrev pub AreApart : List Item → Type 0
AreApart [] = Unit {0}
AreApart (items.Rule rule ∷ list) = (has_id rule.id list ≡ false) × AreApart list
AreApart (items.Marker label ∷ list) = AreApart list

abbrev pub IsShort : Directive → Type 0
IsShort directive = length (directive_line directive) ≤ LINE_LIMIT

-- its text stays within the limits of a file and of a line
pub record KeepsLimits (listing : Listing) : Type 0 where
  pub lines : AllByRecursion IsShort (directives_of listing)
  pub size : length (listing_text listing) ≤ FILE_LIMIT

-- its parts are read back
pub record IsPrintable (listing : Listing) : Type 0 where
  pub limit : (1 ≤ listing.request_limit) × (listing.request_limit ≤ MAX_REQUEST_LIMIT)
  pub items : AllByRecursion IsItem listing.items
  pub apart : AreApart listing.items
  pub few : count_by is_rule listing.items ≤ RULE_LIMIT
  pub words : HasSafeWords listing
  pub text : is_utf8 (listing_text listing) ≡ true
  pub limits : KeepsLimits listing

-- ---- what reading makes of them

-- with their places in a file, the first of them in this line; each link and each marker takes a line
abbrev pub placed : List ℕ → ℕ → List Item → List Item
placed file line [] = []
placed file line (items.Rule rule ∷ list) =
    items.Rule (record rule { place = record { file = file; line = line } })
    ∷ placed file (line + length rule.links) list
placed file line (items.Marker label ∷ list) = items.Marker label ∷ placed file (line + 1) list

-- the settings take the first lines
abbrev pub in_place : List ℕ → Listing → Listing
in_place file listing = record listing { items = placed file (length (settings_of listing) + 1) listing.items }

-- ---- what was read

-- each file holds bytes
abbrev pub HoldBytes : Named → Type 0
HoldBytes files = (name content : List ℕ) → files name ≡ Some content → list_all is_byte content ≡ true
