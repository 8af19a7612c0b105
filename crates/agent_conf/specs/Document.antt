-- The document that a text is, and what it has at its keys.
use Rattle.std.specs.Prelude.{ℕ, List, [], ◌∷◌, ◌++◌, cond, Option, Some, None, codes}
use Rattle.std.specs.Str.{is_utf8}
use Rattle.toml.specs.Data.{Data, array, table, Items, no_items, item, Members, no_members, member, get_member}
use Rattle.toml.specs.Parse.{parse_document}

-- a text that is not UTF-8 is none
abbrev pub document : List ℕ → Option Members
document text = cond (is_utf8 text) (parse_document text) None

-- the keys of a table, in the order of their bytes, as a table has them
abbrev pub keys : Members → List (List ℕ)
keys no_members = []
keys (member key value rest) = key ∷ keys rest

-- the value, if it is a table
abbrev pub tables_of : Data → List Members
tables_of (table members) = members ∷ []
tables_of other = []

-- those of the items that are tables
abbrev pub tables : Items → List Members
tables no_items = []
tables (item value rest) = tables_of value ++ tables rest

abbrev pub tables_in : Option Data → List Members
tables_in (Some (array items)) = tables items
tables_in other = []

-- the applications in their order; a member of `app` that is no table is passed over
abbrev pub applications : Members → List Members
applications top = tables_in (get_member (codes "app") top)
