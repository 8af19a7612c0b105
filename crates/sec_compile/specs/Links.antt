-- What is built of a listing's links.
use Rattle.std.specs.Prelude.{List, [], map}
use Rattle.sec_ast.specs.declared.link.Link.{Link}
use Rattle.sec_ast.specs.declared.listing.Item.{Item}
use Rattle.sec_ast.specs.declared.listing.Item.TheVariants as items
use Rattle.sec_ops.specs.Selectors.{patterns_of}
use Rattle.sec_compile.specs.declared.links.BuiltLink.{BuiltLink}

-- its operator, and for each target the pattern by which it selects, where it does
abbrev pub built_link : Link → BuiltLink
built_link link = record { op = link.op; patterns = patterns_of link.targets }

-- of each link of a rule; a marker has none
abbrev pub built_links : Item → List BuiltLink
built_links (items.Marker label) = []
built_links (items.Rule r) = map built_link r.links
