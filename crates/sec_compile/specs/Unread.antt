-- The patterns of rules that have no reading in the grammar of patterns.
use Rattle.std.specs.Prelude.{◌≡◌, ℕ, Bool, false, ◌||◌, if◌then◌else◌, List, [], ◌∷◌, Option, Some, None, is_none}
use Rattle.std.specs.List.{list_any}
use Rattle.std.specs.Option.{option_or}
use Rattle.sec_ast.specs.declared.link.Link.{Link}
use Rattle.sec_ast.specs.declared.listing.Item.{Item}
use Rattle.sec_ast.specs.declared.listing.Item.TheVariants as items
use Rattle.sec_ast.specs.declared.target.Target.{Target}
use Rattle.sec_ops.specs.Hits.{is_unread_op, source_of, source_reading}
use Rattle.sec_ops.specs.Selectors.{pattern_of, selector_source}
use Rattle.sec_compile.specs.declared.fault.CompileFault.{CompileFault}
use Rattle.sec_compile.specs.declared.fault.CompileFault.TheVariants as faults

-- whether the grammar of patterns has no reading of a text
abbrev pub is_unread : List ℕ → Bool
is_unread source = is_none (source_reading source)

-- of the pattern by which a target selects, if it does
abbrev pub is_unread_selector : Option (List ℕ) → Bool
is_unread_selector None = false
is_unread_selector (Some pattern) = is_unread (selector_source pattern)

abbrev pub is_unread_target : Target → Bool
is_unread_target t = is_unread_selector (pattern_of t.select)

-- whether the pattern of its operator, or of one of its targets, has no reading
abbrev pub is_unread_link : Link → Bool
is_unread_link link = is_unread_op link.op.kind (source_of link.op.text) || list_any is_unread_target link.targets

-- a rule with such a link is a fault
abbrev pub fault_of : Item → Option CompileFault
fault_of (items.Marker label) = None
fault_of (items.Rule r) = if list_any is_unread_link r.links then Some (faults.BadPattern r.place r.id) else None

-- that of the first such rule
abbrev pub first_fault : List Item → Option CompileFault
first_fault [] = None
first_fault (item ∷ left) = option_or (fault_of item) (first_fault left)

-- want of memory is free
abbrev pub IsFault : CompileFault → Option CompileFault → Type 0
IsFault faults.NoMemory first = Unit {0}
IsFault (faults.BadPattern place id) first = first ≡ Some (faults.BadPattern place id)
