-- The first fault of a listing.
use Rattle.std.proofs.Common.{◌≡◌, List, ◌∷◌, Option, ap, sym, ◌∙◌}
use Rattle.std.specs.Option.{option_or}
use Rattle.sec_ast.specs.declared.listing.Item.{Item}
use Rattle.sec_compile.specs.declared.fault.CompileFault.{CompileFault}
use Rattle.sec_compile.specs.declared.fault.CompileFault.TheVariants as faults
use Rattle.sec_compile.specs.Unread.{IsFault, fault_of, first_fault}

-- a fault of the next item is the first of all, where no item before has one
pub found : (fault : CompileFault) (item : Item) (left all : List Item) → first_fault (item ∷ left) ≡ first_fault all → IsFault fault (fault_of item) → IsFault fault (first_fault all)
found faults.NoMemory item left all same is = tt
found (faults.BadPattern place id) item left all same is = sym same ∙ ap (λ (first : Option CompileFault). option_or first (first_fault left)) is
