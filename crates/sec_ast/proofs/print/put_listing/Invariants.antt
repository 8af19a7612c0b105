use Rattle.std.proofs.Common.{◌≡◌, ◌++◌, take}
use Rattle.std.specs.List.{flat_map}
use Rattle.sec_ast.specs.Print.{item_text, settings_text}
use Rattle.sec_ast.proofs.print.put_listing.Given as goal

abbrev pub invariant-loop-item : goal.invariant-loop-item
invariant-loop-item l = l.out ≡ (l.fn.out ++ settings_text l.listing) ++ flat_map item_text (take l.item-index l.item-items)
