use Rattle.std.proofs.Common.{◌≡◌, drop, map, take}
use Rattle.sec_compile.specs.Links.{built_links}
use Rattle.sec_compile.specs.Unread.{first_fault}
use Rattle.sec_compile.proofs.links.build_items.Given as goal

abbrev pub invariant-loop-item : goal.invariant-loop-item
invariant-loop-item l = record {
  built : l.built ≡ map built_links (take l.item-index l.items);
  first : first_fault (drop l.item-index l.items) ≡ first_fault l.items;
}
