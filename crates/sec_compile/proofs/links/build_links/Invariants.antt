use Rattle.std.proofs.Common.{◌≡◌, drop, map, take}
use Rattle.std.specs.List.{list_any}
use Rattle.sec_compile.specs.Links.{built_link}
use Rattle.sec_compile.specs.Unread.{is_unread_link}
use Rattle.sec_compile.proofs.links.build_links.Given as goal

abbrev pub invariant-loop-link : goal.invariant-loop-link
invariant-loop-link l = record {
  built : l.built ≡ map built_link (take l.link-index l.links);
  unread : list_any is_unread_link (drop l.link-index l.links) ≡ list_any is_unread_link l.links;
}
