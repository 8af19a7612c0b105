use Rattle.std.proofs.Common.{◌≡◌, drop, take}
use Rattle.std.specs.List.{list_any}
use Rattle.sec_ops.specs.Selectors.{patterns_of}
use Rattle.sec_compile.specs.Unread.{is_unread_target}
use Rattle.sec_compile.proofs.links.build_patterns.Given as goal

abbrev pub invariant-loop-target : goal.invariant-loop-target
invariant-loop-target l = record {
  patterns : l.patterns ≡ patterns_of (take l.target-index l.targets);
  unread : list_any is_unread_target (drop l.target-index l.targets) ≡ list_any is_unread_target l.targets;
}
