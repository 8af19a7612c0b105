use Rattle.std.proofs.Common.{◌≡◌, ◌++◌, ◌≤◌, length, take, drop}
use Rattle.std.specs.List.{flat_map}
use Rattle.sec_collect.specs.declared.expansion.TheConstants.{EXPANSION_LIMIT}
use Rattle.sec_collect.specs.Expansion.{expansion, part_text}
use Rattle.sec_collect.proofs.expansion.expand.Given as goal

abbrev pub invariant-loop-part : goal.invariant-loop-part
invariant-loop-part l = record {
  small : length l.out ≤ EXPANSION_LIMIT;
  left : take EXPANSION_LIMIT (l.out ++ flat_map (part_text l.vars) (drop l.part-index l.text)) ≡ expansion l.vars l.text;
}
