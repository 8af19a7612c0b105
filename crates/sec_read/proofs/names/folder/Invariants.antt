use Rattle.std.proofs.Common.{◌≡◌, ◌≤◌, ◌+◌, length, take}
use Rattle.std.specs.List.{suffix_len}
use Rattle.sec_read.specs.Names.{is_within_name}
use Rattle.sec_read.proofs.names.folder.Given as goal

abbrev pub invariant-loop-count : goal.invariant-loop-count
invariant-loop-count l = record {
  counted : l.count + suffix_len is_within_name l.name ≡ length l.name + suffix_len is_within_name (take l.count l.name);
  within : l.count ≤ length l.name;
}

abbrev pub decreases-loop-count : goal.decreases-loop-count
decreases-loop-count l = l.count
