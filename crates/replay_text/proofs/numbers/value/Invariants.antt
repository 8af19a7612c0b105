use Rattle.std.proofs.Common.{◌≡◌, ◌≤◌, ◌+◌, ◌*◌, ◌^◌, take}
use Rattle.replay_text.specs.Numbers.{value_of}
use Rattle.replay_text.proofs.numbers.value.Given as goal

abbrev pub invariant-loop-byte : goal.invariant-loop-byte
invariant-loop-byte l = record {
  so_far : l.number ≡ value_of (take l.byte-index l.text);
  small : l.number + 23 ≤ 23 * 10 ^ l.byte-index;
}
