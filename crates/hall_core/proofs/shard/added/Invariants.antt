use Rattle.std.proofs.Common.{◌≡◌, ◌+◌, ◌%◌, ◌<◌, sum, take}
use Rattle.hall_core.proofs.shard.added.Given as goal

abbrev pub invariant-loop-byte : goal.invariant-loop-byte
invariant-loop-byte l = (l.remainder < l.shards) × (l.remainder ≡ (l.before + sum (take l.byte-index l.bytes)) % l.shards)
