-- Which shard a key belongs to: the sum of its bytes, over the number of shards.
use Rattle.std.specs.Prelude.{ℕ, ◌+◌, ◌%◌, sum}
use Rattle.hall_core.specs.declared.Key.{Key}

abbrev pub shard_of : ℕ → Key → ℕ
shard_of shards key = (sum key.app + sum key.id) % shards
