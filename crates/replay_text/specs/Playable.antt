-- Commands that can be made in their order, over so many shards.
use Rattle.std.specs.Prelude.{◌≡◌, ℕ, Bool, true, List, [], ◌∷◌, ◌++◌, nat_lt}
use Rattle.replay_text.specs.declared.command.Command.{Command}
use Rattle.replay_text.specs.declared.command.Command.TheVariants as commands
use Rattle.replay_text.specs.Script.{is_in_order}

-- the shard that it names is one of so many
abbrev pub names_shard : ℕ → Command → Bool
names_shard shards (commands.Expire shard) = nat_lt shard shards
names_shard shards other = true

-- after those of the past each command is in order, and names a shard that there is
abbrev pub IsPlayable : ℕ → List Command → List Command → Type 0
IsPlayable shards past [] = Unit {0}
IsPlayable shards past (c ∷ rest) =
    (is_in_order past c ≡ true) × (names_shard shards c ≡ true) × IsPlayable shards (past ++ c ∷ []) rest
