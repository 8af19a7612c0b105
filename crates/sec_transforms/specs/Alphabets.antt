-- Bytes that are changed one by one.
use Rattle.std.specs.Prelude.{ℕ, Bool, not, cond, ◌==◌}
use Rattle.sec_decoders.specs.declared.characters.TheConstants.{BACKSLASH, PLUS, SPACE}
use Rattle.sec_transforms.specs.declared.characters.TheConstants.{SLASH}

abbrev pub is_not_null : ℕ → Bool
is_not_null c = not (c == 0)

abbrev pub null_as_space : ℕ → ℕ
null_as_space c = cond (c == 0) SPACE c

abbrev pub plus_as_space : ℕ → ℕ
plus_as_space c = cond (c == PLUS) SPACE c

-- paths of Windows part their pieces by either
abbrev pub backslash_as_slash : ℕ → ℕ
backslash_as_slash c = cond (c == BACKSLASH) SLASH c
