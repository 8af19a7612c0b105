-- Which connections were opened.
use Rattle.std.specs.Prelude.{◌≡◌, ℕ, ◌==◌, false, List, length, get_or}
use Rattle.std.specs.List.{list_any}
use Rattle.replay_text.specs.declared.opened.Opened.{Opened}
use Rattle.replay_text.specs.declared.opened.TheConstants.{CONNECTIONS}

-- the flags are set of these numbers, and of no other
abbrev pub Flags : Opened → List ℕ → Type 0
Flags opened numbers =
    (length opened.flags.items ≡ CONNECTIONS)
    × ((conn : ℕ) → get_or opened.flags.items conn false ≡ list_any (λ c. c == conn) numbers)
