-- How the messages of a NOTIFY are spelled (SPOE.txt, 3.2.6).
use Rattle.std.specs.Prelude.{◌≡◌, ℕ, ◌<◌, List, ◌∷◌, ◌++◌, length}
use Rattle.spop_data.specs.Data.{IsCounted, SpellsPair}
use Rattle.spop_data.specs.Lists.{SpellsEach}
use Rattle.spop_talk.specs.declared.message.Message.{Message}

-- a name, a byte with the number of arguments, and these
pub record SpellsMessage (bytes : List ℕ) (m : Message) : Type 0 where
  pub name : List ℕ
  pub args : List ℕ
  pub name_is : IsCounted name m.name
  pub few : length m.args < 256
  pub args_is : SpellsEach SpellsPair args m.args
  pub is : bytes ≡ name ++ (length m.args ∷ args)

-- the bytes are no messages one after the other
abbrev pub IsNoList : List ℕ → Type 0
IsNoList payload = (ms : List Message) → SpellsEach SpellsMessage payload ms → ⊥
