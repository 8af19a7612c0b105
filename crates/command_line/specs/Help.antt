-- The words that ask for help or for the version. They are looked for before clap reads the words.
use Rattle.std.specs.Prelude.{ℕ, Bool, false, List, [], ◌∷◌, ◌&&◌, ◌||◌, codes}
use Rattle.std.specs.List.{list_any}
use Rattle.std.specs.Str.{bytes_eq}
use Rattle.command_line.specs.Definition.{agent}

abbrev pub is_help_flag : List ℕ → Bool
is_help_flag word = bytes_eq word (codes "--help") || bytes_eq word (codes "-h")

-- the name of a command
abbrev pub is_command : List ℕ → Bool
is_command word = list_any (λ command. bytes_eq word command.name) agent.subs

-- `help`, or the flag alone or after a command's name
abbrev pub asks_help : List (List ℕ) → Bool
asks_help (word ∷ []) = is_help_flag word || bytes_eq word (codes "help")
asks_help (name ∷ word ∷ []) = is_command name && is_help_flag word
asks_help other = false

abbrev pub asks_version : List (List ℕ) → Bool
asks_version (word ∷ []) = bytes_eq word (codes "--version") || bytes_eq word (codes "-V")
asks_version other = false
