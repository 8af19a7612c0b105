-- What the words of a command line ask for, over clap's reading of them.
use Rattle.std.specs.Prelude.{ℕ, ◌^◌, ◌-◌, List, [], ◌∷◌, Option, None, Some, codes, if◌then◌else◌, option_and_then, option_map, unwrap_or}
use Rattle.std.specs.List.{list_all}
use Rattle.std.specs.Str.{bytes_eq, is_utf8}
use Rattle.clap.specs.Words.{Kinds, Row, fault_of, first_of, subcommand_of}
use Rattle.command_line.specs.Definition.{agent}
use Rattle.command_line.specs.Help.{asks_help, asks_version}
use Rattle.command_line.specs.Numbers.{number_in}
use Rattle.command_line.specs.declared.command.Command.{Command}
use Rattle.command_line.specs.declared.command.Command.TheVariants.{Check, Once, Replay, Generate, Serve, Help, Version, Other}
use Rattle.command_line.specs.declared.names.TheConstants.{CHECK, CONF, COUNT, GENERATE, ONCE, PLAIN, REPLAY, RULES, SEED, SERVE}
use Rattle.command_line.specs.declared.values.TheConstants.{MIN_COUNT, MAX_COUNT}

-- what clap found for a word: it has a value for each that has to be there, and for each flag
abbrev pub value_of : List ℕ → List Row → List ℕ
value_of id rows = unwrap_or (first_of id rows) []

-- of the texts of SEED, which is any number of 64 bits, and of COUNT
abbrev pub generate_of : List ℕ → List ℕ → Option Command
generate_of seed count =
    option_and_then (λ n. option_map (Generate n) (number_in MIN_COUNT MAX_COUNT count))
    (number_in 0 (2 ^ 64 - 1) seed)

-- a subcommand by its name, with what clap found for its words; a flag that is there has the value `true`
abbrev pub command_named : List ℕ → List Row → Command
command_named name rows =
    if bytes_eq name CHECK.now then Check (value_of CONF.now rows)
    else (if bytes_eq name ONCE.now then Once (value_of RULES.now rows)
    else (if bytes_eq name REPLAY.now
    then Replay (bytes_eq (value_of PLAIN.now rows) (codes "true")) (value_of CONF.now rows)
    else (if bytes_eq name GENERATE.now
    then unwrap_or (generate_of (value_of SEED.now rows) (value_of COUNT.now rows)) Other
    else (if bytes_eq name SERVE.now then Serve (value_of CONF.now rows)
    else Other))))

abbrev pub command_in : Option (List ℕ × List Row) → Command
command_in None = Other
command_in (Some subcommand) = command_named subcommand.0 subcommand.1

-- a command, where clap finds no fault
abbrev pub without_fault : Kinds → Command → Command
without_fault [] command = command
without_fault (kind ∷ kinds) command = Other

-- the command that texts are
abbrev pub text_command : List (List ℕ) → Command
text_command words =
    if asks_help words then Help
    else (if asks_version words then Version
    else without_fault (fault_of agent words) (command_in (subcommand_of agent words)))

-- the words, where each is UTF-8
abbrev pub texts_in : List (List ℕ) → Option (List (List ℕ))
texts_in words = if list_all is_utf8 words then Some words else None

-- what the words ask for, without the program's name
abbrev pub command_of : List (List ℕ) → Command
command_of words = unwrap_or (option_map text_command (texts_in words)) Other
