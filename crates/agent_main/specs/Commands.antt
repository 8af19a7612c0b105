-- What each command does, in the terms of its own definition.
use Rattle.std.specs.Prelude.{◌≡◌, ◌≢◌, ◌⊎◌, ℕ, List, Bool, true, false, Option, Ok, Err, IfSome}
use Rattle.waf_io.specs.Counts.{Rose}
use Rattle.sec_ast.specs.declared.listing.Listing.{Listing}
use Rattle.sec_read.specs.FileWords.{Named}
use Rattle.agent_conf.specs.declared.load_fault.LoadFault.{LoadFault}
use Rattle.agent_conf.specs.Loading.{loaded}
use Rattle.command_line.specs.declared.command.Command as command
use Rattle.command_line.specs.declared.command.Command.TheVariants as commands
use Rattle.reports.specs.Report.{Answers, FilesFailFirst, Prints, ReadFails, Says}
use Rattle.reports.specs.declared.exit_status.TheConstants.{DONE, DOOR_FAULT, OTHER_WORDS, READ_FAULT, REFUSED, UNFINISHED, WRITE_FAULT}
use Rattle.agent_main.specs.declared.words.TheConstants.{HELP, USAGE, VERSION}
use Rattle.agent_main.specs.Check.{checked}
use Rattle.agent_main.specs.Generate.{Generated}
use Rattle.agent_main.specs.Listings.{listing_under}
use Rattle.agent_main.specs.Replay.{Replayed}
use Rattle.agent_main.specs.Run.{Exits}
use Rattle.agent_main.specs.Words.{is_other, refuses_input, serves_connection, takes_input}

-- what stands around a command: what the input has left and how often it said that it ended, what the output holds,
-- and how often reading a file, reading the input and writing failed
pub record Around : Type 0 where
  pub left : Option (List ℕ)
  pub ends : ℕ
  pub held : Option (List ℕ)
  pub file_faults : ℕ
  pub read_faults : ℕ
  pub write_faults : ℕ

abbrev pub around : Option (List ℕ) → ℕ → Option (List ℕ) → ℕ → ℕ → ℕ → Around
around left ends held file_faults read_faults write_faults = record {
  left = left;
  ends = ends;
  held = held;
  file_faults = file_faults;
  read_faults = read_faults;
  write_faults = write_faults;
}

-- the command ended with this status
pub record Ran (content : Option Named) (c : command.Command) (result : ℕ) (a b : Around) : Type 0 where
  -- words that no command takes, or that ask for a text
  pub usage : is_other c ≡ true → Says result OTHER_WORDS USAGE.now a.held b.held
  pub taken : result ≡ OTHER_WORDS → is_other c ≡ true
  pub help : c ≡ commands.Help → Says result DONE HELP.now a.held b.held
  pub version : c ≡ commands.Version → Says result DONE VERSION.now a.held b.held
  -- check, where the files are told: the listings of all applications, or the line of the first fault
  pub checked_all : IfSome content (λ told. (name : List ℕ) → c ≡ commands.Check name
      → Answers result (checked told name) a.file_faults b.file_faults a.held b.held)
  -- once, where the files are told and the rules are refused
  pub refused : IfSome content (λ told. (name line : List ℕ) → c ≡ commands.Once name
      → listing_under told name ≡ Err line
      → Prints result REFUSED line a.file_faults b.file_faults a.held b.held × (b.left ≡ a.left))
  -- once, where the files are told and the rules are not refused: the connection under them
  pub served : IfSome content (λ told. (name : List ℕ) (rules : Listing) → c ≡ commands.Once name
      → listing_under told name ≡ Ok rules
      → Exits result rules a.left b.left a.ends b.ends a.held b.held
      ⊎ FilesFailFirst result a.file_faults b.file_faults a.left b.left a.held b.held)
  -- replay, where the input is told: what a run over the script shows, or the line of the first fault; what loading
  -- answers is known where the files are told
  pub replayed : IfSome a.left (λ text. (plain : Bool) (name : List ℕ) → c ≡ commands.Replay plain name
      → Replayed content name a.file_faults b.file_faults result text a.held b.held
      ⊎ (ReadFails result a.file_faults b.file_faults a.held b.held
      ⊎ ReadFails result a.read_faults b.read_faults a.held b.held))
  -- replay, where the files are told and the configuration is refused
  pub unloaded : IfSome content (λ told. (plain : Bool) (name : List ℕ) (fault : LoadFault)
      → c ≡ commands.Replay plain name → loaded told name ≡ Err fault → b.left ≡ a.left)
  -- generate: the counts of what a run over the script of a seed shows
  pub generated : (seed count : ℕ) → c ≡ commands.Generate seed count → Generated result seed count a.held b.held
  -- what takes nothing of the input
  pub untouched : takes_input c ≡ false → b.left ≡ a.left
  pub unread : result ≡ REFUSED → refuses_input c ≡ false → b.left ≡ a.left
  -- causes, whatever is told
  pub once_alone : result ≡ UNFINISHED → serves_connection c ≡ true
  pub no_door : result ≢ DOOR_FAULT
  pub read_fault : result ≡ READ_FAULT → Rose a.file_faults b.file_faults ⊎ Rose a.read_faults b.read_faults
  pub write_fault : result ≡ WRITE_FAULT → Rose a.write_faults b.write_faults
