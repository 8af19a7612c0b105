-- What `replay` prints: what a run over the commands of a script shows.
use Rattle.std.specs.Prelude.{◌≡◌, ◌⊎◌, ℕ, ◌+◌, true, not, List, ◌++◌, length, position, nat_lt, codes, decimal, Option, Some, None, Result, Ok, Err, if◌then◌else◌}
use Rattle.agent_conf.specs.LoadFaults.{is_told}
use Rattle.agent_conf.specs.declared.conf.Conf.{Conf}
use Rattle.replay_text.specs.Playable.{names_shard}
use Rattle.replay_text.specs.Script.{script}
use Rattle.sec_parts.specs.Results.{◌>>=◌}
use Rattle.sec_read.specs.FileWords.{Named}
use Rattle.shelf.specs.declared.apps.Apps.{Apps}
use Rattle.world_core.specs.Standing.{Shared}
use Rattle.agent_main.specs.declared.entry.Entry.{Entry}
use Rattle.agent_main.specs.declared.script.TheConstants.{SCRIPT_LIMIT}
use Rattle.reports.specs.FaultLines.{fault_line}
use Rattle.reports.specs.Report.{OutOfMemory, Reported}
use Rattle.agent_main.specs.Turns.{Command, Load, Loads, Plays, entries_text, limits_of}

-- ---- the script

-- the commands, unless the one at this place is bad; lines are counted from 1
abbrev pub unless_at : Option ℕ → List Command → Result (List Command) ℕ
unless_at None found = Ok found
unless_at (Some place) found = Err (place + 1)

-- the first that names a shard which there is not is bad
abbrev pub known : ℕ → List Command → Result (List Command) ℕ
known shards found = unless_at (position (λ c. not (names_shard shards c)) found) found

abbrev pub for_shards : ℕ → List ℕ → Result (List Command) ℕ
for_shards shards text = script text >>= known shards

-- the commands, or the first bad line; a text that is too long is bad in its first
abbrev pub script_in : ℕ → List ℕ → Result (List Command) ℕ
script_in shards text = if nat_lt SCRIPT_LIMIT (length text) then Err 1 else for_shards shards text

abbrev pub script_line : ℕ → List ℕ
script_line line = codes "input:" ++ decimal line ++ codes ": Bad\n"

-- the line in the place of its number
abbrev pub in_script : Result (List Command) ℕ → Result (List Command) (List ℕ)
in_script (Ok found) = Ok found
in_script (Err line) = Err (script_line line)

-- ---- what the command comes to

-- a text to print, or the line of a fault
abbrev pub Told : Type 0
Told = Result (List ℕ) (List ℕ)

module _ (content : Option Named) (name : List ℕ) (before now : ℕ) where
  -- the text of a run over the commands, or the line that is bad
  abbrev pub IsRun : Conf → Apps Shared → Result (List Command) (List ℕ) → Told → Type 0
  IsRun conf apps (Ok played) told = (entries : List Entry)
      × Plays content name before now (limits_of conf) apps played entries × (told ≡ Ok (entries_text name entries))
  IsRun conf apps (Err line) told = told ≡ Err line

  -- after loading, over the script of this text
  abbrev pub IsRunAfter : Load → List ℕ → Told → Type 0
  IsRunAfter (Ok found) text told = IsRun found.0 found.1 (in_script (script_in found.0.shards text)) told
  IsRunAfter (Err fault) text told = (is_told fault ≡ true) × (told ≡ Err (fault_line name fault))

  -- a fault of the configuration comes before one of the script
  abbrev pub IsReplay : List ℕ → Told → Type 0
  IsReplay text told = (answer : Load) × Loads content name answer × IsRunAfter answer text told

  -- it was reported; nothing was where memory ran out
  abbrev pub Replayed : ℕ → List ℕ → Option (List ℕ) → Option (List ℕ) → Type 0
  Replayed result text old new =
      ((told : Told) × IsReplay text told × Reported result told old new) ⊎ OutOfMemory result old new
