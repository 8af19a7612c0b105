-- The commands of a script as turns of a run, and what is printed of them.
use Rattle.std.specs.Prelude.{◌≡◌, ◌≢◌, ◌≤◌, ℕ, ◌+◌, ◌-◌, ◌^◌, List, [], ◌∷◌, ◌++◌, flat_map, map, min, codes, Option, Some, None, Result, Ok, Err, IfSome, if◌then◌else◌}
use Rattle.std.specs.Arc.{arc_value}
use Rattle.agent_conf.specs.declared.conf.Conf.{Conf}
use Rattle.agent_conf.specs.declared.load_fault.LoadFault.{LoadFault}
use Rattle.agent_conf.specs.declared.load_fault.LoadFault.TheVariants as faults
use Rattle.agent_conf.specs.LoadFaults.{Tells, is_read_fault}
use Rattle.agent_conf.specs.Loading.{loaded}
use Rattle.agent_conf.specs.Seen.{seen}
use Rattle.conn_core.specs.declared.seen.Seen.{Seen}
use Rattle.replay_text.specs.declared.command.Command as script_command
use Rattle.replay_text.specs.declared.command.Command.TheVariants as commands
use Rattle.replay_text.specs.Results.{seen_text}
use Rattle.sec_read.specs.FileWords.{Named}
use Rattle.shelf.specs.declared.apps.Apps.{Apps}
use Rattle.world_core.specs.declared.step.Step.{Step}
use Rattle.world_core.specs.declared.step.Step.TheVariants as steps
use Rattle.world_core.specs.Standing.{IsOpening, Shared}
use Rattle.world_core.specs.Steps.{Runs}
use Rattle.world_core.specs.World.{World}
use Rattle.agent_main.specs.declared.entry.Entry.{Entry}
use Rattle.agent_main.specs.declared.entry.Shown as showing
use Rattle.agent_main.specs.declared.entry.Shown.TheVariants as showns
use Rattle.agent_main.specs.declared.playing.Limits.{Limits}
use Rattle.reports.specs.FaultLines.{fault_line}

abbrev pub Command : Type 0
Command = script_command.Command

-- ---- loading

-- a configuration with its applications, or a fault
abbrev pub Load : Type 0
Load = Result (Conf × Apps Shared) LoadFault

-- it is what loading under a name answers, where files tell their content, and may be any where they don't
abbrev pub Loads : Option Named → List ℕ → Load → Type 0
Loads content name answer = IfSome content (λ told. Tells (seen arc_value) answer (loaded told name))

-- ---- turns

-- a step and what it showed, or the fault of a reload that was refused: that is no step
pub data Turn : Type 0 where
  made : Step Shared → Seen → Turn
  kept : LoadFault → Turn

module _ (content : Option Named) (name : List ℕ) where
  -- the step that a command makes
  abbrev pub Makes : Command → Step Shared → Type 0
  Makes (commands.Open n) step = step ≡ steps.Open n
  Makes (commands.Feed n bytes) step = step ≡ steps.Feed n bytes
  Makes (commands.End n) step = step ≡ steps.End n
  Makes (commands.Act n) step = step ≡ steps.Act n
  Makes (commands.Tick units) step = step ≡ steps.Tick units
  Makes (commands.Expire shard) step = step ≡ steps.Expire shard
  Makes commands.Reload step =
      (conf : Conf) × (apps : Apps Shared) × Loads content name (Ok (conf, apps)) × (step ≡ steps.Reload apps)
  Makes commands.Stats step = step ≡ steps.Stats

  -- the fault for which a command makes none
  abbrev pub Keeps : Command → LoadFault → Type 0
  Keeps commands.Reload fault = (fault ≢ faults.NoMemory) × Loads content name (Err fault)
  Keeps other fault = ⊥

  abbrev pub IsTurn : Command → Turn → Type 0
  IsTurn c (made step showed) = Makes c step
  IsTurn c (kept fault) = Keeps c fault

  -- each is the turn of its command
  abbrev pub AreTurns : List (Command × Turn) → Type 0
  AreTurns [] = Unit {0}
  AreTurns (e ∷ log) = IsTurn e.0 e.1 × AreTurns log

abbrev pub steps_in : Turn → List (Step Shared × Seen)
steps_in (made step showed) = (step, showed) ∷ []
steps_in (kept fault) = []

-- commands, each with its turn
abbrev pub Log : Type 0
Log = List (Command × Turn)

abbrev pub steps_of : Log → List (Step Shared × Seen)
steps_of log = flat_map (λ e. steps_in e.1) log

-- ---- what is shown

abbrev pub conn_of : Command → Option ℕ
conn_of (commands.Open n) = Some n
conn_of (commands.Feed n bytes) = Some n
conn_of (commands.End n) = Some n
conn_of (commands.Act n) = Some n
conn_of other = None

abbrev pub shard_of : Command → ℕ
shard_of (commands.Expire shard) = shard
shard_of other = 0

abbrev pub shown_in : Turn → showing.Shown
shown_in (made step showed) = showns.Step showed
shown_in (kept fault) = showns.Kept fault

abbrev pub entry_of : Command → showing.Shown → Entry
entry_of c shown = record { conn = conn_of c; shard = shard_of c; shown = shown }

abbrev pub entries_of : Log → List Entry
entries_of log = map (λ e. entry_of e.0 (shown_in e.1)) log

-- a count rose so often at least; it stands still at the end of u64
abbrev pub RoseBy : ℕ → ℕ → ℕ → Type 0
RoseBy times before now = min (times + before) (2 ^ 64 - 1) ≤ now

-- 1 for a reload for which a file could not be read
abbrev pub failed_read : LoadFault → ℕ
failed_read fault = if is_read_fault fault then 1 else 0

abbrev pub failed_read_in : showing.Shown → ℕ
failed_read_in (showns.Step showed) = 0
failed_read_in (showns.Kept fault) = failed_read fault

abbrev pub failed_reads : List Entry → ℕ
failed_reads [] = 0
failed_reads (e ∷ entries) = failed_read_in e.shown + failed_reads entries

-- what is printed of a command, where the configuration has that name
abbrev pub shown_text : List ℕ → Option ℕ → ℕ → showing.Shown → List ℕ
shown_text name conn shard (showns.Step showed) = seen_text conn shard showed
shown_text name conn shard (showns.Kept fault) = codes "kept " ++ fault_line name fault

unfoldable pub entry_text : List ℕ → Entry → List ℕ
entry_text name entry = shown_text name entry.conn entry.shard entry.shown

abbrev pub entries_text : List ℕ → List Entry → List ℕ
entries_text name entries = flat_map (entry_text name) entries

-- ---- the run

abbrev pub limits_of : Conf → Limits
limits_of conf = record { size = conf.size; shards = conf.shards; capacity = conf.capacity }

-- A run over these commands from the opening within these limits and with these applications, and what it shows. The
-- count of faults of the files, which was `before` and is `now`, rose for each reload that says that a read failed.
pub record Plays (content : Option Named) (name : List ℕ) (before now : ℕ) (limits : Limits) (apps : Apps Shared) (played : List Command) (entries : List Entry) : Type 0 where
  pub first : World Shared
  pub opens : IsOpening limits.size limits.shards limits.capacity apps first
  pub log : Log
  pub commands_are : map (λ e. e.0) log ≡ played
  pub turns : AreTurns content name log
  pub last : World Shared
  pub runs : Runs arc_value first (steps_of log) last
  pub entries_are : entries ≡ entries_of log
  pub reads : RoseBy (failed_reads entries) before now
