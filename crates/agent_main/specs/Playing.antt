-- What the parts of `replay` owe one another.
use Rattle.std.specs.Prelude.{◌≡◌, ◌<◌, ℕ, List, length, Option, Some, None, Result, Ok, Err}
use Rattle.std.specs.Arc.{arc_value}
use Rattle.sec_read.specs.FileWords.{Named}
use Rattle.world_core.specs.declared.step.Step.{Step}
use Rattle.world_core.specs.Standing.{May, Moves, Shared, SharedView}
use Rattle.reports.specs.declared.faults.CommandFault as command
use Rattle.reports.specs.declared.faults.CommandFault.TheVariants as faults
use Rattle.agent_main.specs.declared.entry.Shown as showing
use Rattle.agent_main.specs.declared.playing.Plan as planning
use Rattle.agent_main.specs.declared.playing.Plan.TheVariants as plans
use Rattle.agent_main.specs.declared.script.TheConstants.{SCRIPT_LIMIT}
use Rattle.agent_main.specs.Replay.{IsReplay, script_line}
use Rattle.agent_main.specs.Turns.{Command, IsTurn, Keeps, Makes, Turn, failed_read, kept, made, shown_in}

-- all bytes were taken, or they are too many; a read that failed and no memory say nothing
abbrev pub Takes : Result (Option (List ℕ)) command.CommandFault → List ℕ → Type 0
Takes (Ok (Some taken)) left = taken ≡ left
Takes (Ok None) left = SCRIPT_LIMIT < length left
Takes (Err (faults.Line line)) left = ⊥
Takes (Err faults.ReadFault) left = Unit {0}
Takes (Err faults.NoMemory) left = Unit {0}

abbrev pub IsBadLine : command.CommandFault → ℕ → Type 0
IsBadLine (faults.Line text) line = text ≡ script_line line
IsBadLine faults.ReadFault line = ⊥
IsBadLine faults.NoMemory line = Unit {0}

-- the text of a run, or the line of the first fault; a read that failed and no memory say nothing
abbrev pub TellsText : Option Named → List ℕ → ℕ → ℕ → List ℕ → Result (List ℕ) command.CommandFault → Type 0
TellsText content name before now text (Ok out) = IsReplay content name before now text (Ok out)
TellsText content name before now text (Err (faults.Line line)) = IsReplay content name before now text (Err line)
TellsText content name before now text (Err faults.ReadFault) = Unit {0}
TellsText content name before now text (Err faults.NoMemory) = Unit {0}

-- what a command comes to before it is a turn: its step, or the fault for which it makes none
abbrev pub IsPlan : Option Named → List ℕ → Command → planning.Plan → Type 0
IsPlan content name c (plans.Step step) = Makes content name c step
IsPlan content name c (plans.Kept fault) = Keeps content name c fault

abbrev pub failed_read_by : planning.Plan → ℕ
failed_read_by (plans.Step step) = 0
failed_read_by (plans.Kept fault) = failed_read fault

-- its step may be made
abbrev pub MayPlay : Option Named → List ℕ → SharedView → Command → Type 0
MayPlay content name world c = (step : Step Shared) → Makes content name c step → May world step

-- the turn was made
abbrev pub Turns : SharedView → Turn → SharedView → Type 0
Turns old (made step showed) new = Moves arc_value old step showed new
Turns old (kept fault) new = new ≡ old

-- a turn of the command was made, which showed this
pub record HasPlayed (content : Option Named) (name : List ℕ) (old : SharedView) (c : Command) (shown : showing.Shown) (new : SharedView) : Type 0 where
  pub turn : Turn
  pub is_turn : IsTurn content name c turn
  pub turns : Turns old turn new
  pub shown_is : shown ≡ shown_in turn
