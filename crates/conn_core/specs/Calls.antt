-- When a call may be made, and the state after an answer.
use Rattle.std.specs.Prelude.{◌≡◌, ℕ, Bool, true, false, Option, Some, None, List, []}
use Rattle.spop_frame.specs.declared.status.TheConstants.{NO_MEMORY}
use Rattle.spop_hello.specs.Frames.{disconnect}
use Rattle.spop_web.specs.declared.answer.AckError.TheVariants as errors
use Rattle.conn_core.specs.declared.answer.LookAnswer as lookings
use Rattle.conn_core.specs.declared.answer.LookAnswer.TheVariants as looks
use Rattle.conn_core.specs.declared.answer.EntryAnswer as enterings
use Rattle.conn_core.specs.declared.answer.EntryAnswer.TheVariants as entries
use Rattle.conn_core.specs.declared.answer.BegunAnswer as beginnings
use Rattle.conn_core.specs.declared.answer.BegunAnswer.TheVariants as beguns
use Rattle.conn_core.specs.declared.answer.EndedAnswer as endings
use Rattle.conn_core.specs.declared.answer.EndedAnswer.TheVariants as ends
use Rattle.conn_core.specs.declared.need.Closing as closing
use Rattle.conn_core.specs.declared.need.Need as need
use Rattle.conn_core.specs.declared.need.Need.TheVariants as needs
use Rattle.conn_core.specs.declared.stage.Stage.{Stage}
use Rattle.conn_core.specs.declared.stage.Stage.TheVariants as at
use Rattle.conn_core.specs.Trace.{Look, Reply, Found, UnknownApp, Entered, Refused, Interrupted, Goes, Resumed, NotParked, Ended}
use Rattle.conn_core.specs.Stands.{State, served, replied}

module _ {R P : Type 0} where
  -- the need that waits, by its kind
  abbrev pub kind_at : Stage R P → need.Need
  kind_at at.Bytes = needs.Bytes
  kind_at at.Ready = needs.Bytes
  kind_at (at.Look id key request) = needs.Look
  kind_at (at.Enter id key request rules life) = needs.Enter
  kind_at (at.Entering id request rules life) = needs.Enter
  kind_at (at.Begin id request rules) = needs.Begin
  kind_at (at.Begun id) = needs.Begin
  kind_at (at.Park id half) = needs.Park
  kind_at (at.Leave id verdict) = needs.Leave
  kind_at (at.Retire id half) = needs.Retire
  kind_at (at.Retiring id) = needs.Retire
  kind_at (at.Resume id key response) = needs.Resume
  kind_at (at.Resuming id response) = needs.Resume
  kind_at (at.Finish id half response) = needs.Finish
  kind_at (at.Finishing id) = needs.Finish
  kind_at (at.Write bytes then) = needs.Write
  kind_at at.LastLeave = needs.Leave
  kind_at at.LastWrite = needs.Write
  kind_at (at.Close how) = needs.Close

  -- it waits for this need
  abbrev pub IsAt : need.Need → Stage R P → Type 0
  IsAt needs.Bytes at.Bytes = Unit {0}
  IsAt needs.Look (at.Look id key request) = Unit {0}
  IsAt needs.Enter (at.Enter id key request rules life) = Unit {0}
  IsAt needs.Begin (at.Begin id request rules) = Unit {0}
  IsAt needs.Park (at.Park id half) = Unit {0}
  IsAt needs.Leave (at.Leave id verdict) = Unit {0}
  IsAt needs.Leave at.LastLeave = Unit {0}
  IsAt needs.Resume (at.Resume id key response) = Unit {0}
  IsAt needs.Finish (at.Finish id half response) = Unit {0}
  IsAt needs.Retire (at.Retire id half) = Unit {0}
  IsAt needs.Write (at.Write bytes then) = Unit {0}
  IsAt needs.Write at.LastWrite = Unit {0}
  IsAt needs.Close (at.Close how) = Unit {0}
  IsAt need stage = ⊥

  -- the values of this need were taken, and its answer may be given
  abbrev pub Owes : need.Need → Stage R P → Type 0
  Owes needs.Enter (at.Entering id request rules life) = Unit {0}
  Owes needs.Begin (at.Begun id) = Unit {0}
  Owes needs.Resume (at.Resuming id response) = Unit {0}
  Owes needs.Finish (at.Finishing id) = Unit {0}
  Owes needs.Retire (at.Retiring id) = Unit {0}
  Owes need stage = ⊥

  -- the stages at a need that only a connection out of memory comes to
  abbrev pub is_last : Stage R P → Bool
  is_last at.LastLeave = true
  is_last at.LastWrite = true
  is_last stage = false

  -- the calls of this need may be made, by a connection that is out of memory or not
  abbrev pub At : need.Need → Bool → Stage R P → Type 0
  At needs.Leave broken stage = IsAt needs.Leave stage × (broken ≡ is_last stage)
  At needs.Write broken stage = IsAt needs.Write stage × (broken ≡ is_last stage)
  At needs.Close broken stage = IsAt needs.Close stage
  At need broken stage = IsAt need stage × (broken ≡ false)

  -- a key can be taken
  abbrev pub HasKey : Stage R P → Type 0
  HasKey (at.Enter id key request rules life) = Unit {0}
  HasKey (at.Resume id key response) = Unit {0}
  HasKey stage = ⊥

  -- the application that is looked for, the bytes to be written, how it closes
  abbrev pub app_of : Stage R P → List ℕ
  app_of (at.Look id key request) = key.app
  app_of stage = []

  abbrev pub out_of : Stage R P → List ℕ
  out_of (at.Write bytes then) = bytes
  out_of at.LastWrite = disconnect NO_MEMORY
  out_of stage = []

  abbrev pub closing_of : Stage R P → Option closing.Closing
  closing_of (at.Close how) = Some how
  closing_of stage = None

module _ {R P T : Type 0} where
  -- the state after an answer; out of memory is no reply
  abbrev pub looked_up : List ℕ → lookings.LookAnswer R → State R P T → State R P T
  looked_up app (looks.Found rules settings) s = replied (Found rules settings) (served (Look app) s)
  looked_up app looks.UnknownApp s = replied UnknownApp (served (Look app) s)
  looked_up app looks.NoMemory s = s

  abbrev pub entry_of : enterings.EntryAnswer T → Reply R P T
  entry_of (entries.Entered ticket) = Entered ticket
  entry_of entries.IdInUse = Refused errors.IdInUse
  entry_of entries.Full = Refused errors.TableFull
  entry_of entries.Worn = Refused errors.Worn

  abbrev pub begun_with : beginnings.BegunAnswer P → State R P T → State R P T
  begun_with (beguns.Interrupted verdict) s = replied (Interrupted verdict) s
  begun_with (beguns.Goes half) s = replied (Goes half) s
  begun_with beguns.NoMemory s = s

  abbrev pub claim_of : Option P → Reply R P T
  claim_of None = NotParked
  claim_of (Some half) = Resumed half

  abbrev pub ended_with : endings.EndedAnswer → State R P T → State R P T
  ended_with (ends.Verdict verdict) s = replied (Ended verdict) s
  ended_with ends.NoMemory s = s
