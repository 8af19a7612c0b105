-- What the machine does between two needs.
use Rattle.std.specs.Prelude.{◌≡◌, ℕ, ◌<◌, true, false, Option, Some, None, List, ◌∷◌, ◌++◌, length}
use Rattle.spop_frame.specs.declared.frame.Frame.{Frame}
use Rattle.spop_hello.specs.Frames.{disconnect}
use Rattle.spop_talk.specs.declared.message.Message.{Message}
use Rattle.spop_web.specs.declared.request.Asked.{Asked}
use Rattle.spop_web.specs.declared.response.Told.{Told}
use Rattle.conn_core.specs.declared.need.Closing as closing
use Rattle.conn_core.specs.declared.need.Closing.TheVariants as closings
use Rattle.conn_core.specs.declared.outcome.Outcome as outcome
use Rattle.conn_core.specs.declared.stage.Stage.{Stage}
use Rattle.conn_core.specs.declared.stage.Stage.TheVariants as at
use Rattle.conn_core.specs.Outcome.{actions_of}
use Rattle.conn_core.specs.Stands.{ConnView, State, Framed, Plain, Stands}

module _ {R P : Type 0} where
  -- it holds nothing of a need
  abbrev pub IsBlank : Stage R P → Type 0
  IsBlank at.Bytes = Unit {0}
  IsBlank at.Ready = Unit {0}
  IsBlank stage = ⊥

  -- what comes after the bytes are written
  abbrev pub after_write : Option closing.Closing → Stage R P
  after_write None = at.Bytes
  after_write (Some how) = at.Close how

module _ {R P T : Type 0} where
  -- d goes on where c did
  abbrev pub GoesOn : ConnView R P T → ConnView R P T → Type 0
  GoesOn c d = (s : State R P T) → Plain c s → Plain d s

  -- d stands, between two calls, for what c did
  abbrev pub ComesTo : ConnView R P T → ConnView R P T → Type 0
  ComesTo c d = (s : State R P T) → Plain c s → Stands d s

  -- the same of what goes on at this frame
  abbrev pub GoesOnAt : Frame → ConnView R P T → ConnView R P T → Type 0
  GoesOnAt f c d = (s : State R P T) → Framed f c s → Plain d s

  abbrev pub ComesFrom : Frame → ConnView R P T → ConnView R P T → Type 0
  ComesFrom f c d = (s : State R P T) → Framed f c s → Stands d s

  -- the agent leaves with that status
  abbrev pub leaving : ℕ → ConnView R P T → ConnView R P T
  leaving status c = record c { stage = at.Write (disconnect status) (Some (closings.Ended status)) }

  -- out of memory, with no ticket held
  abbrev pub starved : ConnView R P T → ConnView R P T
  starved c = record c { stage = at.LastWrite; broken = true }

  -- a message has that outcome, and the next one is to be taken
  abbrev pub answered : Option (List ℕ) → outcome.Outcome → ConnView R P T → ConnView R P T
  answered id outcome c = record c { stage = at.Ready; actions = c.actions ++ actions_of id outcome }

  -- the rules of a request, and the request of a response, are asked for
  abbrev pub asking : Asked → ConnView R P T → ConnView R P T
  asking a c = record c { stage = at.Look a.request.id (record { app = a.app; id = a.request.id }) a.request }

  abbrev pub telling : Told → ConnView R P T → ConnView R P T
  telling t c = record c { stage = at.Resume t.id (record { app = t.app; id = t.id }) t.response }

  -- this message was the next one
  abbrev pub with_message : Message → ConnView R P T → ConnView R P T
  with_message m c = record c { left = m ∷ c.left }

  -- d is past this message
  abbrev pub IsPast : Message → ConnView R P T → ConnView R P T → Type 0
  IsPast m c d =
      (d.stage ≡ at.Ready) × (d.broken ≡ false) × (d.left ≡ c.left) × (d.unread ≡ c.unread)
      × GoesOn (with_message m c) d

  -- d is past a message, and past a frame
  abbrev pub AtNextMessage : ConnView R P T → ConnView R P T → Type 0
  AtNextMessage c d =
      (d.stage ≡ at.Ready) × (d.broken ≡ false) × (d.unread ≡ c.unread) × (length d.left < length c.left)
      × GoesOn c d

  abbrev pub AtNextFrame : ConnView R P T → ConnView R P T → Type 0
  AtNextFrame c d = (d.stage ≡ at.Bytes) × (d.broken ≡ false) × (length d.unread < length c.unread) × GoesOn c d
