-- One need of a connection, and what a host does for it. Between two needs others may act on the same desk.
use Rattle.std.specs.Prelude.{◌≡◌, ◌⊎◌, true, false, Bool, IfSome, [], ◌∷◌, ◌++◌, length}
use Rattle.conn_core.specs.declared.need.Need as need
use Rattle.conn_core.specs.declared.need.Need.TheVariants as needs
use Rattle.conn_core.specs.Calls.{kind_at}
use Rattle.conn_core.specs.Stands.{ConnView, Holds, Stands, State, served}
use Rattle.conn_core.specs.Trace.{Need, Bytes, Look, Enter, Begin, Park, Leave, Resume, Finish, Retire, Write, Close, Replies}
use Rattle.conn_loop.specs.Answered.{Step, due}

-- a need of the host
abbrev pub asks_host : need.Need → Bool
asks_host needs.Bytes = false
asks_host needs.Write = false
asks_host needs.Close = false
asks_host other = true

module _ {R P T : Type 0} where
  abbrev pub kind_of : Need R P T → need.Need
  kind_of Bytes = needs.Bytes
  kind_of (Look app) = needs.Look
  kind_of (Enter key) = needs.Enter
  kind_of (Begin rules request) = needs.Begin
  kind_of (Park ticket life half) = needs.Park
  kind_of (Leave ticket) = needs.Leave
  kind_of (Resume key) = needs.Resume
  kind_of (Finish half response) = needs.Finish
  kind_of (Retire half) = needs.Retire
  kind_of (Write bytes) = needs.Write
  kind_of (Close how) = needs.Close

  -- a need is done, with these replies to it. A Look without a reply found no memory, and is not done
  abbrev pub met : Need R P T → Replies R P T → State R P T → State R P T
  met (Look app) [] s = s
  met n mine s =
      record { size = s.size; input = s.input; ended = s.ended; replies = s.replies ++ mine; past = s.past ++ n ∷ [] }

module _ {R P T Desk : Type 0} where
  -- the ticket that it holds is held on this desk
  abbrev pub IsHeld : (Desk → T → Type 0) → Desk → ConnView R P T → Type 0
  IsHeld holds desk c = IfSome c.hold (λ hold. holds desk hold.ticket)

  -- The connection c stood for the state s, and is d now. The host gave its need these replies by a step: each that is
  -- due, or none, out of memory. One that was out of memory stays so, and asks for nothing that is replied to.
  pub record Met (serves : Step R P T Desk) (c d : ConnView R P T) (a b : Desk) (s : State R P T) : Type 0 where
    pub need : Need R P T
    pub kind : kind_of need ≡ kind_at c.stage
    pub mine : Replies R P T
    pub step : serves a need mine b
    pub replied : (length mine ≡ due need) ⊎ ((mine ≡ []) × (d.broken ≡ true))
    pub stays : c.broken ≡ true → (d.broken ≡ true) × (due need ≡ 0)
    pub stands : Stands d (met need mine s)

  -- There was no memory to end a request: the desk is as it was, and the connection out of memory since.
  pub record Forgone (c d : ConnView R P T) (a b : Desk) (s : State R P T) : Type 0 where
    pub kind : needs.Retire ≡ kind_at c.stage
    pub desk : b ≡ a
    pub whole : c.broken ≡ false
    pub broken : d.broken ≡ true
    pub half : P
    pub stands : Stands d (served (Retire half) s)

  abbrev pub IsMet : Step R P T Desk → ConnView R P T → ConnView R P T → Desk → Desk → State R P T → Type 0
  IsMet serves c d a b s = Met serves c d a b s ⊎ Forgone c d a b s

  -- its need was met, whatever it stood for
  abbrev pub Meets : Step R P T Desk → ConnView R P T → ConnView R P T → Desk → Desk → Type 0
  Meets serves c d a b = (s : State R P T) → Stands c s → IsMet serves c d a b s

  -- it stands for some state and asks the host for this, and its ticket is held
  pub record Asks (n : need.Need) (holds : Desk → T → Type 0) (desk : Desk) (c : ConnView R P T) : Type 0 where
    pub kind : n ≡ kind_at c.stage
    pub state : State R P T
    pub stands : Stands c state
    pub hold : Holds c.stage c.hold
    pub held : IsHeld holds desk c
