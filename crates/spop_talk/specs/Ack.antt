-- The bytes of an ACK (SPOE.txt, 3.2.7 and 3.4).
use Rattle.std.specs.Prelude.{ℕ, List, ◌∷◌, ◌++◌}
use Rattle.std.specs.List.{flat_map}
use Rattle.spop_data.specs.Writing.{counted, data_bytes}
use Rattle.spop_frame.specs.Frame.{framed}
use Rattle.spop_frame.specs.Writing.{body_bytes}
use Rattle.spop_frame.specs.declared.flag.TheConstants.{FIN}
use Rattle.spop_frame.specs.declared.frame.Frame.{Frame}
use Rattle.spop_frame.specs.declared.kind.TheConstants.{ACK}
use Rattle.spop_talk.specs.declared.ack.Action.{Action}
use Rattle.spop_talk.specs.declared.ack.TheConstants.{SET_VAR, ARGUMENTS, TRANSACTION}

-- the type of the action, the number of its arguments, and these: the scope, the name and the value
abbrev pub action_bytes : Action → List ℕ
action_bytes a = SET_VAR ∷ ARGUMENTS ∷ TRANSACTION ∷ (counted a.name ++ data_bytes a.value)

-- the frame: type ACK, FIN alone, and the actions in their order
abbrev pub ack_frame : ℕ → ℕ → List Action → Frame
ack_frame stream frame actions =
    record { kind = ACK; flags = FIN; stream = stream; frame = frame; payload = flat_map action_bytes actions }

-- what follows its length
unfoldable pub ack_body : ℕ → ℕ → List Action → List ℕ
ack_body stream frame actions = body_bytes (ack_frame stream frame actions)

-- four bytes of length, and that
abbrev pub ack : ℕ → ℕ → List Action → List ℕ
ack stream frame actions = framed (ack_body stream frame actions)
