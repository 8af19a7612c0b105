-- A call was made in the state s: it had this reply, and left the state t.
use Rattle.std.specs.Prelude.{◌≡◌}
use Rattle.hall_core.specs.declared.calls.Call.{Call}
use Rattle.hall_core.specs.declared.calls.Reply.{Reply}
use Rattle.hall_core.specs.State.{State}
use Rattle.hall_core.specs.Step.{allows, after}

pub record Acted {P : Type 0} (s : State P) (c : Call P) (r : Reply P) (t : State P) : Type 0 where
  pub reply : allows s c r
  pub state : t ≡ after s c r
