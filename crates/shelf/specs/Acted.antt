-- A call was made in the state s: it had this reply, and left the state t.
use Rattle.std.specs.Prelude.{◌≡◌}
use Rattle.shelf.specs.declared.calls.Call.{Call}
use Rattle.shelf.specs.declared.calls.Reply.{Reply}
use Rattle.shelf.specs.State.{State}
use Rattle.shelf.specs.Step.{allows, after}

pub record Acted {R : Type 0} (IsShare : R → R → Type 0) (s : State R) (c : Call R) (r : Reply R) (t : State R)
    : Type 0 where
  pub reply : allows IsShare s c r
  pub state : t ≡ after s c r
