use Rattle.std.proofs.Common.{◌≡◌}
use Rattle.turn_lock.proofs.calls.TurnLock+O.await_turn.Given as goal

abbrev pub invariant-loop : goal.invariant-loop
invariant-loop g l = (l.pass.table_id ≡ l.initial.pass.table_id) × (l.pass.me ≡ l.initial.pass.me)
