use Rattle.std.proofs.Common.{◌≡◌}
use Rattle.turn_lock.specs.Lock.{share_of}
use Rattle.turn_lock.specs.Numbers.{HasDrawn}
use Rattle.turn_lock.proofs.tests.draw_all.Given as goal

abbrev pub invariant-loop : goal.invariant-loop
invariant-loop g l = HasDrawn l.lock l.pass l.numbers.items × (share_of l.pass ≡ share_of l.initial.pass)
