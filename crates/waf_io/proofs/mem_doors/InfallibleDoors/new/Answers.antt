use Rattle.std.proofs.Common.{ap, ◌∙◌}
use Rattle.waf_io.proofs.Unused.{unused_made}
use Rattle.waf_io.proofs.mem_doors.InfallibleDoors.new.Goals as goal

pub invariant_of-result : goal.invariant_of-result
invariant_of-result g c = unused_made _ c.loop-peers.yielded (ap (λ s. s.ready) c.new-2.ensures ∙ c.loop-peers.invariant)
