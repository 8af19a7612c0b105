use Rattle.std.proofs.Common.{ap, ◌∙◌}
use Rattle.waf_io.proofs.Unused.{faulty_unused_made}
use Rattle.waf_io.proofs.mem_doors.MemDoors.new.Goals as goal

pub invariant_of-result : goal.invariant_of-result
invariant_of-result g c = faulty_unused_made _ c.loop-lane.yielded (ap (λ s. s.ready) c.new-2.ensures ∙ c.loop-lane.invariant)
