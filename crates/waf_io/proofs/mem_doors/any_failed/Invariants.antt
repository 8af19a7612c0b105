use Rattle.std.proofs.Common.{◌≡◌, drop, nat_le}
use Rattle.std.specs.List.{list_any}
use Rattle.waf_io.proofs.mem_doors.any_failed.Given as goal

abbrev pub invariant-loop-door : goal.invariant-loop-door
invariant-loop-door g l =
    list_any (λ d. nat_le 1 d.schedule.faults) (drop l.door-index l.doors) ≡ list_any (λ d. nat_le 1 d.schedule.faults) l.doors
