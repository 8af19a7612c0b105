use Rattle.std.proofs.Common.{◌≡◌, map}
use Rattle.waf_io.specs.MemDoor.{new_door}
use Rattle.waf_io.proofs.mem_doors.InfallibleDoors.new.Given as goal

abbrev pub invariant-loop-peers : goal.invariant-loop-peers
invariant-loop-peers g l = l.doors.items ≡ map new_door l.yielded
