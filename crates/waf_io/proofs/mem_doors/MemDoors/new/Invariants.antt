use Rattle.std.proofs.Common.{◌≡◌, map}
use Rattle.waf_io.specs.MemDoor.{door_of}
use Rattle.waf_io.proofs.mem_doors.MemDoors.new.Given as goal

abbrev pub invariant-loop-lane : goal.invariant-loop-lane
invariant-loop-lane g l = l.doors.items ≡ map door_of l.yielded
