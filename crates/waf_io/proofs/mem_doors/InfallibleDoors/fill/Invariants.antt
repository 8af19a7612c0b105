use Rattle.std.proofs.Common.{◌≡◌, ◌-◌, ◌++◌, [], length}
use Rattle.std.specs.List.{All}
use Rattle.waf_io.specs.MemDoor.{copies, IsUnused, new_door}
use Rattle.waf_io.proofs.mem_doors.InfallibleDoors.fill.Given as goal

abbrev pub invariant-loop-alloc : goal.invariant-loop-alloc
invariant-loop-alloc g l =
    let now = l.self-inside.doors in
    let old = l.fn.self in
    record {
      ready : now.ready ++ copies (l.count - length now.ready) (new_door []) ≡ old.ready ++ copies (l.count - length old.ready) (new_door []);
      unused : All IsUnused now.ready;
      returned : now.returned ≡ old.returned;
      out : now.out ≡ old.out;
    }

abbrev pub decreases-loop-alloc : goal.decreases-loop-alloc
decreases-loop-alloc g l = l.count - length l.self-inside.doors.ready
