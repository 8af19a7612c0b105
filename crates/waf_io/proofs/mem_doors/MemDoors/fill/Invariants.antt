use Rattle.std.proofs.Common.{◌≡◌, ◌-◌, ◌++◌, length}
use Rattle.std.specs.List.{All}
use Rattle.waf_io.specs.MemDoor.{blank, copies, IsUnusedFaulty}
use Rattle.waf_io.proofs.mem_doors.MemDoors.fill.Given as goal

abbrev pub invariant-loop-alloc : goal.invariant-loop-alloc
invariant-loop-alloc g l =
    let now = l.self-inside.doors in
    let old = l.fn.self.stock in
    record {
      ready : now.ready ++ copies (l.count - length now.ready) blank ≡ old.ready ++ copies (l.count - length old.ready) blank;
      unused : All IsUnusedFaulty now.ready;
      returned : now.returned ≡ old.returned;
      out : now.out ≡ old.out;
      schedule : l.self-inside.schedule ≡ l.fn.self.schedule;
      faults : l.self-inside.faults ≡ l.fn.self.faults;
    }

abbrev pub decreases-loop-alloc : goal.decreases-loop-alloc
decreases-loop-alloc g l = l.count - length l.self-inside.doors.ready
