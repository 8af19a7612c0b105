use Rattle.std.proofs.Common.{◌≡◌, ◌≤◌, List}
use Rattle.turn_lock.specs.Lock.{share_of}
use Rattle.hall.specs.Passes.{IsPassOfHall}
use Rattle.console.specs.Orders as console
use Rattle.console.specs.declared.order.Order as order
use Rattle.conn_worker.specs.Desk.{passes}
use Rattle.conn_worker.specs.Entries.{IsPassOfShelf, shares_of}
use Rattle.control.specs.Controlled.{Runs, around}
use Rattle.control.specs.Turns.{Turn}
use Rattle.control.proofs.obeying.control.Given as goal

abbrev pub invariant-loop : goal.invariant-loop
invariant-loop g l =
    (goal.iterator-loop g).can_next l.iterator' × (goal.iterator-loop g).is_finite l.iterator'
    × IsPassOfHall l.desk l.desk_pass × IsPassOfShelf l.rules l.rules_pass
    × (shares_of l.desk_pass ≡ shares_of l.initial.desk_pass) × (share_of l.rules_pass ≡ share_of l.initial.rules_pass)
    × (g.F.Files.content l.files ≡ g.F.Files.content l.initial.files)
    × (g.S.Source.faults l.initial.input ≤ g.S.Source.faults l.input) × (g.K.Sink.faults l.initial.output ≤ g.K.Sink.faults l.output)
    × ((log : List (order.Order × Turn)) × Runs (g.F.Files.content l.initial.files) l.name log
    (around (console.around (g.S.Source.left l.initial.input) (g.S.Source.ends l.initial.input)) (passes l.initial.desk_pass l.initial.rules_pass) (g.K.Sink.held l.initial.output) (g.F.Files.faults l.initial.files))
    (around (console.around (g.S.Source.left l.input) (g.S.Source.ends l.input)) (passes l.desk_pass l.rules_pass) (g.K.Sink.held l.output) (g.F.Files.faults l.files)))
