use Rattle.std.proofs.Common.{◌≡◌, ◌++◌, ◌*◌}
use Rattle.std.specs.List.{flat_map, range_with_len}
use Rattle.workload.specs.Draws.{after_steps, turn_of}
use Rattle.workload.specs.Turns.{turn_commands}
use Rattle.workload.specs.Workload.{openings}
use Rattle.workload.specs.declared.turn.TheConstants.{DRAWS}
use Rattle.workload.proofs.commands.script.Given as goal

abbrev pub invariant-loop-past : goal.invariant-loop-past
invariant-loop-past l = record {
  so_far : l.commands ≡ openings ++ flat_map (λ i. turn_commands (turn_of l.seed i)) (range_with_len 1 l.past);
  held : l.draws.held ≡ after_steps l.seed (DRAWS * l.past);
}
