use Rattle.std.proofs.Common.{◌≡◌, drop}
use Rattle.agent_main.proofs.Runs.{Played}
use Rattle.agent_main.proofs.playing.played.Given as goal

abbrev pub invariant-loop-command : goal.invariant-loop-command
invariant-loop-command g l =
    let files = g.F.Files in
    record {
      same : files.content l.files ≡ files.content l.fn.files;
      played :
          Played (files.content l.fn.files) l.name (files.faults l.fn.files) (files.faults l.files) l.fn.limits.size l.fn.limits.shards l.fn.limits.capacity l.fn.apps l.commands
          (drop l.command-index l.commands) l.world l.entries;
    }
