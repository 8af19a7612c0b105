use Rattle.std.proofs.Common.{◌≡◌, ◌≤◌, drop, length, map}
use Rattle.std.specs.Arc.{arc_value}
use Rattle.std.specs.Option.{IfSome}
use Rattle.sec_read.specs.declared.faults.Fault.{Fault}
use Rattle.agent_conf.specs.Seen.{app_seen}
use Rattle.agent_conf.specs.Unread.{AppsOpen}
use Rattle.agent_conf.proofs.Loads.{Keeps}
use Rattle.agent_conf.proofs.loading.apps.load_apps.Given as goal

abbrev pub invariant-loop-app : goal.invariant-loop-app
invariant-loop-app g l =
    let files = g.F.Files in
    record {
      apps : Keeps (files.content l.fn.files) l.conf l.apps (drop l.app-index l.apps) (map (app_seen arc_value) l.list);
      place : IfSome (files.content l.fn.files) (λ told. (fault : Fault) → AppsOpen told l.conf (drop l.app-index l.apps) fault → AppsOpen told l.conf l.apps fault);
      same : files.content l.files ≡ files.content l.fn.files;
      later : files.faults l.fn.files ≤ files.faults l.files;
      length : length l.list ≡ l.app-index;
    }
