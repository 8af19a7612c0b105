use Rattle.std.proofs.Common.{◌≡◌, cond, length}
use Rattle.std.specs.List.{list_any}
use Rattle.sec_collect.specs.Request.{basename, is_slash}
use Rattle.sec_collect.proofs.request.basename.Given as goal

abbrev pub invariant-loop-first : goal.invariant-loop-first
invariant-loop-first l = cond (list_any is_slash l.rest) (basename l.rest) l.name ≡ basename l.path

abbrev pub decreases-loop-first : goal.decreases-loop-first
decreases-loop-first l = length l.rest
