use Rattle.std.proofs.Common.{◌≡◌, drop}
use Rattle.sec_collect.specs.Row.{value_named}
use Rattle.sec_collect.proofs.request.value_named.Given as goal

abbrev pub invariant-loop-row : goal.invariant-loop-row
invariant-loop-row l = value_named l.name (drop l.row-index l.rows) ≡ value_named l.name l.rows
