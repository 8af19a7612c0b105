use Rattle.std.proofs.Common.{◌≡◌, ◌++◌, drop}
use Rattle.std.specs.List.{flat_map}
use Rattle.web_parts.specs.Cookies.{cookie_rows, rows_of_header}
use Rattle.web_parts.proofs.cookies.cookie_rows.Given as goal

abbrev pub invariant-loop-header : goal.invariant-loop-header
invariant-loop-header l = l.rows ++ flat_map rows_of_header (drop l.header-index l.header-items) ≡ cookie_rows l.headers
