use Rattle.std.proofs.Common.{◌≡◌, ◌++◌, map}
use Rattle.form_urlencoded.specs.Parse.{raw_pairs_left}
use Rattle.web_parts.specs.Arguments.{argument_of, argument_rows}
use Rattle.web_parts.proofs.arguments.argument_rows.Given as goal

abbrev pub invariant-loop-name : goal.invariant-loop-name
invariant-loop-name l = l.rows ++ map argument_of (raw_pairs_left l.name-iterator) ≡ argument_rows l.text
