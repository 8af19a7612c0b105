-- The rows of a variable, as a list.
use Rattle.std.specs.Prelude.{List, [], ◌++◌}
use Rattle.web_parts.specs.declared.row.NameValue.{NameValue}
use Rattle.sec_collect.specs.declared.rows.Rows.{Rows}
use Rattle.sec_collect.specs.declared.rows.Rows.TheVariants as rows
use Rattle.sec_collect.specs.Row.{single, names_of}

abbrev pub row_list : Rows → List NameValue
row_list rows.Nothing = []
row_list (rows.One value) = single value.now
row_list (rows.Pairs front rest) = front.now ++ rest.now
row_list (rows.Names front rest) = names_of (front.now ++ rest.now)
