-- The rows that a link matches, over what rows are made from.
use Rattle.std.specs.Prelude.{List, []}
use Rattle.std.specs.List.{flat_map, zip}
use Rattle.sec_ast.specs.declared.link.Link.{Link}
use Rattle.sec_collect.specs.declared.row_ref.RowRef.{RowRef}
use Rattle.sec_collect.specs.Expansion.{expansion}
use Rattle.sec_collect.specs.TransactionView.{TransactionView}
use Rattle.sec_collect.specs.Selection.{selection}
use Rattle.sec_eval.specs.declared.matching.BorrowedRow.{BorrowedRow}
use Rattle.sec_eval.specs.declared.matching.Question.{Question}
use Rattle.sec_meaning.specs.declared.state.Matched.{Matched}
use Rattle.sec_meaning.specs.Values.{listed, match_of}
use Rattle.sec_ops.specs.Selectors.{is_matched, patterns_of}

abbrev pub row_of : BorrowedRow → RowRef
row_of r = record { var = r.var; name = r.name.now; value = r.value.now; counted = r.counted }

-- those of some rows that are matched
abbrev pub matched_of : Question → List RowRef → List Matched
matched_of q rows = flat_map (λ r. listed (match_of q.link.now q.argument.now r)) rows

abbrev pub matches_in : TransactionView → Link → List Matched
matches_in s link =
    flat_map (λ r. listed (match_of link (expansion s link.op.text) r))
    (selection is_matched (zip link.targets (patterns_of link.targets)) [] s)
