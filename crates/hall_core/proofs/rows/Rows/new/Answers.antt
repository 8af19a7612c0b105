use Rattle.std.proofs.Common.{◌≡◌, ◌∙◌, [], length, count_by, is_some, not, Option, None, sym, ap, subst, arith}
use Rattle.std.proofs.lemmas.List.{length-replicate}
use Rattle.row_table.specs.Table.{listed, rows_at}
use Rattle.due_index.proofs.Counts.{count_free}
use Rattle.hall_core.specs.declared.row.Row.{Row}
use Rattle.hall_core.specs.Deadlines.{deadlines}
use Rattle.hall_core.specs.Found.{Ascending}
use Rattle.hall_core.specs.Keys.{IsByKey, key_at}
use Rattle.hall_core.specs.State.{is_running}
use Rattle.hall_core.proofs.Deadlines.{deadline_fresh}
use Rattle.hall_core.proofs.KeyedRows.{fresh_by_key}
use Rattle.hall_core.proofs.Numbers.{ascending_none}
use Rattle.hall_core.proofs.rows.Rows.new.Goals as goal

pub invariant_of-result : goal.invariant_of-result
invariant_of-result g c =
    let t = c.in_ok-table.table in let by = c.in_ok-by_key.by_key in let n = c.args.capacity in
    let rows = c.in_ok-table.ensures.0 in let empty : listed t ≡ [] = ap (rows_at t.rows) c.in_ok-table.ensures.1 in (
      c.in_ok-due.ensures ∙ (sym (deadline_fresh g.row.P.Denot n) ∙ sym (ap deadlines rows)),
      subst (λ l. Ascending l) (sym empty) ascending_none,
      subst (λ l. IsByKey (key_at t.rows) l) (sym c.in_ok-by_key.ensures.0) (subst (λ l. IsByKey (key_at l) []) (sym rows) (fresh_by_key g.row.P.Denot n)),
      ap length c.in_ok-by_key.ensures.0 ∙ sym (ap length empty),
      (let a = ap length rows in let b = length-replicate {A = Option (Row g.row.P.Denot)} n None in let e = c.in_ok-by_key.ensures.1 in omega arith),
      ap (count_by is_some) c.in_ok-due.ensures ∙ (count_free _ n ∙ sym (ap (count_by (λ (row : Row g.row.P.Denot). not (is_running row.stage))) empty)),
    )
