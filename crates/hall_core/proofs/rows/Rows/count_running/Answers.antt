use Rattle.std.proofs.Common.{◌≡◌, ◌-◌, count_by, subst, arith}
use Rattle.row_table.specs.Table.{listed}
use Rattle.hall_core.specs.State.{is_running}
use Rattle.hall_core.proofs.Places.{count_both}
use Rattle.hall_core.proofs.rows.Rows.count_running.Goals as goal

pub returns : goal.returns
returns g c =
    let rows = listed c.self.inside.table in let both = count_both (λ row. is_running row.stage) rows in
    let all = c.len.ensures.listed in let parked = c.len-2.ensures in let same = c.self.invariant.5 in
    subst (λ v. c.len.result - c.len-2.result ≡ count_by (λ row. is_running row.stage) v.rows) c.self.view_is (omega arith)
