use Rattle.std.proofs.Common.{◌≡◌, count_by, not, subst, arith}
use Rattle.hall_core.specs.State.{is_running}
use Rattle.hall_core.proofs.Places.{count_both}
use Rattle.hall_core.proofs.hall.Hall.counts.Goals as goal

pub returns : goal.returns
returns g c =
    let rows = c.self.inside.rows.rows in let both = count_both (λ row. is_running row.stage) rows in
    let a = c.from.ensures in let b = c.from-2.ensures in let r = c.count_running-running.ensures in let l = c.len.ensures.count in
    subst (λ s. (c.from.result ≡ count_by (λ row. is_running row.stage) s.rows) × (c.from-2.result ≡ count_by (λ row. not (is_running row.stage)) s.rows)) c.self.view_is
    (omega arith, omega arith)
