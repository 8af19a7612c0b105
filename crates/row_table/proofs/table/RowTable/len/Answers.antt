use Rattle.std.proofs.Common.{◌≡◌, ◌∙◌, length, sym, subst, rules}
use Rattle.row_table.specs.Table.{rows_at}
use Rattle.row_table.proofs.Listed.{listed_length}
use Rattle.row_table.proofs.table.RowTable.len.Goals as goal

pub returns-clause-listed : goal.returns-clause-listed
returns-clause-listed g c =
    let t = c.self.invariant.0 in
    let count : c.len.result ≡ length c.args.self.now.order = search rules in
    count ∙ sym (subst (λ v. length (rows_at v.rows v.order) ≡ length v.order) c.self.view_is (listed_length c.self.inside.rows.items c.self.inside.order.items t.taken))
