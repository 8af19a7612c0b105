use Rattle.std.proofs.Common.{rules, ◌≡◌, ◌∙◌, None, ap, replicate}
use Rattle.row_table.proofs.Kept.{fresh_more, fresh_rows}
use Rattle.row_table.proofs.table.RowTable.new.Goals as goal

pub loop-place-preserved : goal.loop-place-preserved
loop-place-preserved g c = (
  search rules,
  search rules,
  fresh_more c.loop-place.place c.loop-place.rows.items _ c.loop-place.free.items _ c.loop-place.invariant.2 c.push_reserved.ensures.items c.push_reserved-in-loop-place.ensures.items,
)

pub returns : goal.returns
returns g c =
    let all : c.loop-place.place ≡ c.args.capacity = search rules in
    (fresh_rows c.loop-place.place c.loop-place.rows.items c.loop-place.free.items c.loop-place.invariant.2 ∙ ap (λ n. replicate n None) all, c.in_ok-order.ensures.items)
