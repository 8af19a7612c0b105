use Rattle.std.proofs.Common.{◌∙◌, arith}
use Rattle.row_table.specs.Table.{listed}
use Rattle.row_table.proofs.Places.{item_within}
use Rattle.row_table.proofs.Listed.{listed_le}
use Rattle.row_table.proofs.table.RowTable.get.Goals as goal

pub place-requires : goal.place-requires
place-requires g c = let le = listed_le c.args.self.now.rows c.args.self.now.order in let r = c.requires in omega arith

pub row-requires : goal.row-requires
row-requires g c = let x = item_within (listed c.args.self.now) c.args.at c.requires in (x.0, c.place.ensures.row ∙ x.1)
