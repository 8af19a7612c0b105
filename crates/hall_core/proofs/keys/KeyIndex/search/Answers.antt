use Rattle.std.proofs.Common.{◌+◌, ◌-◌, ◌/◌, ◌∙◌, Some, sym, ap, arith}
use Rattle.row_table.proofs.Places.{item_read}
use Rattle.hall_core.specs.Keys.{key_at, key_of}
use Rattle.hall_core.proofs.KeyOrder.{equal_is_same, key_cut_high, key_cut_low}
use Rattle.hall_core.proofs.keys.KeyIndex.search.Goals as goal

pub loop-low-preserved-in-Less : goal.loop-low-preserved-in-Less
loop-low-preserved-in-Less g c =
    let places = c.args.self.now.places.items in let rows = c.args.table.now.rows in let a = c.row.result.now.key in
    let middle = c.loop-low.low + (c.loop-low.high - c.loop-low.low) / 2 in let cut = c.loop-low.invariant.1 in let t = c.loop-low-test.true in let w = cut.within in
    let at = item_read places middle c.index.result.now (omega arith) c.index.ensures in
    (omega arith, key_cut_low (key_at rows) places c.args.key.now a c.loop-low.low c.loop-low.high middle c.index.result.now c.requires cut at (ap key_of c.row.ensures.row) (sym c.compare.ensures ∙ c.in-Less.is))

pub returns-in-Equal : goal.returns-in-Equal
returns-in-Equal g c =
    let places = c.args.self.now.places.items in let rows = c.args.table.now.rows in let a = c.row.result.now.key in
    let middle = c.loop-low.low + (c.loop-low.high - c.loop-low.low) / 2 in let cut = c.loop-low.invariant.1 in let t = c.loop-low-test.true in let w = cut.within in
    let at = item_read places middle c.index.result.now (omega arith) c.index.ensures in
    (c.index.result.now, at, ap key_of c.row.ensures.row ∙ ap Some (equal_is_same a c.args.key.now (sym c.compare.ensures ∙ c.in-Equal.is)))

pub loop-low-preserved : goal.loop-low-preserved
loop-low-preserved g c =
    let places = c.args.self.now.places.items in let rows = c.args.table.now.rows in let a = c.row.result.now.key in
    let middle = c.loop-low.low + (c.loop-low.high - c.loop-low.low) / 2 in let cut = c.loop-low.invariant.1 in let t = c.loop-low-test.true in let w = cut.within in
    let at = item_read places middle c.index.result.now (omega arith) c.index.ensures in
    (omega arith, key_cut_high (key_at rows) places c.args.key.now a c.loop-low.low c.loop-low.high middle c.index.result.now c.requires cut (omega arith) at (ap key_of c.row.ensures.row) (sym c.compare.ensures ∙ c.in-Greater.is))
