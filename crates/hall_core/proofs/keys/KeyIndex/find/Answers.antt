use Rattle.std.proofs.Common.{subst}
use Rattle.hall_core.specs.Keys.{IsKeySearch, key_at}
use Rattle.hall_core.proofs.KeyOrder.{cut_is_free}
use Rattle.hall_core.proofs.keys.KeyIndex.find.Goals as goal

pub returns-in-Err : goal.returns-in-Err
returns-in-Err g c =
    let keys = key_at c.args.table.now.rows in let places = c.args.self.now.places.items in
    cut_is_free keys places c.args.key.now c.in-Err.field-0 c.requires (subst (λ r. IsKeySearch keys places c.args.key.now r) c.in-Err.is c.search.ensures)
