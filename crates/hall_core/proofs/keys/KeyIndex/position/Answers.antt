use Rattle.std.proofs.Common.{ap, subst}
use Rattle.hall_core.specs.Keys.{IsKeySearch, key_at, key_of}
use Rattle.hall_core.proofs.KeyOrder.{cut_is_free, stands_there}
use Rattle.hall_core.proofs.keys.KeyIndex.position.Goals as goal

pub unreachable-requires : goal.unreachable-requires
unreachable-requires g c =
    let keys = key_at c.args.table.now.rows in let places = c.args.self.now.places.items in
    cut_is_free keys places c.row.result.now.key c.in-Err.field-0 c.requires.by_key (subst (λ r. IsKeySearch keys places c.row.result.now.key r) c.in-Err.is c.search.ensures)
    c.args.place (ap key_of c.row.ensures.row)

pub returns : goal.returns
returns g c =
    let keys = key_at c.args.table.now.rows in let places = c.args.self.now.places.items in
    let s = subst (λ r. IsKeySearch keys places c.row.result.now.key r) c.in-Ok.is c.search.ensures in
    stands_there keys places c.in-Ok.at c.args.place s.0 c.row.result.now.key c.requires.by_key s.1 s.2 (ap key_of c.row.ensures.row)
