use Rattle.std.proofs.Common.{◌≡◌, ◌+◌, ◌*◌, ◌<◌, length, refl, ◌∙◌, ap, arith}
use Rattle.conn_core.specs.Stands.{ConnView, calls_left, rank}
use Rattle.conn_core.proofs.Heads.{few_messages}
use Rattle.conn_core.proofs.conn.Conn.notify.Goals as goal

pub returns-clause-fewer : goal.returns-clause-fewer
returns-clause-fewer g c = λ f h.
    let items : c.from.result.items ≡ c.args.messages = c.from.ensures.0 ∙ c.into_vec.ensures in
    let few = few_messages f.payload c.args.messages h.3 in
    let fewer : calls_left c.go_on.new.self < 16 * (length c.self.inside.framer.bytes + length c.from.result.items) + rank c.set.new.self = c.go_on.ensures.fewer in
    let ready : rank c.set.new.self ≡ 5 = rw c.set.ensures refl in
    omega (arith, fewer, ready, few, ap length items, ap (λ (h : ConnView g.row.R.Denot g.row.P.Denot g.row.T.Denot). length h.unread) c.self.view_is)
