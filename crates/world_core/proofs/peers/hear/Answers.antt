use Rattle.std.proofs.Common.{◌≡◌, false, rules, refl, sym, ◌∙◌}
use Rattle.conn_core.specs.declared.need.Need.TheVariants as kinds
use Rattle.conn_core.specs.Calls.{kind_at}
use Rattle.world_core.proofs.Hearing.{deaf, hears}
use Rattle.world_core.proofs.peers.hear.Goals as goal

pub returns-then-eq : goal.returns-then-eq
returns-then-eq g c =
    let closed : c.need.result ≡ kinds.Close = search rules in
    (refl, deaf c.args.conn.now c.args.piece.now c.need.ensures.holds c.requires.0 (sym c.need.ensures.kind ∙ closed))

pub returns : goal.returns
returns g c =
    let hears_on : kind_at c.args.conn.now.stage ≡ kinds.Close → ⊥ = λ e. (let is : c.need.result ≡ kinds.Close = c.need.ensures.kind ∙ e in let k = rw is at c.if-eq.ensures in absurd (cc k)) in
    let left : c.feed.new.self.broken ≡ false = sym c.broken.ensures ∙ c.if-broken.false in
    (refl, hears c.args.conn.now _ c.args.piece.now c.need.ensures.holds c.requires.0 left hears_on c.feed.ensures.next)
