use Rattle.std.proofs.Common.{◌≡◌, false, rules, refl, sym, ◌∙◌}
use Rattle.conn_core.specs.declared.need.Need.TheVariants as kinds
use Rattle.conn_core.specs.Calls.{kind_at}
use Rattle.world_core.proofs.Hearing.{deaf_end, hears_end}
use Rattle.world_core.proofs.peers.hear_end.Goals as goal

pub returns-then-eq : goal.returns-then-eq
returns-then-eq g c =
    let closed : c.need.result ≡ kinds.Close = search rules in
    (refl, deaf_end c.args.conn.now c.need.ensures.holds c.requires.0 (sym c.need.ensures.kind ∙ closed))

pub returns : goal.returns
returns g c =
    let differs : c.need.result ≡ kinds.Close → ⊥ = search rules in
    let hears_on : kind_at c.args.conn.now.stage ≡ kinds.Close → ⊥ = λ e. differs (c.need.ensures.kind ∙ e) in
    let left : c.end.new.self.broken ≡ false = sym c.broken.ensures ∙ c.if-broken.false in
    (refl, hears_end c.args.conn.now _ c.need.ensures.holds c.requires.0 left hears_on c.end.ensures.next)
