use Rattle.std.proofs.Common.{refl, sym, ◌∙◌}
use Rattle.world_core.specs.Serving.{desk_of}
use Rattle.world_core.proofs.Meeting.{acts_as}
use Rattle.world_core.proofs.act.ask.Goals as goal

pub returns : goal.returns
returns g c = λ s h.
    acts_as (desk_of c.args.tables.now) (desk_of c.act.new.host) _ c.args.conn.now c.act.new.conn s c.replace.result c.requires.held c.requires.whole.0 h c.requires.asks (sym c.broken.ensures ∙ c.if-broken.false) c.if-tables.false
    refl refl refl c.replace.ensures.value (c.act.ensures.meets s h)
