use Rattle.std.proofs.Common.{ℕ, refl, subst, ap, ◌∙◌}
use Rattle.hall_core.specs.declared.calls.Call.TheVariants.{Enter}
use Rattle.hall.specs.Passes.{KeepsOthers}
use Rattle.hall.proofs.Turns.{entered}
use Rattle.hall.proofs.calls.SharedHall+P.enter.Goals as goal

pub returns-clause-ticket : goal.returns-clause-ticket
returns-clause-ticket g c = entered _ _ _ _ _ _ c.requires.hall c.make.ensures.call c.args.key c.entry_of.result refl c.entry_of.ensures

pub returns-clause-others : goal.returns-clause-others
returns-clause-others g c =
    let e = c.shard_of-shard.ensures in let f = c.shards.ensures in
    subst (λ (k : ℕ). KeepsOthers k (Enter c.args.key) c.args.pass.now c.make.new.pass) (e ∙ ap (λ (k : ℕ). Rattle.hall_core.specs.Shard.shard_of k c.args.key) f) c.make.ensures.others
