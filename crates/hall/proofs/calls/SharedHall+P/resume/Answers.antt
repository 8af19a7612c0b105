use Rattle.std.proofs.Common.{ℕ, refl, subst, ap, ◌∙◌}
use Rattle.hall_core.specs.declared.calls.Call.TheVariants.{Resume}
use Rattle.hall.specs.Claims.{ResumesFirst}
use Rattle.hall.specs.Passes.{KeepsOthers}
use Rattle.hall.proofs.Turns.{resumed}
use Rattle.hall.proofs.calls.SharedHall+P.resume.Goals as goal

pub returns-clause-others : goal.returns-clause-others
returns-clause-others g c =
    let e = c.shard_of-shard.ensures in let f = c.shards.ensures in
    subst (λ (k : ℕ). KeepsOthers k (Resume c.args.key) c.args.pass.now c.make.new.pass) (e ∙ ap (λ (k : ℕ). Rattle.hall_core.specs.Shard.shard_of k c.args.key) f) c.make.ensures.others

pub returns-clause-first : goal.returns-clause-first
returns-clause-first g c =
    let e = c.shard_of-shard.ensures in let f = c.shards.ensures in
    subst (λ (k : ℕ). ResumesFirst k c.make.new.pass c.claim_of.result) (e ∙ ap (λ (k : ℕ). Rattle.hall_core.specs.Shard.shard_of k c.args.key) f)
    (resumed _ _ _ _ _ _ c.requires.hall c.make.ensures.call c.args.key c.claim_of.result refl c.claim_of.ensures)
