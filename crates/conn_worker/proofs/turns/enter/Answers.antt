use Rattle.std.proofs.Common.{◌≡◌, ℕ, [], ◌∷◌, length, sym, ap, ◌∙◌, subst}
use Rattle.turn_lock.specs.History.{entry}
use Rattle.hall_core.specs.declared.calls.Call.TheVariants.{Enter, Expire}
use Rattle.hall_core.specs.declared.calls.Entry.TheVariants.{Entered}
use Rattle.hall_core.specs.declared.calls.Reply.TheVariants.{OfEnter, OfExpire}
use Rattle.hall_core.specs.Shard.{shard_of}
use Rattle.hall.specs.Passes.{shards_of}
use Rattle.conn_worker.specs.Entries.{After, lists_of}
use Rattle.conn_worker.proofs.Owning.{as_many, both, entered, turned}
use Rattle.conn_worker.proofs.turns.enter.Goals as goal

pub returns-clause-after : goal.returns-clause-after
returns-clause-after g c =
    let h = c.args.desk.now in
    let key = c.args.key in
    let n = c.shard_of-shard.result in
    let many : n ≡ shard_of (length (lists_of c.args.pass.now)) key =
    c.shard_of-shard.ensures ∙ ap (λ (k : ℕ). shard_of k key) (c.shards.ensures ∙ sym (as_many h c.args.pass.now c.requires)) in
    let here : n ≡ shard_of (shards_of h) key = c.shard_of-shard.ensures ∙ ap (λ (k : ℕ). shard_of k key) c.shards.ensures in
    let first = c.expire.ensures in
    let last = turned h (shard_of (shards_of h) key) c.expire.new.pass c.enter.new.pass (Enter key) (OfEnter c.enter.result) c.enter.ensures.hall c.enter.ensures.call in (
      first.0,
      subst (λ (k : ℕ). After h k (entry (Expire c.args.moment) (OfExpire first.0) ∷ entry (Enter key) (OfEnter c.enter.result) ∷ []) c.args.pass.now c.enter.new.pass) many
          (both h n _ _ c.args.pass.now c.expire.new.pass c.enter.new.pass first.1
          (subst (λ (k : ℕ). After h k (entry (Enter key) (OfEnter c.enter.result) ∷ []) c.expire.new.pass c.enter.new.pass) (sym here) last)),
    )

pub returns-clause-ticket : goal.returns-clause-ticket
returns-clause-ticket g c = λ ticket is. entered c.enter.new.pass c.enter.result ticket is c.enter.ensures.ticket
