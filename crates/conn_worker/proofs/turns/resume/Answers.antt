use Rattle.std.proofs.Common.{◌≡◌, ℕ, [], ◌∷◌, length, sym, ap, subst}
use Rattle.turn_lock.specs.History.{entry}
use Rattle.hall_core.specs.declared.calls.Call.TheVariants.{Resume}
use Rattle.hall_core.specs.declared.calls.Reply.TheVariants.{OfResume}
use Rattle.hall_core.specs.Shard.{shard_of}
use Rattle.hall.specs.Passes.{shards_of}
use Rattle.conn_worker.specs.Entries.{After, lists_of}
use Rattle.conn_worker.proofs.Owning.{as_many, turned}
use Rattle.conn_worker.proofs.turns.resume.Goals as goal

pub returns : goal.returns
returns g c =
    let h = c.args.desk.now in
    let key = c.args.key in
    let here : shard_of (shards_of h) key ≡ shard_of (length (lists_of c.args.pass.now)) key = ap (λ (k : ℕ). shard_of k key) (sym (as_many h c.args.pass.now c.requires)) in
    subst (λ (k : ℕ). After h k (entry (Resume key) (OfResume c.resume.result) ∷ []) c.args.pass.now c.resume.new.pass) here
    (turned h _ _ _ (Resume key) (OfResume c.resume.result) c.resume.ensures.hall c.resume.ensures.call)
