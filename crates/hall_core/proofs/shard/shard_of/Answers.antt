use Rattle.std.proofs.Common.{◌≡◌, ◌∙◌, ap, ◌+◌, ◌%◌, sum, arith}
use Rattle.std.proofs.Math.Nat.{mod-add-mod}
use Rattle.hall_core.proofs.shard.shard_of.Goals as goal

pub returns : goal.returns
returns c =
    let s = c.args.shards in let key = c.args.key.now in
    let none : 0 + sum key.app ≡ sum key.app = omega arith in
    let first = c.added-after_app.ensures.rest ∙ ap (λ l. (0 + sum l) % s) c.as_slice.ensures in
    c.added.ensures.rest ∙ (ap (λ l. (c.added-after_app.result + sum l) % s) c.as_slice-2.ensures ∙ (ap (λ z. (z + sum key.id) % s) (first ∙ ap (λ z. z % s) none) ∙ mod-add-mod (sum key.app) s (sum key.id)))
