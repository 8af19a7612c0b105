use Rattle.std.proofs.Common.{◌≡◌, ◌+◌, ◌%◌, ◌<◌, ◌∙◌, ap, sum, take, get_or, arith}
use Rattle.std.proofs.lemmas.List.Sums.{sum_by_more}
use Rattle.std.proofs.Math.Nat.{mod-add-mod, mod-lt}
use Rattle.hall_core.proofs.shard.added.Goals as goal

pub loop-byte-preserved : goal.loop-byte-preserved
loop-byte-preserved c =
    let i = c.loop-byte.byte-index in let bytes = c.args.bytes.now in let s = c.args.shards in let b = get_or bytes i 0 in
    let so_far = sum (take i bytes) in let more = sum_by_more (λ x. x) bytes i 0 c.loop-byte-test.true in
    let all : c.args.before + so_far + b ≡ c.args.before + sum (take (i + 1) bytes) = omega arith in
    let some : 0 < s = (let q = c.requires in omega arith) in
    rw (c.from.ensures, c.from-in-loop-byte.ensures, c.from-in-loop-byte-2.ensures)
    (mod-lt (c.loop-byte.remainder + b) some, ap (λ z. (z + b) % s) c.loop-byte.invariant.1 ∙ (mod-add-mod (c.args.before + so_far) s b ∙ ap (λ z. z % s) all))
