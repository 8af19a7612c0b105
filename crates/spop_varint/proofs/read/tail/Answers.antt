use Rattle.std.proofs.Common.{◌≡◌, ℕ, ◌+◌, ◌*◌, ◌^◌, ◌<◌, get_or, drop, refl, ◌∙◌, ap, arith}
use Rattle.spop_varint.specs.Reading.{tail_at}
use Rattle.spop_varint.proofs.Laws.{turn}
use Rattle.spop_varint.proofs.Tails.{power_more}
use Rattle.spop_varint.proofs.read.tail.Goals as goal

pub loop-index-preserved : goal.loop-index-preserved
loop-index-preserved c =
    let index = c.loop-index.index in
    let bytes = c.args.bytes.now in
    let b = get_or bytes index 0 in
    let part_is : c.in-Some.part ≡ c.from.result * c.loop-index.weight = c.in-Some.ensures.1 in
    let sum_is : c.in-Some-checked_add.next ≡ c.loop-index.sum + c.in-Some.part = c.in-Some-checked_add.ensures.1 in
    let fits : c.loop-index.sum + c.in-Some.part < 2 ^ 64 = c.in-Some-checked_add.ensures.0 in
    let next_is : c.in-Some-checked_add.next ≡ c.loop-index.sum + b * 2 ^ (7 * index + 4) =
    cc (part_is, sum_is, c.from.ensures, c.loop-index.invariant.weight) in
    record {
      left = ap (λ (s : ℕ). tail_at (index + 1 + 1) (7 * (index + 1) + 4) s (drop (index + 1) bytes)) next_is
          ∙ turn index c.loop-index.sum b bytes (omega arith) refl (omega (arith, next_is, sum_is, fits)) (omega arith)
          ∙ c.loop-index.invariant.left;
      weight = ap (λ (w : ℕ). w * 128) c.loop-index.invariant.weight ∙ (let e = 7 * index + 4 in let same : 7 * (index + 1) + 4 ≡ e + 7 = omega arith in omega (arith, power_more e, ap (λ (k : ℕ). 2 ^ k) same));
    }
