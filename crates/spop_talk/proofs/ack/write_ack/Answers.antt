use Rattle.std.proofs.Common.{◌≡◌, ◌+◌, ◌-◌, List, ◌∷◌, ◌++◌, length, take, drop, ℕ, ◌∙◌, ap, arith, length-append}
use Rattle.std.specs.Int.{to_be_bytes, w32}
use Rattle.spop_talk.specs.Ack.{ack_body}
use Rattle.spop_talk.specs.declared.ack.Action.{Action}
use Rattle.spop_talk.proofs.Acks.{ack_spelled, patched}
use Rattle.spop_talk.proofs.ack.write_ack.Goals as goal

pub returns-clause-ok : goal.returns-clause-ok
returns-clause-ok c =
    let body = ack_body c.args.stream c.args.frame c.args.actions.now in
    let old = c.args.out.now in
    let before = c.len-before.result in
    let wrote : c.put_ack.new.out ≡ old ++ (0 ∷ 0 ∷ 0 ∷ 0 ∷ body) =
    c.in-Ok.ensures.ok ∙ ap (λ (xs : List Action). old ++ (0 ∷ 0 ∷ 0 ∷ 0 ∷ ack_body c.args.stream c.args.frame xs)) c.as_slice.ensures in
    let word : c.len.result - before - 4 ≡ length body = omega (arith, c.len.ensures, c.len-before.ensures, ap length wrote, length-append old (0 ∷ 0 ∷ 0 ∷ 0 ∷ body)) in
    c.set_word.ensures
    ∙ ap (λ (l : List ℕ). take before l ++ (to_be_bytes w32 (c.len.result - before - 4) ++ drop (before + 4) l)) wrote
    ∙ patched old body before (c.len.result - before - 4) c.len-before.ensures word

pub returns-clause-spelled : goal.returns-clause-spelled
returns-clause-spelled c =
    let body = ack_body c.args.stream c.args.frame c.args.actions.now in
    let old = c.args.out.now in
    let wrote : c.put_ack.new.out ≡ old ++ (0 ∷ 0 ∷ 0 ∷ 0 ∷ body) =
    c.in-Ok.ensures.ok ∙ ap (λ (xs : List Action). old ++ (0 ∷ 0 ∷ 0 ∷ 0 ∷ ack_body c.args.stream c.args.frame xs)) c.as_slice.ensures in
    ack_spelled c.args.stream c.args.frame c.args.actions.now c.ranges.stream.fits c.ranges.frame.fits
    (omega (arith, c.len.ensures, c.len-before.ensures, ap length wrote, length-append old (0 ∷ 0 ∷ 0 ∷ 0 ∷ body), c.if-length-from.false, c.from.ensures, c.ranges.size.fits))
