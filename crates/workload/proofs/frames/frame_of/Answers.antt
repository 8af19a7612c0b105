use Rattle.std.proofs.Common.{Err, ◌∙◌, ap, arith}
use Rattle.spop_frame.proofs.Spellings.{few_bytes}
use Rattle.workload.proofs.frames.frame_of.Goals as goal

pub unreachable-requires : goal.unreachable-requires
unreachable-requires c =
    let long = c.write_frame.ensures.too_long (c.in-Err-TooLong.is ∙ ap (λ e. Err e) c.in-Err-TooLong.field-0-is) in
    omega (arith, few_bytes long.0 _ long.1, long.2, c.requires.small)
