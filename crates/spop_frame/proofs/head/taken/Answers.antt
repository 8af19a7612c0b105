use Rattle.std.proofs.Common.{refl, sym, ◌∙◌}
use Rattle.spop_frame.proofs.head.taken.Goals as goal

pub returns : goal.returns
returns c = λ rest. (rest, rw (sym c.is_fragment.ensures ∙ c.if-is_fragment.false) refl)
