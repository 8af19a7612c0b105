use Rattle.std.proofs.Common.{◌≡◌, take}
use Rattle.sec_ops.specs.Pattern.{texts_in}
use Rattle.sec_ops.proofs.pattern.texts_of.Given as goal

abbrev pub invariant-loop-span : goal.invariant-loop-span
invariant-loop-span l = l.texts ≡ texts_in l.value (take l.span-index l.spans)
