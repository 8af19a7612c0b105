use Rattle.std.proofs.Common.{◌≡◌, drop}
use Rattle.sec_transforms.specs.Apply.{chained}
use Rattle.sec_transforms.proofs.apply_names.apply_others.Given as goal

abbrev pub invariant-loop-name : goal.invariant-loop-name
invariant-loop-name l = chained (drop l.name-index l.names) l.held ≡ chained l.names l.fn.value
