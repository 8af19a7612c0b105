use Rattle.std.proofs.Common.{rules}
use Rattle.std.specs.Bool.{◌==◌}
use Rattle.std.proofs.lemmas.Iterator.Consumers.{map_from_collect}
use Rattle.std.proofs.lemmas.Iterator.Splits.{YieldsList-from_slice_split}
use Rattle.sec_transforms.proofs.paths.pieces_of.Goals as goal

pub returns : goal.returns
returns c = rw c.in_ok-pieces.was at (map_from_collect _ c.collect.ensures.ran (YieldsList-from_slice_split _ (λ b. b == 47) c.args.value.now c.split.ensures.rest c.split.ensures.done c.split.ensures.closure (search rules)))
