use Rattle.std.proofs.Common.{◌≡◌, take}
use Rattle.std.specs.Option.{option_copied}
use Rattle.spop_hello.specs.Client.{value_of}
use Rattle.spop_hello.proofs.client.value_in.Given as goal

abbrev pub invariant-loop-pair : goal.invariant-loop-pair
invariant-loop-pair l = option_copied l.found ≡ value_of l.name (take l.pair-index l.pairs)
