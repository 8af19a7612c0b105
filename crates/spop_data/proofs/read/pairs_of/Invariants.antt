use Rattle.std.proofs.Common.{◌≡◌, ◌-◌}
use Rattle.spop_data.specs.Lists.{several_at}
use Rattle.spop_data.specs.Reading.{pair_at}
use Rattle.spop_data.proofs.Items.{behind}
use Rattle.spop_data.proofs.read.pairs_of.Given as goal

-- the pairs that are held, and those that are left, are all
abbrev pub invariant-loop : goal.invariant-loop
invariant-loop l = behind l.pairs (several_at pair_at (l.count - l.counter) l.rest) ≡ several_at pair_at l.count l.bytes
