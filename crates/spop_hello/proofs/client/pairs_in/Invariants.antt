use Rattle.std.proofs.Common.{◌≡◌, length}
use Rattle.spop_varint.proofs.Laws.{IsBytes}
use Rattle.spop_data.specs.Lists.{all_of}
use Rattle.spop_data.specs.Reading.{pair_at}
use Rattle.spop_data.proofs.Items.{after}
use Rattle.spop_hello.proofs.client.pairs_in.Given as goal

-- the pairs that are held, and those that are left, are all
abbrev pub invariant-loop-rest : goal.invariant-loop-rest
invariant-loop-rest l = record {
  left : after l.pairs (all_of pair_at l.rest) ≡ all_of pair_at l.payload;
  bytes : IsBytes l.rest;
}

abbrev pub decreases-loop-rest : goal.decreases-loop-rest
decreases-loop-rest l = length l.rest
