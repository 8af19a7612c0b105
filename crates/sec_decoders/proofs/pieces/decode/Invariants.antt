use Rattle.std.proofs.Common.{◌≡◌, length, ◌++◌}
use Rattle.sec_decoders.specs.Pieces.{pieces}
use Rattle.sec_decoders.proofs.pieces.decode.Given as goal

abbrev pub invariant-loop-rest : goal.invariant-loop-rest
invariant-loop-rest g l = l.out ++ pieces g.D.Decoder.piece 0 l.rest ≡ pieces g.D.Decoder.piece 0 l.value

abbrev pub decreases-loop-rest : goal.decreases-loop-rest
decreases-loop-rest g l = length l.rest
