use Rattle.std.proofs.Common.{length}
use Rattle.sec_parts.proofs.PhraseLoop.{Reads}
use Rattle.sec_parts.proofs.phrases.read_phrase.Given as goal

abbrev pub invariant-loop-bytes : goal.invariant-loop-bytes
invariant-loop-bytes l = Reads l.word l.bytes l.rest

abbrev pub decreases-loop-bytes : goal.decreases-loop-bytes
decreases-loop-bytes l = length l.rest
