use Rattle.std.proofs.Common.{◌≡◌, ◌≤◌, length}
use Rattle.sec_text.specs.Quotes.{quoted}
use Rattle.sec_text.proofs.QuotedSteps.{onto}
use Rattle.sec_text.proofs.quotes.read_quoted.Given as goal

abbrev pub invariant-loop-byte : goal.invariant-loop-byte
invariant-loop-byte l = record {
  text : onto l.text (quoted l.quote l.rest) ≡ quoted l.quote l.bytes;
  within : length l.rest ≤ length l.bytes;
}

abbrev pub decreases-loop-byte : goal.decreases-loop-byte
decreases-loop-byte l = length l.rest
