-- The rules of one file, read and compiled, or the line of the first fault.
use Rattle.std.specs.Prelude.{ℕ, List, [], ◌∷◌, Result}
use Rattle.sec_ast.specs.declared.listing.Listing.{Listing}
use Rattle.sec_read.specs.FileWords.{Named}
use Rattle.agent_conf.specs.Loading.{rules_in}
use Rattle.reports.specs.FaultLines.{in_line}

abbrev pub listing_under : Named → List ℕ → Result Listing (List ℕ)
listing_under told name = in_line name (rules_in told (name ∷ []))
