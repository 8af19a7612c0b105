use Rattle.std.proofs.Common.{◌≡◌, ◌≤◌, drop}
use Rattle.std.specs.Prelude.{IfSome}
use Rattle.sec_read.specs.declared.faults.Spot.{Spot}
use Rattle.sec_read.specs.Listing.{all_handed_in}
use Rattle.sec_read.specs.Places.{AllOpen}
use Rattle.sec_read.proofs.files.read_each.Given as goal

abbrev pub invariant-loop-name : goal.invariant-loop-name
invariant-loop-name g l =
    let files = g.F.Files in
    record {
      same : files.content l.files ≡ files.content l.fn.files;
      later : files.faults l.fn.files ≤ files.faults l.files;
      place : IfSome (files.content l.fn.files) (λ told. (spot : Spot) → AllOpen told (drop l.name-index l.names) l.reading spot → AllOpen told l.names l.fn.reading spot);
      told : IfSome (files.content l.fn.files) (λ told. all_handed_in told (drop l.name-index l.names) l.reading ≡ all_handed_in told l.names l.fn.reading);
    }
