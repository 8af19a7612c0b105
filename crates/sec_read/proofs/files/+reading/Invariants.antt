use Rattle.std.proofs.Common.{◌≡◌, ◌≤◌, ◌*◌, ◌+◌, drop}
use Rattle.std.specs.Prelude.{IfSome}
use Rattle.sec_read.specs.declared.faults.Spot.{Spot}
use Rattle.sec_read.specs.Listing.{lines_from, opened}
use Rattle.sec_read.specs.Places.{IncludeOpens, LinesOpen}
use Rattle.sec_read.proofs.files.+reading.Given as goal

abbrev pub decreases-include : goal.decreases-include
decreases-include g l = 3 * l.depth

abbrev pub decreases-read_line : goal.decreases-read_line
decreases-read_line g l = 3 * l.depth + 1

abbrev pub decreases-read_lines : goal.decreases-read_lines
decreases-read_lines g l = 3 * l.depth + 2

abbrev pub invariant-read_lines-loop-line : goal.invariant-read_lines-loop-line
invariant-read_lines-loop-line g l =
    let files = g.F.Files in
    record {
      same : files.content l.files ≡ files.content l.fn.files;
      later : files.faults l.fn.files ≤ files.faults l.files;
      place : IfSome (files.content l.fn.files) (λ told. (spot : Spot) → LinesOpen told (opened told l.depth) (IncludeOpens told l.depth) l.file (drop l.line-index l.lines) l.reading spot
          → LinesOpen told (opened told l.depth) (IncludeOpens told l.depth) l.file l.lines l.fn.reading spot);
      told : IfSome (files.content l.fn.files) (λ told. lines_from told (opened told l.depth) l.file (drop l.line-index l.lines) l.reading ≡ lines_from told (opened told l.depth) l.file l.lines l.fn.reading);
    }
