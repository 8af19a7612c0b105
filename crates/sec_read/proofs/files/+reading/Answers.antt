use Rattle.std.proofs.Common.{◌≡◌, ◌<◌, ◌-◌, ◌∙◌, Ok, Some, arith}
use Rattle.std.proofs.lemmas.Result.{err_from_is_err_and}
use Rattle.sec_read.specs.Listing.{opened, opened_text}
use Rattle.sec_read.specs.Names.{beside}
use Rattle.sec_read.specs.Places.{IncludeOpens, LinesOpen}
use Rattle.sec_read.specs.Results.{IsSpot}
use Rattle.sec_read.proofs.Opens.{all_told, include_names, include_opens, told_after}
use Rattle.sec_read.proofs.Depths.{not_opened, was_opened}
use Rattle.sec_read.proofs.files.+reading.Goals as goal

pub include-returns-in_err-lines-clause-told : goal.include-returns-in_err-lines-clause-told
include-returns-in_err-lines-clause-told g t c =
    let p = err_from_is_err_and c.from_residual-in_err-lines.result c.from_residual-in_err-lines.ensures.1 in
    let some : 0 < c.args.depth = omega arith in
    rw (p.1, p.2) (not_opened c.args.depth c.args.at.file.now c.args.at.line c.args.word.now c.as_slice-name.result.now c.args.reading.now some (◌∙◌ {c = beside c.args.at.file.now c.args.word.now} c.as_slice-name.ensures c.in_ok-name.ensures) c.if-has_wildcard_byte.ensures
    (g.F.Files.content c.args.files.now) c.in_err-lines.field-0.0 c.in_err-lines.ensures.told)

pub include-returns-clause-told : goal.include-returns-clause-told
include-returns-clause-told g t c =
    let some : 0 < c.args.depth = omega arith in
    was_opened c.args.depth c.args.at.file.now c.args.at.line c.args.word.now c.as_slice-name.result.now c.args.reading.now some (◌∙◌ {c = beside c.args.at.file.now c.args.word.now} c.as_slice-name.ensures c.in_ok-name.ensures) c.if-has_wildcard_byte.ensures (λ _. c.read_lines.new.reading)
    (g.F.Files.content c.args.files.now) (g.F.Files.content c.open_text.new.files) c.in_ok-lines.lines c.as_slice.result.now c.open_text.new.reading c.read_lines.result c.in_ok-lines.ensures.same c.as_slice.ensures c.in_ok-lines.ensures.told c.read_lines.ensures.told

pub include-returns-in_err-lines-clause-place : goal.include-returns-in_err-lines-clause-place
include-returns-in_err-lines-clause-place g t c =
    let p = err_from_is_err_and c.from_residual-in_err-lines.result c.from_residual-in_err-lines.ensures.1 in
    let some : 0 < c.args.depth = omega arith in
    rw (p.1, p.2) (all_told c.in_err-lines.field-0.0 (g.F.Files.content c.args.files.now) (IsSpot c.args.at.file.now c.args.at.line (Some c.args.word.now))
    (λ files spot. IncludeOpens files c.args.depth c.args.at.file.now c.args.at.line c.args.word.now c.args.reading.now spot)
    (λ files spot. include_names files c.args.depth c.args.at.file.now c.args.at.line c.args.word.now c.args.reading.now some c.if-has_wildcard_byte.ensures spot) c.in_err-lines.ensures.place)

pub include-returns-clause-place : goal.include-returns-clause-place
include-returns-clause-place g t c =
    let some : 0 < c.args.depth = omega arith in
    let name = c.as_slice-name.result.now in
    told_after c.read_lines.result (g.F.Files.content c.args.files.now) (g.F.Files.content c.open_text.new.files)
    (λ files. opened_text c.args.at.file.now c.args.at.line c.args.word.now name (files name) c.args.reading.now ≡ Ok (c.in_ok-lines.lines, c.open_text.new.reading))
    (λ files spot. LinesOpen files (opened files (c.args.depth - 1)) (IncludeOpens files (c.args.depth - 1)) name c.as_slice.result.now c.open_text.new.reading spot)
    (λ files spot. IncludeOpens files c.args.depth c.args.at.file.now c.args.at.line c.args.word.now c.args.reading.now spot)
    c.in_ok-lines.ensures.same
    (λ files spot. include_opens files c.args.depth c.args.at.file.now c.args.at.line c.args.word.now c.args.reading.now some c.if-has_wildcard_byte.ensures spot name c.in_ok-lines.lines c.as_slice.result.now c.open_text.new.reading
    (◌∙◌ {c = beside c.args.at.file.now c.args.word.now} c.as_slice-name.ensures c.in_ok-name.ensures) c.as_slice.ensures)
    c.in_ok-lines.ensures.told c.read_lines.ensures.place
