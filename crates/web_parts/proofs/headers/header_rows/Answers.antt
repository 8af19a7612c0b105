use Rattle.std.specs.Option.{option_map}
use Rattle.web_parts.specs.Headers.{header_rows, rows_of_line}
use Rattle.web_parts.proofs.Cuts.{turn}
use Rattle.web_parts.proofs.headers.header_rows.Goals as goal

pub loop-rest-preserved : goal.loop-rest-preserved
loop-rest-preserved c =
    turn rows_of_line 10 c.loop-rest.rows c.add_row.new.rows (header_rows c.args.lines.now) c.in-Some.text.now c.cut.result.0.now (option_map (λ t. t.now) c.cut.result.1)
    (rw c.in-Some.is at c.loop-rest.invariant) c.cut.ensures.before c.cut.ensures.behind c.in_ok-add_row.ensures
