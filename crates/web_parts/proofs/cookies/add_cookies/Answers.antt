use Rattle.std.proofs.Common.{◌++◌, List, ℕ}
use Rattle.std.specs.Option.{option_map}
use Rattle.web_parts.specs.Cookies.{cookies_of, rows_of_piece}
use Rattle.web_parts.specs.Pieces.{trimmed}
use Rattle.web_parts.proofs.Cuts.{turn}
use Rattle.web_parts.proofs.cookies.add_cookies.Goals as goal

pub loop-rest-preserved : goal.loop-rest-preserved
loop-rest-preserved c =
    turn (λ (piece : List ℕ). rows_of_piece (trimmed piece)) 59 c.loop-rest.rows c.add_cookie.new.rows (c.args.rows.now ++ cookies_of c.args.value.now) c.in-Some.text.now c.cut.result.0.now (option_map (λ t. t.now) c.cut.result.1)
    (rw c.in-Some.is at c.loop-rest.invariant) c.cut.ensures.before c.cut.ensures.behind (rw c.trimmed.ensures at c.in_ok-add_cookie.ensures)
