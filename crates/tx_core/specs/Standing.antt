-- What a half keeps.
use Rattle.std.specs.Prelude.{◌≡◌, None}
use Rattle.std.specs.Arc.{arc_value}
use Rattle.sec_meaning.specs.Judgement.{request_part}
use Rattle.tx_core.specs.declared.half.Half.TheInside.{Inside}
use Rattle.tx_core.specs.HalfView.{HalfView}
use Rattle.tx_core.specs.Lines.{without_lines}

abbrev pub seen_half : Inside → HalfView
seen_half h = record { generation = h.generation; listing = arc_value h.rules; request = h.state.request }

-- the state after the phases of its request under its rules, which did not interrupt. The lines were handed out
pub record Stands (h : Inside) : Type 0 where
  pub state : h.state ≡ without_lines (request_part (arc_value h.rules) h.state.request).state
  pub goes : (request_part (arc_value h.rules) h.state.request).verdict ≡ None
