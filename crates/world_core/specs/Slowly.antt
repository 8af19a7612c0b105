-- What is kept of a request between two judgements of it.
use Rattle.std.specs.Prelude.{◌≡◌, length, None}
use Rattle.std.specs.Arc.{arc_value}
use Rattle.sec_meaning.specs.Judgement.{request_part}
use Rattle.tx_core.specs.Halves.{first_lines}
use Rattle.tx_core.specs.HalfView.{HalfView}
use Rattle.world_core.specs.declared.slowly.SlowHalf.TheInside.{Inside}

abbrev pub seen_slow_half : Inside → HalfView
seen_slow_half h = record { generation = h.generation; listing = arc_value h.rules; request = h.request }

-- the rules do not interrupt the request, and so many lines are logged for it
pub record IsBegun (h : Inside) : Type 0 where
  pub goes : (request_part (arc_value h.rules) h.request).verdict ≡ None
  pub logged : h.logged ≡ length (first_lines (arc_value h.rules) h.request)
