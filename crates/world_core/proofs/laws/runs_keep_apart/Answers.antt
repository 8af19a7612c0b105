use Rattle.world_core.proofs.Elsewhere.{others_stay}
use Rattle.world_core.proofs.Histories.{shards_are_legal}
use Rattle.world_core.proofs.laws.runs_keep_apart.Goals as goal

pub returns-clause-others : goal.returns-clause-others
returns-clause-others g c listing_of w step u seen n s h ne has = others_stay listing_of w step u seen n s h ne has

pub returns-clause-shards : goal.returns-clause-shards
returns-clause-shards g c listing_of w log u i hall h e = shards_are_legal listing_of w log u i hall h e
