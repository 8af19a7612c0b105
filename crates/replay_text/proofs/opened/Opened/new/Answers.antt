use Rattle.std.proofs.Common.{false}
use Rattle.std.proofs.lemmas.List.{length-replicate}
use Rattle.replay_text.specs.declared.opened.TheConstants.{CONNECTIONS}
use Rattle.replay_text.proofs.Flagged.{all_unset}
use Rattle.replay_text.proofs.opened.Opened.new.Goals as goal

pub returns : goal.returns
returns c =
    rw (c.in_ok-from_elem.ensures.items_if_clones_equal (λ y is. is)) (length-replicate CONNECTIONS false, all_unset CONNECTIONS)
