use Rattle.hall_core.specs.Promised.{call_of, reply_of}
use Rattle.hall_core.specs.Keeping.{claimed_by, claimed_once}
use Rattle.hall_core.proofs.Values.{claimed_as_parked}
use Rattle.hall_core.proofs.laws.parked_is_claimed_at_most_once.Goals as goal

pub returns-clause-once : goal.returns-clause-once
returns-clause-once g c s log n z h = claimed_once call_of reply_of s log n z h

pub returns-clause-expired : goal.returns-clause-expired
returns-clause-expired g c s log n d now z h quiet le was = claimed_by call_of reply_of s log n d now z h quiet le was

pub returns-clause-value : goal.returns-clause-value
returns-clause-value g c s log e n value z h claims = claimed_as_parked call_of reply_of s log e n value z h claims
