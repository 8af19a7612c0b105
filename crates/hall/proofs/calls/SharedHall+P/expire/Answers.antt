use Rattle.std.proofs.Common.{refl}
use Rattle.hall.proofs.Turns.{expired, none_is_due}
use Rattle.hall.proofs.calls.SharedHall+P.expire.Goals as goal

pub returns-clause-first : goal.returns-clause-first
returns-clause-first g c = expired _ _ _ _ _ _ c.requires.hall c.make.ensures.call c.args.now c.expiry_of.result refl c.expiry_of.ensures

pub returns-clause-none : goal.returns-clause-none
returns-clause-none g c = none_is_due _ _ _ _ _ _ c.requires.hall c.make.ensures.call c.args.now c.expiry_of.result refl c.expiry_of.ensures
