use Rattle.shelf_lock.proofs.Histories.{answered}
use Rattle.shelf_lock.proofs.make.SharedShelf+R.make.Goals as goal

pub returns-clause-reply : goal.returns-clause-reply
returns-clause-reply g c = answered g.R.Clone.is_clone c.args.self.now _ _ _ _ c.act.ensures.call
