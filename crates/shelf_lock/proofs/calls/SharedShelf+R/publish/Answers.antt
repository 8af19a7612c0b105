use Rattle.std.proofs.Common.{refl}
use Rattle.shelf_lock.proofs.Histories.{publishes}
use Rattle.shelf_lock.proofs.calls.SharedShelf+R.publish.Goals as goal

pub returns-clause-publishes : goal.returns-clause-publishes
returns-clause-publishes g c = publishes g.R.Clone.is_clone c.args.self.now _ _ _ _ c.make.ensures.call c.args.apps c.published_of.result refl c.published_of.ensures
