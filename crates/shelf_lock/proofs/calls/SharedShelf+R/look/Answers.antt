use Rattle.std.proofs.Common.{refl}
use Rattle.shelf_lock.proofs.Histories.{looks_at}
use Rattle.shelf_lock.proofs.calls.SharedShelf+R.look.Goals as goal

pub returns-clause-looks : goal.returns-clause-looks
returns-clause-looks g c = looks_at g.R.Clone.is_clone c.args.self.now _ _ _ _ c.make.ensures.call c.args.name c.look_of.result refl c.look_of.ensures
