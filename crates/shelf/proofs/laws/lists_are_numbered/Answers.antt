use Rattle.shelf.proofs.Numbers.{numbered}
use Rattle.shelf.proofs.laws.lists_are_numbered.Goals as goal

pub returns : goal.returns
returns g c s log z l = numbered g.R.Clone.is_clone s log z l
