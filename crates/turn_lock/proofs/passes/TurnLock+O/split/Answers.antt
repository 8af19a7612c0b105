use Rattle.std.proofs.Common.{rules}
use Rattle.turn_lock.proofs.Sharing.{split_keeps}
use Rattle.turn_lock.proofs.passes.TurnLock+O.split.Goals as goal

pub split_seat-requires : goal.split_seat-requires
split_seat-requires g c = (
  search rules,
  search rules,
  split_keeps g.O.Object.may g.O.Object.allows g.O.Object.after g.O.Object.kept _ g.met.O.Object.kept_new _ c.args.pass.now.me.0 c.requires.lock.2 c.requires.share,
)
