use Rattle.std.proofs.Common.{rules, ◌+◌, ◌%◌, ◌^◌}
use Rattle.turn_lock.proofs.Steps.{still_keeps}
use Rattle.turn_lock.proofs.Views.{same_pass}
use Rattle.turn_lock.proofs.waiting.TurnLock+O.count.Goals as goal

pub fetch_add-requires : goal.fetch_add-requires
fetch_add-requires g c = (
  search rules,
  search rules,
  still_keeps g.O.Object.may g.O.Object.allows g.O.Object.after g.O.Object.kept _ _ _ c.args.pass.now.me c.args.word (λ n. (n + c.args.by) % 2 ^ 64) c.requires.word.0,
)

pub returns : goal.returns
returns g c = record { same = same_pass c.fetch_add.new.seat c.args.pass.now c.fetch_add.ensures.0 c.fetch_add.ensures.1 c.fetch_add.ensures.2 }
