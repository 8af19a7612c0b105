use Rattle.std.proofs.Common.{rules, ◌<◌, ap, subst, sym, arith}
use Rattle.turn_lock.specs.View.{joined}
use Rattle.turn_lock.proofs.Sharing.{join_keeps, confirm_keeps, join_told}
use Rattle.turn_lock.proofs.passes.TurnLock+O.join.Goals as goal

pub join_seat-requires : goal.join_seat-requires
join_seat-requires g c = let p = c.requires.lock.0 in let o = c.requires.lock.1 in (
  search rules,
  search rules,
  search rules,
  search rules,
  join_keeps g.O.Object.may g.O.Object.allows g.O.Object.after g.O.Object.kept _ g.met.O.Object.kept_join _ c.args.pass.now.me.0 _ c.args.other.me.0 p.2 p.3 o.2 o.3,
)

pub load-requires : goal.load-requires
load-requires g c =
    let p = c.requires.lock.0.3 in
    let live : 0 < (joined c.args.pass.now.me.0 c.args.other.me.0).share = omega arith in (
      search rules,
      search rules,
      confirm_keeps g.O.Object.may g.O.Object.allows g.O.Object.after g.O.Object.kept _ _ _ c.join_seat.new.seat.me (subst (λ m. 0 < m.0.share) (sym c.join_seat.ensures.2) live),
    )

pub returns-clause-joins : goal.returns-clause-joins
returns-clause-joins g c =
    join_told g.O.Object.may g.O.Object.allows g.O.Object.after _ c.args.pass.now c.args.other c.load.new.seat c.join_seat.new.seat.me c.requires.lock.0.4 (ap (λ m. m.0) c.join_seat.ensures.2) c.load.ensures.2
