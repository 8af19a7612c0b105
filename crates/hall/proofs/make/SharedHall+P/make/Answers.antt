use Rattle.std.proofs.Common.{◌<◌, sym, refl, subst}
use Rattle.hall.proofs.Places.{got}
use Rattle.hall.proofs.Turns.{hall_stays, others_stay, replied}
use Rattle.hall.proofs.make.SharedHall+P.make.Goals as goal

pub act-requires-clause-lock : goal.act-requires-clause-lock
act-requires-clause-lock g c =
    let at = got c.args.self.now.locks.items c.args.shard c.index-lock.result.now c.requires.shard c.index-lock.ensures in
    let had = got c.args.pass.now.seats.items c.args.shard c.index_mut-seat.result.now (subst (λ n. c.args.shard < n) (sym c.requires.hall.count) c.requires.shard) c.index_mut-seat.ensures.value in
    (c.requires.hall.each c.args.shard c.index-lock.result.now c.index_mut-seat.result.now at had).pass

pub act-requires-clause-fits : goal.act-requires-clause-fits
act-requires-clause-fits g c = c.requires.fits c.index_mut-seat.result.now
    (got c.args.pass.now.seats.items c.args.shard c.index_mut-seat.result.now (subst (λ n. c.args.shard < n) (sym c.requires.hall.count) c.requires.shard) c.index_mut-seat.ensures.value)

pub returns-clause-call : goal.returns-clause-call
returns-clause-call g c = record {
  lock = c.index-lock.result.now;
  old = c.index_mut-seat.result.now;
  new = c.act.new.pass;
  at = got c.args.self.now.locks.items c.args.shard c.index-lock.result.now c.requires.shard c.index-lock.ensures;
  had = got c.args.pass.now.seats.items c.args.shard c.index_mut-seat.result.now (subst (λ n. c.args.shard < n) (sym c.requires.hall.count) c.requires.shard) c.index_mut-seat.ensures.value;
  has = refl;
  extends = c.act.ensures.call;
}

pub returns-clause-hall : goal.returns-clause-hall
unfolding returns-clause-call
returns-clause-hall g c = let t = returns-clause-call g c in
    hall_stays _ _ _ _ _ _ c.requires.hall t c.act.ensures.lock (c.requires.fits c.index_mut-seat.result.now t.had)

pub returns-clause-reply : goal.returns-clause-reply
unfolding returns-clause-call
returns-clause-reply g c = replied _ _ _ _ _ _ c.requires.hall (returns-clause-call g c)

pub returns-clause-others : goal.returns-clause-others
unfolding returns-clause-call
returns-clause-others g c = others_stay _ _ _ _ _ _ c.requires.hall (returns-clause-call g c)
