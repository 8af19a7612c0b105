use Rattle.std.proofs.Common.{◌≡◌, ℕ, ◌∙◌, rules, sym, refl, subst, arith}
use Rattle.hall.specs.Passes.{shards_of}
use Rattle.hall.proofs.Places.{got}
use Rattle.hall.proofs.Splitting.{Halved, halved_more, holds_all, left_is, right_is}
use Rattle.hall.proofs.passes.SharedHall+P.split.Goals as goal

pub split-requires-clause-lock : goal.split-requires-clause-lock
split-requires-clause-lock g c =
    let d = c.loop-shard.invariant.1 in let inside = c.loop-shard-test.true in let end = c.len-shard-end.ensures in let one = c.requires.hall.count in let same = d.same_length in
    let at = got c.args.self.now.locks.items c.loop-shard.shard c.index-lock.result.now (omega arith) c.index-lock.ensures in
    let has = got c.loop-shard.pass.seats.items c.loop-shard.shard c.index_mut.result.now (omega arith) c.index_mut.ensures.value in
    (c.requires.hall.each c.loop-shard.shard c.index-lock.result.now c.index_mut.result.now at (sym (d.rest c.loop-shard.shard (omega arith)) ∙ has)).pass

pub split-requires-clause-share : goal.split-requires-clause-share
split-requires-clause-share g c =
    let d = c.loop-shard.invariant.1 in let inside = c.loop-shard-test.true in let end = c.len-shard-end.ensures in let one = c.requires.hall.count in let same = d.same_length in
    let has = got c.loop-shard.pass.seats.items c.loop-shard.shard c.index_mut.result.now (omega arith) c.index_mut.ensures.value in
    c.requires.share c.loop-shard.shard c.index_mut.result.now (sym (d.rest c.loop-shard.shard (omega arith)) ∙ has)

pub loop-shard-preserved : goal.loop-shard-preserved
loop-shard-preserved g c =
    let d = c.loop-shard.invariant.1 in let inside = c.loop-shard-test.true in let end = c.len-shard-end.ensures in let one = c.requires.hall.count in let same = d.same_length in
    let at = got c.args.self.now.locks.items c.loop-shard.shard c.index-lock.result.now (omega arith) c.index-lock.ensures in
    let has = got c.loop-shard.pass.seats.items c.loop-shard.shard c.index_mut.result.now (omega arith) c.index_mut.ensures.value in
    let o = c.split.ensures.old in let n = c.split.ensures.new in (
      search rules,
      halved_more c.args.self.now c.loop-shard.shard c.args.pass.now.seats.items c.loop-shard.pass.seats.items _ c.loop-shard.seats.items c.push_reserved.new.self.items
          c.index-lock.result.now c.index_mut.result.now c.split.new.pass c.split.result d at has refl c.push_reserved.ensures.items c.split.ensures.lock.0 c.split.ensures.lock.1
          (record { seen = o.0; marks = o.1; share = o.2; new_seen = n.0; new_marks = n.1; new_share = n.2 }),
    )

pub returns-clause-old : goal.returns-clause-old
returns-clause-old g c =
    let past = c.loop-shard-test.false in let within = c.loop-shard.auto.shard-end in let end = c.len-shard-end.ensures in
    let e : c.loop-shard.shard ≡ shards_of c.args.self.now = omega arith in
    left_is c.args.self.now c.args.pass.now c.loop-shard.pass (record { seats = c.loop-shard.seats }) c.requires.hall
    (subst (λ (n : ℕ). Halved c.args.self.now n c.args.pass.now.seats.items c.loop-shard.pass.seats.items c.loop-shard.seats.items) e c.loop-shard.invariant.1)

pub returns-clause-new : goal.returns-clause-new
returns-clause-new g c =
    let past = c.loop-shard-test.false in let within = c.loop-shard.auto.shard-end in let end = c.len-shard-end.ensures in
    let e : c.loop-shard.shard ≡ shards_of c.args.self.now = omega arith in
    right_is c.args.self.now c.args.pass.now c.loop-shard.pass (record { seats = c.loop-shard.seats }) c.requires.hall
    (subst (λ (n : ℕ). Halved c.args.self.now n c.args.pass.now.seats.items c.loop-shard.pass.seats.items c.loop-shard.seats.items) e c.loop-shard.invariant.1)

pub returns-clause-tickets : goal.returns-clause-tickets
returns-clause-tickets g c =
    let past = c.loop-shard-test.false in let within = c.loop-shard.auto.shard-end in let end = c.len-shard-end.ensures in
    let e : c.loop-shard.shard ≡ shards_of c.args.self.now = omega arith in
    holds_all c.args.self.now c.args.pass.now c.loop-shard.pass (record { seats = c.loop-shard.seats }) c.requires.hall
    (subst (λ (n : ℕ). Halved c.args.self.now n c.args.pass.now.seats.items c.loop-shard.pass.seats.items c.loop-shard.seats.items) e c.loop-shard.invariant.1)
