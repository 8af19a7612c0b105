use Rattle.std.proofs.Common.{◌≡◌, ℕ, ◌∙◌, List, [], ◌∷◌, ◌++◌, sym, subst, ap, length, length-append, option_to_list, slice_get, set, Some, arith}
use Rattle.hall.specs.Passes.{Seat, locks_of}
use Rattle.hall.proofs.Places.{at_last, got}
use Rattle.hall.proofs.Joining.{Woven, each_joined, hall_joined, holds_of, no_passes, woven_more}
use Rattle.hall.proofs.passes.SharedHall+P.join.Goals as goal

pub join-requires : goal.join-requires
join-requires g c =
    let d = c.loop-seat.invariant in let p = c.requires.hall.0 in let o = c.requires.hall.1 in
    let cut = c.pop.ensures.items ∙ ap (λ z. c.pop.new.self.items ++ option_to_list z) c.in-Some.is in
    let more = ap length cut ∙ length-append c.pop.new.self.items (c.in-Some.seat ∷ []) in
    let m = c.len-shard.ensures in let n : c.len-shard.result ≡ length c.pop.new.self.items = m ∙ c.pop.new.self.ok.0 in let within = d.within in let same = d.same_length in let one = p.count in let two = o.count in
    let at = got c.args.self.now.locks.items c.len-shard.result c.index-lock.result.now (omega arith) c.index-lock.ensures in
    let has = got c.loop-seat.pass.seats.items c.len-shard.result c.index_mut.result.now (omega arith) c.index_mut.ensures.value in
    let last : slice_get c.loop-seat.seats.items c.len-shard.result ≡ Some c.in-Some.seat =
    subst (λ (list : List (Seat g.row.P.Denot)). slice_get list c.len-shard.result ≡ Some c.in-Some.seat) (sym cut)
    (subst (λ (k : ℕ). slice_get (c.pop.new.self.items ++ c.in-Some.seat ∷ []) k ≡ Some c.in-Some.seat) (sym n) (at_last c.pop.new.self.items c.in-Some.seat)) in
    record {
      lock = (
        (p.each c.len-shard.result c.index-lock.result.now c.index_mut.result.now at (sym (d.rest c.len-shard.result (omega arith)) ∙ has)).pass,
        (o.each c.len-shard.result c.index-lock.result.now c.in-Some.seat at (d.front c.len-shard.result c.in-Some.seat last)).pass,
      );
    }

pub loop-seat-preserved : goal.loop-seat-preserved
loop-seat-preserved g c =
    let d = c.loop-seat.invariant in let p = c.requires.hall.0 in let o = c.requires.hall.1 in
    let cut = c.pop.ensures.items ∙ ap (λ z. c.pop.new.self.items ++ option_to_list z) c.in-Some.is in
    let more = ap length cut ∙ length-append c.pop.new.self.items (c.in-Some.seat ∷ []) in
    let m = c.len-shard.ensures in let n : c.len-shard.result ≡ length c.pop.new.self.items = m ∙ c.pop.new.self.ok.0 in
    let within = d.within in let same = d.same_length in let one = p.count in let two = o.count in
    let at = got c.args.self.now.locks.items c.len-shard.result c.index-lock.result.now (omega arith) c.index-lock.ensures in
    let has = got c.loop-seat.pass.seats.items c.len-shard.result c.index_mut.result.now (omega arith) c.index_mut.ensures.value in
    woven_more c.args.self.now c.args.pass.now.seats.items c.args.other.seats.items c.loop-seat.seats.items c.pop.new.self.items c.loop-seat.pass.seats.items _
    c.index-lock.result.now c.index_mut.result.now c.in-Some.seat c.join.new.pass d cut
    (subst (λ (k : ℕ). slice_get (locks_of c.args.self.now) k ≡ Some c.index-lock.result.now) n at)
    (subst (λ (k : ℕ). slice_get c.loop-seat.pass.seats.items k ≡ Some c.index_mut.result.now) n has)
    (ap (λ (k : ℕ). set c.loop-seat.pass.seats.items k c.join.new.pass) n) c.join.ensures.lock c.join.ensures.joins

pub returns-clause-hall : goal.returns-clause-hall
returns-clause-hall g c = let z : c.loop-seat.seats.items ≡ [] = no_passes c.loop-seat.seats.items (omega (arith, c.in_default.ensures.cases.0)) in
    hall_joined c.args.self.now c.args.pass.now c.args.other c.loop-seat.pass c.requires.hall.0 c.requires.hall.1
    (subst (λ (left : List (Seat g.row.P.Denot)). Woven c.args.self.now c.args.pass.now.seats.items c.args.other.seats.items left c.loop-seat.pass.seats.items) z c.loop-seat.invariant)

pub returns-clause-joined : goal.returns-clause-joined
returns-clause-joined g c = let z : c.loop-seat.seats.items ≡ [] = no_passes c.loop-seat.seats.items (omega (arith, c.in_default.ensures.cases.0)) in
    each_joined c.args.self.now c.args.pass.now c.args.other c.loop-seat.pass c.requires.hall.0 c.requires.hall.1
    (subst (λ (left : List (Seat g.row.P.Denot)). Woven c.args.self.now c.args.pass.now.seats.items c.args.other.seats.items left c.loop-seat.pass.seats.items) z c.loop-seat.invariant)

pub returns-clause-tickets : goal.returns-clause-tickets
returns-clause-tickets g c = let z : c.loop-seat.seats.items ≡ [] = no_passes c.loop-seat.seats.items (omega (arith, c.in_default.ensures.cases.0)) in
    holds_of c.args.self.now c.args.pass.now c.args.other c.loop-seat.pass c.requires.hall.0 c.requires.hall.1
    (subst (λ (left : List (Seat g.row.P.Denot)). Woven c.args.self.now c.args.pass.now.seats.items c.args.other.seats.items left c.loop-seat.pass.seats.items) z c.loop-seat.invariant)
