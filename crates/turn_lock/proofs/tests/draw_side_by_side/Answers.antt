use Rattle.std.proofs.Common.{◌≡◌, ◌+◌, ap, ◌∙◌, arith}
use Rattle.turn_lock.specs.Lock.{opened_with, own_of, seen_of}
use Rattle.turn_lock.specs.Numbers.{drawn, next_after, once_below, times}
use Rattle.turn_lock.proofs.Draws.{drawn_interleaves, drawn_once, none_below}
use Rattle.turn_lock.proofs.tests.draw_side_by_side.Goals as goal

pub returns : goal.returns
returns g c x =
    let p : times x c.join-pass.result.0.1.items ≡ drawn x (own_of c.join-pass.result.0.0) = c.join-pass.ensures.first.0.1 x in
    let q : times x c.join-pass.result.1.1.items ≡ drawn x (own_of c.join-pass.result.1.0) = c.join-pass.ensures.second.0.1 x in
    let s : drawn x (own_of c.join.new.pass) ≡ drawn x (own_of c.join-pass.result.0.0) + drawn x (own_of c.join-pass.result.1.0) = drawn_interleaves x _ _ _ c.join.ensures.joins.listed in
    let w : drawn x (own_of c.join.new.pass) ≡ drawn x (seen_of c.join.new.pass) = ap (drawn x) c.close.ensures.whole in
    let o = drawn_once x (opened_with c.in_ok-lock.lock) (seen_of c.join.new.pass) c.close.ensures.legal in
    let z = none_below x (opened_with c.in_ok-lock.lock) c.in_ok-lock.ensures.lock.1 in
    let e : once_below x c.result.inside.next ≡ once_below x (next_after (opened_with c.in_ok-lock.lock) (seen_of c.join.new.pass)) = ap (once_below x) (c.result.view_is ∙ c.close.ensures.object) in
    omega arith
