use Rattle.std.proofs.Common.{◌-◌, ◌≤◌, length, take, sym, ap, ◌∙◌, arith}
use Rattle.sec_decoders.specs.Pieces.{pieces}
use Rattle.sec_decoders.proofs.Turns.{ended, enough, filled, none_left}
use Rattle.sec_decoders.proofs.pieces.decode.Goals as goal

pub returns-then-len-ge-LIMIT : goal.returns-then-len-ge-LIMIT
returns-then-len-ge-LIMIT g c =
    let fits : 1048576 ≤ length c.loop-rest.out = omega arith in
    c.truncate.ensures ∙ enough 1048576 c.loop-rest.out (pieces g.D.Decoder.piece 0 c.loop-rest.rest.now) _ c.loop-rest.invariant fits

pub returns-then-plain-room : goal.returns-then-plain-room
returns-then-plain-room g c =
    rw (c.in_ok-append.ensures.ok, c.split_at-then-plain-room.ensures.front)
    (filled g.D.Decoder.piece c.plain_len.result (1048576 - c.len-room.result) 1048576 c.loop-rest.out c.split_at.result.0.now _ c.loop-rest.rest.now
    c.loop-rest.invariant c.plain_len.ensures.kept c.split_at.ensures.front
    (omega (arith, c.len.ensures, c.len-room.ensures)) (omega (arith, c.len.ensures, c.len-room.ensures)))

pub returns : goal.returns
returns g c =
    let none = none_left c.loop-rest.rest.now (sym c.is_empty.ensures ∙ c.loop-rest-test.false) in
    c.truncate-2.ensures ∙ ap (take 1048576) (ended g.D.Decoder.piece c.loop-rest.out _ c.loop-rest.rest.now c.loop-rest.invariant none)
