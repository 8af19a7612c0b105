use Rattle.std.proofs.Common.{arith, length, Some, suc}
use Rattle.std.specs.Prelude.{option_copied}
use Rattle.sec_parts.specs.Acts.{pieces_in}
use Rattle.sec_parts.proofs.ActionLoop.{goes_on, left_within}
use Rattle.sec_parts.proofs.acts.add_pieces.Goals as goal

pub loop-rest-preserved : goal.loop-rest-preserved
loop-rest-preserved c =
    let start = rw c.in-Some.is at c.loop-rest.invariant in
    let less = left_within c.in-Some.here.now (option_copied c.in_ok-piece.after) (grind (arith, c.in_ok-piece.ensures.shorter)) in
    goes_on c.args.stand c.in-Some.here.now c.loop-rest.acts c.add_piece-added.new.acts c.in_ok-piece.piece (option_copied c.in_ok-piece.after)
    (pieces_in c.args.stand (suc (length c.args.text.now)) (Some c.args.text.now) c.args.acts.now) start c.in_ok-piece.ensures.piece less c.in_ok-added.ensures
