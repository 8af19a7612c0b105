use Rattle.std.proofs.Common.{◌∙◌, refl, sym}
use Rattle.sec_decoders.proofs.Turns.{turned, some_left}
use Rattle.sec_decoders.proofs.pieces.take_piece.Goals as goal

pub returns-clause-left : goal.returns-clause-left
returns-clause-left g c =
    let some = some_left c.args.text.now (sym c.is_empty.ensures ∙ c.if-is_empty.false) in
    let gives = c.as_slice.ensures.value ∙ c.piece-piece.ensures.gives in
    rw (c.in_ok-append.ensures.ok, c.split_at.ensures.back)
    (turned g.D.Decoder.piece c.args.out.now c.as_slice.result.now _ c.args.text.now c.piece-piece.result.takes refl some gives c.piece-piece.ensures.takes c.piece-piece.ensures.moves)
