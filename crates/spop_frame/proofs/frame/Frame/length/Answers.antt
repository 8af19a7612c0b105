use Rattle.std.proofs.Common.{◌++◌, length, ap, arith, length-append}
use Rattle.spop_varint.specs.Writing.{spelling}
use Rattle.spop_frame.proofs.frame.Frame.length.Goals as goal

pub returns : goal.returns
returns c =
    let f = c.args.self.now in
    omega (
      arith,
      length-append (spelling f.stream) (spelling f.frame ++ f.payload),
      length-append (spelling f.frame) f.payload,
      c.varint_length-stream.ensures.exact,
      c.varint_length-frame.ensures.exact,
      ap length c.as_slice-payload.ensures,
    )
