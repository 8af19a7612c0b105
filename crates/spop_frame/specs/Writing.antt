-- The one spelling of a frame, as a function.
use Rattle.std.specs.Prelude.{List, ℕ, ◌∷◌, ◌++◌}
use Rattle.std.specs.Int.{to_be_bytes, w32}
use Rattle.spop_varint.specs.Writing.{spelling}
use Rattle.spop_frame.specs.Frame.{framed}
use Rattle.spop_frame.specs.declared.frame.Frame.{Frame}

-- the bytes after the length
abbrev pub body_bytes : Frame → List ℕ
body_bytes f = f.kind ∷ to_be_bytes w32 f.flags ++ (spelling f.stream ++ (spelling f.frame ++ f.payload))

abbrev pub frame_bytes : Frame → List ℕ
frame_bytes f = framed (body_bytes f)
