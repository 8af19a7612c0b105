-- What some bytes begin with, as functions.
use Rattle.std.specs.Prelude.{ℕ, List, [], ◌∷◌, Option, Some, None}
use Rattle.std.specs.Int.{from_be_bytes, w32}
use Rattle.spop_varint.specs.Reading.{◌>>=◌, split_number}
use Rattle.spop_frame.specs.declared.frame.Frame.{Frame}

-- four bytes in network order, and the bytes after them
abbrev pub split_word : List ℕ → Option (ℕ × List ℕ)
split_word (a ∷ b ∷ c ∷ d ∷ rest) = Some (from_be_bytes w32 (a ∷ b ∷ c ∷ d ∷ []), rest)
split_word fewer = None

-- the frame that the bytes after a length are
abbrev pub frame_of : List ℕ → Option Frame
frame_of [] = None
frame_of (kind ∷ body) = do
  flags ← split_word body
  stream ← split_number flags.1
  frame ← split_number stream.1
  Some (record { kind = kind; flags = flags.0; stream = stream.0; frame = frame.0; payload = frame.1 })
