-- How SPOP spells a frame (SPOE.txt, 3.2).
use Rattle.std.specs.Prelude.{◌≡◌, ◌⊎◌, ℕ, ◌^◌, ◌<◌, ◌≤◌, List, ◌∷◌, ◌++◌, length, IsBitSet}
use Rattle.std.specs.Int.{to_be_bytes, w32}
use Rattle.spop_varint.specs.Varint.{Spells}
use Rattle.spop_frame.specs.declared.frame.Frame.{Frame}
use Rattle.spop_frame.specs.declared.kind.TheConstants.{UNSET}

-- the bytes after the length: the type, four bytes of flags, two numbers and the payload
pub record SpellsBody (body : List ℕ) (f : Frame) : Type 0 where
  pub kind : f.kind < 256
  pub flags : f.flags < 2 ^ 32
  pub stream : List ℕ
  pub frame : List ℕ
  pub stream_is : Spells stream f.stream
  pub frame_is : Spells frame f.frame
  pub is : body ≡ f.kind ∷ to_be_bytes w32 f.flags ++ (stream ++ (frame ++ f.payload))

-- four bytes of length in network order, and that many bytes
abbrev pub framed : List ℕ → List ℕ
framed body = to_be_bytes w32 (length body) ++ body

abbrev pub SpellsFrame : List ℕ → Frame → Type 0
SpellsFrame bytes f = (body : List ℕ) × SpellsBody body f × (length body < 2 ^ 32) × (bytes ≡ framed body)

-- new is old with the frame's spelling at its end
abbrev pub AppendsFrame : List ℕ → List ℕ → Frame → Type 0
AppendsFrame old new f = (bytes : List ℕ) × SpellsFrame bytes f × (new ≡ old ++ bytes)

-- its length does not fit four bytes
abbrev pub IsTooLong : Frame → Type 0
IsTooLong f = (body : List ℕ) × SpellsBody body f × (2 ^ 32 ≤ length body)

-- a part of a longer frame, or one that was given up: FIN (bit 0) is missing, ABORT (bit 1) is set or the type is UNSET
abbrev pub IsFragment : Frame → Type 0
IsFragment f = (¬ (IsBitSet f.flags 0)) ⊎ (IsBitSet f.flags 1) ⊎ (f.kind ≡ UNSET)
