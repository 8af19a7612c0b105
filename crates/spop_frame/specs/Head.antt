-- What a stream of frames begins with.
use Rattle.std.specs.Prelude.{◌≡◌, ℕ, ◌||◌, ◌==◌, not, Bool, nat_lt, bit_and, if◌then◌else◌, List, take, drop, length, Option, Some, None}
use Rattle.spop_frame.specs.declared.frame.Frame.{Frame}
use Rattle.spop_frame.specs.declared.framer.Next as next
use Rattle.spop_frame.specs.declared.framer.Next.TheVariants as answers
use Rattle.spop_frame.specs.declared.flag.TheConstants.{FIN, ABORT}
use Rattle.spop_frame.specs.declared.kind.TheConstants.{UNSET}
use Rattle.spop_frame.specs.declared.status.TheConstants.{TOO_BIG, INVALID, FRAGMENT}
use Rattle.spop_frame.specs.Reading.{split_word, frame_of}

pub data Head : Type 0 where
  NotYet : Head
  Bad : ℕ → Head
  Whole : Frame → List ℕ → Head  -- a frame, and the bytes after it

-- it is a frame
abbrev pub IsWhole : Head → Type 0
IsWhole NotYet = ⊥
IsWhole (Bad status) = ⊥
IsWhole (Whole f rest) = Unit {0}

-- FIN is missing, ABORT is set or the type is UNSET
abbrev pub is_fragment : Frame → Bool
is_fragment f = (bit_and f.flags FIN == 0) || not (bit_and f.flags ABORT == 0) || (f.kind == UNSET)

abbrev pub whole : Option Frame → List ℕ → Head
whole None rest = Bad INVALID
whole (Some f) rest = if is_fragment f then Bad FRAGMENT else Whole f rest

abbrev pub behind_length : ℕ → Option (ℕ × List ℕ) → Head
behind_length limit None = NotYet
behind_length limit (Some (size, bytes)) =
    if nat_lt limit size then Bad TOO_BIG
    else (if nat_lt (length bytes) size then NotYet else whole (frame_of (take size bytes)) (drop size bytes))

-- Fewer than four bytes are no frame yet. A length above the limit is refused as soon as it is there. Fewer bytes
-- than the length are no frame yet. Bytes that are in no spelling are refused, and so is a fragment.
abbrev pub head_of : ℕ → List ℕ → Head
head_of limit bytes = behind_length limit (split_word bytes)

-- The answer is that head, and what is left then. Only a whole frame takes memory, and any answer but it leaves all.
abbrev pub IsHead : next.Next → Head → List ℕ → List ℕ → Type 0
IsHead (answers.Frame f) head held left = head ≡ Whole f left
IsHead answers.NotYet head held left = (head ≡ NotYet) × (left ≡ held)
IsHead (answers.Bad status) head held left = (head ≡ Bad status) × (left ≡ held)
IsHead answers.NoMemory head held left = ((f : Frame) × (rest : List ℕ) × (head ≡ Whole f rest)) × (left ≡ held)
