-- What a stream begins with, while its payload is lent.
use Rattle.std.specs.Prelude.{◌≡◌, List, ℕ}
use Rattle.spop_frame.specs.declared.head.Head as lent
use Rattle.spop_frame.specs.declared.head.Head.TheVariants as answers
use Rattle.spop_frame.specs.Head.{Head, NotYet, Bad, Whole}
use Rattle.spop_frame.specs.Header.{frame_seen}

-- the answer is that head, but for the bytes after the frame
abbrev pub IsLent : lent.Head → Head → Type 0
IsLent (answers.Whole header) head = (rest : List ℕ) × (head ≡ Whole (frame_seen header) rest)
IsLent answers.NotYet head = head ≡ NotYet
IsLent (answers.Bad status) head = head ≡ Bad status
