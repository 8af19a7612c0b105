-- A text that is read piece by piece, from the left; what was written is not read again.
use Rattle.std.specs.Prelude.{◌≡◌, ℕ, zero, suc, ◌-◌, take, drop, List, [], ◌∷◌, ◌++◌, Option, Some, None}

-- What a piece at the front gives, and how many bytes it takes.
abbrev pub Piece : Type 0
Piece = List ℕ × ℕ

-- the pieces one after the other, when the first `skip` bytes are taken already
unfoldable pub pieces : (List ℕ → Piece) → ℕ → List ℕ → List ℕ
pieces piece skip [] = []
pieces piece (suc skip) (b ∷ bs) = pieces piece skip bs
pieces piece zero (b ∷ bs) = (piece (b ∷ bs)).0 ++ pieces piece ((piece (b ∷ bs)).1 - 1) bs

-- the first `count` bytes stand for themselves
abbrev pub KeepsFront : (List ℕ → Piece) → ℕ → List ℕ → Type 0
KeepsFront piece count text = pieces piece 0 text ≡ take count text ++ pieces piece 0 (drop count text)

-- the first row that fits, or else the last
abbrev pub or_else : Option Piece → Piece → Piece
or_else (Some row) other = row
or_else None other = other

-- a byte that stands for itself
abbrev pub itself : List ℕ → Piece
itself [] = ([], 1)
itself (b ∷ bs) = (b ∷ [], 1)
