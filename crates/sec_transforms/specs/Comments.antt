-- Comments between `/*` and `*/`, and the marks of comments.
use Rattle.std.specs.Prelude.{ℕ, Bool, ◌+◌, List, [], ◌∷◌, Option, Some, None, not, cond, ◌&&◌, ◌||◌, ◌==◌}
use Rattle.sec_decoders.specs.Pieces.{Piece, or_else, itself}
use Rattle.sec_decoders.specs.declared.characters.TheConstants.{GREATER_THAN, HASH, LESS_THAN, SPACE}
use Rattle.sec_transforms.specs.declared.characters.TheConstants.{ASTERISK, EXCLAMATION_MARK, MINUS, SLASH}
use Rattle.sec_transforms.specs.declared.comments.TheConstants.{HTML_CLOSE_LENGTH, HTML_OPEN_LENGTH, PAIR_LENGTH}

-- how many bytes there are up to and with the first `*/`, and all of them where there is none
unfoldable pub to_close : List ℕ → ℕ
to_close [] = 0
to_close (a ∷ []) = 1
to_close (a ∷ b ∷ rest) = cond (a == ASTERISK && b == SLASH) PAIR_LENGTH (1 + to_close (b ∷ rest))

-- a comment gives a space
abbrev pub comment : List ℕ → Option Piece
comment (a ∷ b ∷ rest) =
    cond (a == SLASH && b == ASTERISK) (Some (SPACE ∷ [], PAIR_LENGTH + to_close rest)) None
comment other = None

abbrev pub comments : List ℕ → Piece
comments front = or_else (comment front) (itself front)

-- `<!--`
abbrev pub html_open : List ℕ → Option Piece
html_open (a ∷ b ∷ c ∷ d ∷ rest) =
    cond (a == LESS_THAN && b == EXCLAMATION_MARK && c == MINUS && d == MINUS) (Some ([], HTML_OPEN_LENGTH)) None
html_open other = None

-- `-->`
abbrev pub html_close : List ℕ → Option Piece
html_close (a ∷ b ∷ c ∷ rest) =
    cond (a == MINUS && b == MINUS && c == GREATER_THAN) (Some ([], HTML_CLOSE_LENGTH)) None
html_close other = None

-- `/*`, `*/` and `--`
abbrev pub is_pair : ℕ → ℕ → Bool
is_pair a b = (a == SLASH && b == ASTERISK) || (a == ASTERISK && b == SLASH) || (a == MINUS && b == MINUS)

abbrev pub two_marks : List ℕ → Option Piece
two_marks (a ∷ b ∷ rest) = cond (is_pair a b) (Some ([], PAIR_LENGTH)) None
two_marks other = None

-- `#`
abbrev pub hash_mark : List ℕ → Option Piece
hash_mark (a ∷ rest) = cond (a == HASH) (Some ([], 1)) None
hash_mark [] = None

-- neither `<`, `-`, `/`, `*` nor `#`
abbrev pub begins_no_mark : ℕ → Bool
begins_no_mark c = not (c == LESS_THAN || c == MINUS || c == SLASH || c == ASTERISK || c == HASH)

-- a mark gives nothing, the longest that stands at a place first
abbrev pub comment_marks : List ℕ → Piece
comment_marks front =
    or_else (html_open front) (or_else (html_close front) (or_else (two_marks front)
    (or_else (hash_mark front) (itself front))))
