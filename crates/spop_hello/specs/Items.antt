-- The items of a text, parted by commas (SPOE.txt, 3.2.4).
use Rattle.std.specs.Prelude.{ℕ, ◌&&◌, ◌==◌, Bool, List, [], ◌∷◌, length, take, drop, nat_lt, if◌then◌else◌, codes}
use Rattle.std.specs.List.{list_all, list_any, slice_split}
use Rattle.std.specs.Str.{bytes_eq}
use Rattle.std.specs.Char.{is_ascii_digit}
use Rattle.spop_hello.specs.declared.items.TheConstants.{COMMA, SPACE}

-- no spaces at the start
abbrev pub without_start : List ℕ → List ℕ
without_start [] = []
without_start (b ∷ bs) = if b == SPACE then without_start bs else (b ∷ bs)

-- a byte before what was trimmed at its end
abbrev pub before : ℕ → List ℕ → List ℕ
before b [] = if b == SPACE then [] else (b ∷ [])
before b (c ∷ cs) = b ∷ c ∷ cs

-- no spaces at the end
abbrev pub without_end : List ℕ → List ℕ
without_end [] = []
without_end (b ∷ bs) = before b (without_end bs)

abbrev pub without_blanks : List ℕ → List ℕ
without_blanks item = without_end (without_start item)

-- some item, trimmed, passes the test
abbrev pub has_item : (List ℕ → Bool) → List ℕ → Bool
has_item passes text = list_any (λ item. passes (without_blanks item)) (slice_split (λ b. b == COMMA) text)

abbrev pub is_digit : ℕ → Bool
is_digit b = is_ascii_digit b

-- the versions of this protocol begin so
abbrev pub version_start : List ℕ
version_start = codes "2."

-- that, at least one digit, and nothing else
abbrev pub is_version : List ℕ → Bool
is_version item =
    let count = length version_start in
    bytes_eq (take count item) version_start && nat_lt count (length item) && list_all is_digit (drop count item)

abbrev pub is_pipelining : List ℕ → Bool
is_pipelining item = bytes_eq item (codes "pipelining")
