-- The first of some phrases in a text.
use Rattle.std.specs.Prelude.{ℕ, ◌≡◌, ◌+◌, ◌<◌, ◌≤◌, ◌⊎◌, nat_le, nat_lt, ◌==◌, ◌&&◌, ◌||◌, cond, List, [], length, get_or, Option, Some, None, MatchOption, IfSome}
use Rattle.std.specs.List.{fold}
use Rattle.std.specs.Option.{option_map}
use Rattle.memchr.specs.Find.{OccursAt, matches, first_of}

-- where a text first has a needle
unfoldable pub place_of : List ℕ → List ℕ → Option ℕ
place_of text needle = first_of (matches text needle 0)

-- its first occurrence, from start up to end
abbrev pub span_of : List ℕ → List ℕ → Option (ℕ × ℕ)
span_of text phrase = option_map (λ start. (start, start + length phrase)) (place_of text phrase)

-- the one that ends first, and of those that end together the longest
unfoldable pub earlier : ℕ × ℕ → ℕ × ℕ → ℕ × ℕ
earlier best found = cond (nat_lt best.1 found.1 || (best.1 == found.1 && nat_le best.0 found.0)) best found

abbrev pub better : Option (ℕ × ℕ) → Option (ℕ × ℕ) → Option (ℕ × ℕ)
better best None = best
better None (Some found) = Some found
better (Some best) (Some found) = Some (earlier best found)

-- of the first occurrences of the phrases the one that ends first, the longest among those
unfoldable pub first_end : List (List ℕ) → List ℕ → Option (ℕ × ℕ)
first_end phrases text = fold (λ best phrase. better best (span_of text phrase)) None phrases

-- one of the first n phrases stands in the text from start up to end
pub record Occurs (n : ℕ) (phrases : List (List ℕ)) (text : List ℕ) (place : ℕ × ℕ) : Type 0 where
  pub which : ℕ
  pub among : which < n
  pub stands : OccursAt text (get_or phrases which []) place.0
  pub ends : place.1 ≡ place.0 + length (get_or phrases which [])

-- it ends no later, and where both end together it is not shorter
pub record NotBehind (a b : ℕ × ℕ) : Type 0 where
  pub no_later : a.1 ≤ b.1
  pub no_shorter : a.1 ≡ b.1 → a.0 ≤ b.0

-- the occurrence that ends first, the longest among those, of the first n phrases
abbrev pub IsFirstEnd : ℕ → List (List ℕ) → List ℕ → Option (ℕ × ℕ) → Type 0
IsFirstEnd n phrases text answer = MatchOption answer
    ((place : ℕ × ℕ) → ¬ Occurs n phrases text place)
    (λ best. Occurs n phrases text best × ((place : ℕ × ℕ) → Occurs n phrases text place → NotBehind best place))

-- the answer is one of both, and behind neither
abbrev pub IsEarlier : Option (ℕ × ℕ) → ℕ × ℕ → ℕ × ℕ → Type 0
IsEarlier best found answer = ((answer ≡ found) ⊎ (best ≡ Some answer)) × NotBehind answer found
    × IfSome best (λ b. NotBehind answer b)
