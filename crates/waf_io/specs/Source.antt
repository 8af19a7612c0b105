-- What a read does to the bytes that are left and to the counts.
use Rattle.std.specs.Prelude.{◌≡◌, ℕ, ◌<◌, ◌≤◌, List, [], length, take, drop, Option, Some, None, IfSome}
use Rattle.waf_io.specs.Counts.{one_more}
use Rattle.waf_io.specs.Schedule.{Failing}
use Rattle.waf_io.specs.declared.source.Got as got
use Rattle.waf_io.specs.declared.source.Got.TheVariants.{Bytes, End, Failed}

-- the first n bytes are in the buffer, and the others are left, where it is told
abbrev pub HandsOver : ℕ → List ℕ → Option (List ℕ) → Option (List ℕ) → Type 0
HandsOver n into (Some bytes) left = (n ≤ length bytes) × (take n into ≡ take n bytes) × (left ≡ Some (drop n bytes))
HandsOver n into None left = left ≡ None

abbrev pub Reads : got.Got → List ℕ → Option (List ℕ) → Option (List ℕ) → Type 0
Reads (Bytes n) into before left = (n ≤ length into) × (0 < length into → 0 < n) × HandsOver n into before left
Reads End into before left = (left ≡ before) × IfSome before (λ bytes. bytes ≡ [])
Reads Failed into before left = left ≡ before

-- the count of ends rises at End alone
abbrev pub CountsEnd : got.Got → ℕ → ℕ → Type 0
CountsEnd (Bytes n) before now = now ≡ before
CountsEnd End before now = now ≡ one_more before
CountsEnd Failed before now = now ≡ before

-- what a source in memory is seen as: the bytes that are left, and how often it said that none are
pub record Left : Type 0 where
  pub bytes : List ℕ
  pub ends : ℕ

-- the same, of which some reads are to fail
pub record FaultyLeft : Type 0 where
  pub left : Left
  pub schedule : Failing
