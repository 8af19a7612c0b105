-- What a door gives and takes back.
use Rattle.std.specs.Prelude.{◌≡◌, ℕ, List, [], ◌∷◌, ◌++◌, Option, Some, None, Bool, true, false}
use Rattle.waf_io.specs.Counts.{one_more}
use Rattle.waf_io.specs.declared.door.Came as came
use Rattle.waf_io.specs.declared.door.Came.TheVariants.{Peer, Closed, Failed}

-- the peer that is given is the first of those that are left, where it is told
abbrev pub TakesFirst : {A : Type 0} → A → Option (List A) → Option (List A) → Type 0
TakesFirst peer (Some left) now = (rest : List _) × (left ≡ peer ∷ rest) × (now ≡ Some rest)
TakesFirst peer None now = now ≡ None

abbrev pub Comes : {I O : Type 0} → came.Came I O → Option (List (I × O)) → Option (List (I × O)) → Type 0
Comes (Peer source sink) before now = TakesFirst (source, sink) before now
Comes Closed before now = now ≡ before
Comes Failed before now = now ≡ before

abbrev pub gave_peer : {I O : Type 0} → came.Came I O → Bool
gave_peer (Peer source sink) = true
gave_peer Closed = false
gave_peer Failed = false

-- the count of closings rises at Closed alone
abbrev pub CountsClosed : {I O : Type 0} → came.Came I O → ℕ → ℕ → Type 0
CountsClosed (Peer source sink) before now = now ≡ before
CountsClosed Closed before now = now ≡ one_more before
CountsClosed Failed before now = now ≡ before

-- what is told now was told before, but for the last, which came now
abbrev pub Keeps : {A : Type 0} → Option (List A) → A → Option (List A) → Type 0
Keeps before peer (Some now) = (held : List _) × (before ≡ Some held) × (now ≡ held ++ peer ∷ [])
Keeps before peer None = Unit {0}
