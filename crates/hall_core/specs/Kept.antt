-- What the table keeps of its callers' lists. An entry of a list is a call with its reply.
use Rattle.std.specs.Prelude.{◌≡◌, ℕ, ◌+◌, ◌≤◌, Bool, cond, nat_eq, nat_le, false, List, [], ◌∷◌}
use mathlib.Core.Option.{some}
use lib.ListN.{get_elem?}
use Rattle.hall_core.specs.declared.Key.{Key}
use Rattle.hall_core.specs.declared.row.Row.{Row}
use Rattle.hall_core.specs.declared.row.Stage.{Stage}
use Rattle.hall_core.specs.declared.row.Stage.TheVariants.{Running, Parked}
use Rattle.hall_core.specs.declared.calls.Entry.TheVariants.{Entered}
use Rattle.hall_core.specs.declared.calls.Claim.TheVariants.{Resumed}
use Rattle.hall_core.specs.declared.calls.Expiry.TheVariants.{Expired}
use Rattle.hall_core.specs.declared.calls.Call.{Call}
use Rattle.hall_core.specs.declared.calls.Call.TheVariants.{Park, Leave}
use Rattle.hall_core.specs.declared.calls.Reply.{Reply}
use Rattle.hall_core.specs.declared.calls.Reply.TheVariants.{OfEnter, OfResume, OfExpire}
use Rattle.hall_core.specs.State.{State, is_running, has_key, runs}
use Rattle.hall_core.specs.Step.{may, allows, after}

-- the sum of f over a list
abbrev pub total : {A : Type 0} → (A → ℕ) → List A → ℕ
total f [] = 0
total f (x ∷ xs) = f x + total f xs

abbrev pub one : Bool → ℕ
one b = cond b 1 0

-- 1 for the numbers from 1 to given
abbrev pub once : ℕ → ℕ → ℕ
once n given = one (cond (nat_le 1 n) (nat_le n given) false)

module _ {P : Type 0} where
  -- whether a reply gives the ticket n, as a number
  abbrev pub gives : ℕ → Reply P → ℕ
  gives n (OfEnter (Entered t)) = one (nat_eq t.number n)
  gives n _ = 0

  -- whether a call spends it, parks its row, and whether a reply claims what was parked
  abbrev pub spends : ℕ → Call P → ℕ
  spends n (Park t deadline value) = one (nat_eq t.number n)
  spends n (Leave t) = one (nat_eq t.number n)
  spends n _ = 0

  abbrev pub parks : ℕ → Call P → ℕ
  parks n (Park t deadline value) = one (nat_eq t.number n)
  parks n _ = 0

  abbrev pub claims : ℕ → Reply P → ℕ
  claims n (OfResume (Resumed m value)) = one (nat_eq m n)
  claims n (OfExpire (Expired m key value)) = one (nat_eq m n)
  claims n _ = 0

  -- the call parks this value under this number, and the reply claims it
  abbrev pub ParksAs : ℕ → P → Call P → Type 0
  ParksAs n value (Park t deadline v) = (t.number ≡ n) × (v ≡ value)
  ParksAs n value _ = ⊥

  abbrev pub ClaimsAs : ℕ → P → Reply P → Type 0
  ClaimsAs n value (OfResume (Resumed m v)) = (m ≡ n) × (v ≡ value)
  ClaimsAs n value (OfExpire (Expired m key v)) = (m ≡ n) × (v ≡ value)
  ClaimsAs n value _ = ⊥

  abbrev pub sits : ℕ → Row P → Bool
  sits n row = cond (is_running row.stage) false (nat_eq row.number n)

  -- it is parked under this number until this deadline; and whether a call parks so
  abbrev pub has_deadline : ℕ → Stage P → Bool
  has_deadline d Running = false
  has_deadline d (Parked deadline value) = nat_eq deadline d

  abbrev pub sits_until : ℕ → ℕ → Row P → Bool
  sits_until n d row = cond (has_deadline d row.stage) (nat_eq row.number n) false

  abbrev pub parks_until : ℕ → ℕ → Call P → ℕ
  parks_until n d (Park t deadline value) = one (cond (nat_eq deadline d) (nat_eq t.number n) false)
  parks_until n d _ = 0

  abbrev pub sitting_until : ℕ → ℕ → List (Row P) → ℕ
  sitting_until n d rows = total (λ row. one (sits_until n d row)) rows

  -- how many rows have this number and run, how many have it and are parked, and how many have a key
  abbrev pub running : ℕ → List (Row P) → ℕ
  running n rows = total (λ row. one (runs n row)) rows

  abbrev pub sitting : ℕ → List (Row P) → ℕ
  sitting n rows = total (λ row. one (sits n row)) rows

  abbrev pub keyed : Key → List (Row P) → ℕ
  keyed key rows = total (λ row. one (has_key key row)) rows

module _ {P E : Type 0} (call_of : E → Call P) (reply_of : E → Reply P) where
  -- the state that a history leaves
  abbrev pub left_by : State P → List E → State P
  left_by s [] = s
  left_by s (e ∷ es) = left_by (after s (call_of e) (reply_of e)) es

  -- each call might be made at its point, and has a reply that it may have there
  abbrev pub Legal : State P → List E → Type 0
  Legal s [] = Unit {0}
  Legal s (e ∷ es) = may s (call_of e) × allows s (call_of e) (reply_of e) × Legal (after s (call_of e) (reply_of e)) es

module _ {P E : Type 0} (reply_of : E → Reply P) where
  abbrev pub given_in : ℕ → List E → ℕ
  given_in n list = total (λ e. gives n (reply_of e)) list

  abbrev pub claims_in : ℕ → List E → ℕ
  claims_in n list = total (λ e. claims n (reply_of e)) list

module _ {P E : Type 0} (call_of : E → Call P) where
  abbrev pub spent_in : ℕ → List E → ℕ
  spent_in n list = total (λ e. spends n (call_of e)) list

  abbrev pub parks_in : ℕ → List E → ℕ
  parks_in n list = total (λ e. parks n (call_of e)) list

  abbrev pub parks_until_in : ℕ → ℕ → List E → ℕ
  parks_until_in n d list = total (λ e. parks_until n d (call_of e)) list

  -- one of these entries parked the value under the number
  abbrev pub WasParked : List E → ℕ → P → Type 0
  WasParked log n value = (i : ℕ) × (e : E) × (get_elem? log i ≡ some e) × ParksAs n value (call_of e)

module _ {P E : Type 0} (call_of : E → Call P) (reply_of : E → Reply P) where
  -- this list got the ticket and has not spent it
  abbrev pub IsOpen : ℕ → List E → Type 0
  IsOpen n list = (given_in reply_of n list ≡ 1) × (spent_in call_of n list ≡ 0)

  -- who has made just these calls may make this one, whatever others do meanwhile
  abbrev pub fits : List E → Call P → Type 0
  fits own (Park t deadline value) = IsOpen t.number own
  fits own (Leave t) = IsOpen t.number own
  fits own _ = Unit {0}

  -- Each number up to given was given once. Its row runs until its ticket is spent, by the list that got it; where that
  -- parked it, it is parked until it is claimed. No two rows have one key
  pub record Kept (s : State P) (lists : List (List E)) : Type 0 where
    pub given : (n : ℕ) → total (given_in reply_of n) lists ≡ once n s.given
    pub runs_open : (n : ℕ) → running n s.rows + total (spent_in call_of n) lists ≡ total (given_in reply_of n) lists
    pub parked : (n : ℕ) → sitting n s.rows + total (claims_in reply_of n) lists ≡ total (parks_in call_of n) lists
    pub own : (j : ℕ) (list : List E) → get_elem? lists j ≡ some list
        → (n : ℕ) → spent_in call_of n list ≤ given_in reply_of n list
    pub keys : (key : Key) → keyed key s.rows ≤ 1
