-- What holds of every history of the table, in full. An entry is a call with its reply.
use Rattle.std.specs.Prelude.{◌≡◌, ◌≢◌, ℕ, ◌+◌, ◌≤◌, List, [], ◌∷◌, ◌++◌, slice_set}
use mathlib.Core.Option.{some}
use lib.ListN.{get_elem?}
use Rattle.hall_core.specs.declared.Key.{Key}
use Rattle.hall_core.specs.declared.calls.Ticket.{Ticket}
use Rattle.hall_core.specs.declared.calls.Entry.TheVariants.{Entered}
use Rattle.hall_core.specs.declared.calls.Call.{Call}
use Rattle.hall_core.specs.declared.calls.Call.TheVariants.{Enter, Park, Leave}
use Rattle.hall_core.specs.declared.calls.Reply.{Reply}
use Rattle.hall_core.specs.declared.calls.Reply.TheVariants.{OfEnter}
use Rattle.hall_core.specs.State.{State, IsQuiet}
use Rattle.hall_core.specs.Step.{may, allows, after, starts}
use Rattle.hall_core.specs.Kept as kept

abbrev pub Made : Type 0 → Type 0
Made P = Call P × Reply P

module _ {P : Type 0} where
  abbrev pub call_of : Made P → Call P
  call_of e = e.0

  abbrev pub reply_of : Made P → Reply P
  reply_of e = e.1

  abbrev pub Legal : State P → List (Made P) → Type 0
  Legal s log = kept.Legal call_of reply_of s log

  abbrev pub Kept : State P → List (List (Made P)) → Type 0
  Kept s lists = kept.Kept call_of reply_of s lists

  abbrev pub fits : List (Made P) → Call P → Type 0
  fits own call = kept.fits call_of reply_of own call

  abbrev pub IsOpen : ℕ → List (Made P) → Type 0
  IsOpen n own = kept.IsOpen call_of reply_of n own

  -- the list has no more of anything than the history, as any part of it has
  abbrev pub IsPartOf : List (Made P) → List (Made P) → Type 0
  IsPartOf own log = (f : Made P → ℕ) → kept.total f own ≤ kept.total f log

  -- how often a list parks the number, and how often it claims it
  abbrev pub parks_of : ℕ → List (Made P) → ℕ
  parks_of n log = kept.parks_in call_of n log

  abbrev pub claims_of : ℕ → List (Made P) → ℕ
  claims_of n log = kept.claims_in reply_of n log

-- the number was parked at most once, and claimed as often as it was parked, unless it is still parked
abbrev pub ClaimedOnce : (P : Type 0) → Type 0
ClaimedOnce P = (s : State P) (log : List (Made P)) (n : ℕ) → starts s → Legal s log
    → (parks_of n log ≤ 1) × (claims_of n log ≤ parks_of n log)
    × (claims_of n log + kept.sitting n (kept.left_by call_of reply_of s log).rows ≡ parks_of n log)

-- where the history leaves nothing that is due at a moment, a number that was parked until it or before was claimed
-- once
abbrev pub ClaimedBy : (P : Type 0) → Type 0
ClaimedBy P = (s : State P) (log : List (Made P)) (n d now : ℕ) → starts s → Legal s log
    → IsQuiet (kept.left_by call_of reply_of s log).rows now → d ≤ now
    → 1 ≤ kept.parks_until_in call_of n d log → claims_of n log ≡ 1

-- what an entry of a history claims, one before it parked, under the same number with the same value
abbrev pub ClaimedAsParked : (P : Type 0) → Type 0
ClaimedAsParked P = (s : State P) (log : List (Made P)) (e : Made P) (n : ℕ) (value : P)
    → starts s → Legal s (log ++ e ∷ []) → kept.ClaimsAs n value (reply_of e) → kept.WasParked call_of log n value

-- who entered may park its ticket or leave, whatever it did before
abbrev pub FreshOpen : (P : Type 0) → Type 0
FreshOpen P = (s : State P) (log own : List (Made P)) (key : Key) (t : Ticket) → starts s
    → Legal s (log ++ (Enter key, OfEnter (Entered t)) ∷ []) → IsPartOf own log
    → let now : List (Made P) = own ++ (Enter key, OfEnter (Entered t)) ∷ [] in
    ((deadline : ℕ) (value : P) → fits now (Park t deadline value)) × fits now (Leave t)

-- and may do so after any call that does not spend it
abbrev pub StaysOpen : (P : Type 0) → Type 0
StaysOpen P = (s : State P) (lists : List (List (Made P))) (i n : ℕ) (own : List (Made P)) (c : Call P) (r : Reply P)
    → Kept s lists → get_elem? lists i ≡ some own → IsOpen n own → fits own c → may s c → allows s c r
    → kept.spends n c ≡ 0 → IsOpen n (own ++ (c, r) ∷ [])

abbrev pub KeptFirst : (P : Type 0) → Type 0
KeptFirst P = (s : State P) → starts s → Kept s ([] ∷ [])

abbrev pub KeptCall : (P : Type 0) → Type 0
KeptCall P = (s : State P) (lists : List (List (Made P))) (i : ℕ) (own : List (Made P)) (c : Call P) (r : Reply P)
    → Kept s lists → get_elem? lists i ≡ some own → fits own c → may s c → allows s c r
    → Kept (after s c r) (slice_set lists i (own ++ (c, r) ∷ []))

abbrev pub KeptNew : (P : Type 0) → Type 0
KeptNew P = (s : State P) (lists : List (List (Made P))) → Kept s lists → Kept s (lists ++ [] ∷ [])

-- zs has the entries of xs and of ys, in any order
abbrev pub KeptJoin : (P : Type 0) → Type 0
KeptJoin P = (s : State P) (lists : List (List (Made P))) (i j : ℕ) (xs ys zs : List (Made P))
    → Kept s lists → get_elem? lists i ≡ some xs → j ≢ i → get_elem? lists j ≡ some ys
    → ((f : Made P → ℕ) → kept.total f zs ≡ kept.total f xs + kept.total f ys)
    → Kept s (slice_set (slice_set lists i zs) j [])

abbrev pub MayFitting : (P : Type 0) → Type 0
MayFitting P = (s : State P) (lists : List (List (Made P))) (i : ℕ) (own : List (Made P)) (c : Call P)
    → Kept s lists → get_elem? lists i ≡ some own → fits own c → may s c
