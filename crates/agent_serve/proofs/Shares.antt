-- A pass that gives shares has others left.
use Rattle.std.proofs.Common.{◌≡◌, ℕ, zero, suc, ◌+◌, ◌≤◌, List, [], ◌∷◌, ◌++◌, get_or, slice_get, Some, sym, subst, arith}
use Rattle.std.specs.List.{All}
use Rattle.std.proofs.lemmas.List.Elements.{All-append}
use Rattle.std.proofs.lemmas.Option.{slice_get_within, slice_get-get_or}
use Rattle.turn_lock.specs.Lock.{opened_with}
use Rattle.tx_core.specs.HalfView.{HalfView}
use Rattle.hall_core.specs.Step as table
use Rattle.hall.specs.Passes.{IsFirst, IsPassOfHall, Lock, Seat, locks_of, passes_of}
use Rattle.hall.specs.Parts.{AtEach, IsSplit, MaySplit}
use Rattle.hall.proofs.Places.{item_at}
use Rattle.conn_worker.specs.Entries.{Hall, HallPass, Shelf, ShelfPass}
use Rattle.agent_serve.specs.Opening.{HasShares, IsShared}

pub may_split : (p : HallPass) → HasShares 2 p → MaySplit p
may_split p has s q at = (let two = has s q at in omega (arith, two))

pub shares_left : (n : ℕ) (h : Hall) (p q r : HallPass) → IsPassOfHall h p → IsPassOfHall h q → IsPassOfHall h r → AtEach IsSplit h p q r
    → HasShares (n + 1) p → HasShares n q
shares_left n h p q r of_p of_q of_r split has s b at =
    let inside = slice_get_within (passes_of q) s b at in
    let one = of_p.count in let two = of_q.count in let three = of_r.count in
    let a : Seat HalfView = get_or (passes_of p) s b in let c : Seat HalfView = get_or (passes_of r) s b in
    let had = slice_get-get_or (passes_of p) s b (omega arith) in
    let new = slice_get-get_or (passes_of r) s b (omega arith) in
    let lock = item_at (locks_of h) s (omega arith) in
    let gave = (split s lock.0 a b c lock.1 had at new).share in
    let more = has s a had in
    omega (arith, gave, more)

pub fewer : (m n : ℕ) (h : Hall) (p : HallPass) (shelf : Shelf) (r : ShelfPass) → m ≤ n → IsShared n h p shelf r → IsShared m h p shelf r
fewer m n h p shelf r le is = record {
  desk = is.desk;
  rules = is.rules;
  desk_shares = λ s q at. (let has = is.desk_shares s q at in omega (arith, le, has));
  rules_share = (let has = is.rules_share in omega (arith, le, has));
}

pub first_shares : (capacity : ℕ) (h : Hall) (p : HallPass) → IsPassOfHall h p → IsFirst capacity h p → HasShares 65 p
first_shares capacity h p of first s q at =
    let inside = slice_get_within (passes_of p) s q at in let one = of.count in
    let lock = item_at (locks_of h) s (omega arith) in
    let all = (first s lock.0 q lock.1 at).3 in
    omega (arith, all)

-- at each shard the table was opened with so much room
pub opened_empty : (capacity : ℕ) (h : Hall) (p : HallPass) → IsPassOfHall h p → IsFirst capacity h p → (s : ℕ) (l : Lock HalfView) → slice_get (locks_of h) s ≡ Some l
    → table.IsNew s capacity (opened_with l)
opened_empty capacity h p of first s l at =
    let inside = slice_get_within (locks_of h) s l at in let one = of.count in
    let seat = item_at (passes_of p) s (omega arith) in
    subst (λ (n : ℕ). table.IsNew s n (opened_with l)) (first s l seat.0 at seat.1).0 (of.each s l seat.0 at seat.1).opened

pub all_one : {A : Type 0} (F : A → Type 0) (a : A) → F a → All F (a ∷ [])
all_one F a is zero d lt = is
all_one F a is (suc k) d lt = absurd (omega arith)

pub all_more : {A : Type 0} (F : A → Type 0) (xs ys : List A) (a : A) → ys ≡ xs ++ a ∷ [] → All F xs → F a → All F ys
all_more F xs ys a are all is = subst (All F) (sym are) (All-append F xs (a ∷ []) all (all_one F a is))
