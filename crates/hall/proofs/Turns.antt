-- What a call on one shard leaves of a pass of all.
use Rattle.std.proofs.Common.{◌≡◌, ◌≢◌, ℕ, ◌<◌, ◌≤◌, ◌⊎◌, List, length, length-set, slice_get, Some, refl, sym, ap, ◌∙◌, subst, ⊎_elim, eq-eqb}
use Rattle.std.proofs.lemmas.Option.{slice_get_within}
use Rattle.turn_lock.specs.Lock.{IsPassOf, opened_with, own_of, seen_of}
use Rattle.hall_core.specs.declared.Key.{Key}
use Rattle.hall_core.specs.declared.calls.Entry as entering
use Rattle.hall_core.specs.declared.calls.Entry.TheVariants.{Entered, IdInUse, Full, Worn}
use Rattle.hall_core.specs.declared.calls.Claim.{Claim}
use Rattle.hall_core.specs.declared.calls.Claim.TheVariants.{Resumed, NotParked}
use Rattle.hall_core.specs.declared.calls.Expiry.{Expiry}
use Rattle.hall_core.specs.declared.calls.Expiry.TheVariants.{Expired, NothingDue}
use Rattle.hall_core.specs.declared.calls.Call.{Call}
use Rattle.hall_core.specs.declared.calls.Call.TheVariants.{Enter, Resume, Expire}
use Rattle.hall_core.specs.declared.calls.Reply.TheVariants.{OfEnter, OfResume, OfExpire}
use Rattle.hall_core.specs.declared.calls.Reply.{Reply}
use Rattle.hall_core.specs.Kept.{one, parks, ClaimsAs, claims, parks_until, parks_until_in, claims_in, left_by}
use Rattle.hall_core.specs.Shared.{IsOpen, call_of, reply_of, fits}
use Rattle.hall_core.specs.State.{IsQuiet}
use Rattle.hall_core.specs.Step.{allows}
use Rattle.hall.specs.Passes.{Lock, Seat, SharedHall, HallPass, locks_of, passes_of, Answered, IsShardPass, HoldsEntered, IsPassOfHall, KeepsOthers, Turned}
use Rattle.hall.specs.Claims.{ExpiresFirst, FirstClaim, NoneIsDue, ResumesFirst}
use Rattle.hall.proofs.Places.{at_set, one_item}
use Rattle.hall.proofs.Histories.{answered, claims_first, entered_open, none_due, open_stays, spent_stays}

module _ {P : Type 0} (h : SharedHall P) (shard : ℕ) (p q : HallPass P) (call : Call P) (reply : Reply P)
    (is : IsPassOfHall h p) (t : Turned h shard p call reply q) where
  pub was : IsShardPass shard t.lock t.old
  was = is.each shard t.lock t.old t.at t.had

  now_at : (s : ℕ) (x : Seat P) → slice_get (passes_of q) s ≡ Some x → ((s ≡ shard) × (t.new ≡ x)) ⊎ ((s ≢ shard) × (slice_get (passes_of p) s ≡ Some x))
  now_at s x has = at_set (passes_of p) shard s t.new x (subst (λ (list : List (Seat P)). slice_get list s ≡ Some x) t.has has)

  same_length : length (passes_of q) ≡ length (passes_of p)
  same_length = ap length t.has ∙ length-set (passes_of p) shard t.new

  pub replied : Answered call reply
  replied = (_, answered shard t.lock t.old t.new call reply was t.extends)

  pub hall_stays : IsPassOf t.lock t.new → fits (own_of t.old) call → IsPassOfHall h q
  hall_stays pass ok = record {
    count = same_length ∙ is.count;
    each = λ s l x at has. ⊎_elim
        (λ e. subst (λ (z : Seat P). IsShardPass s l z) e.1
        (subst (λ (k : ℕ). IsShardPass k l t.new) (sym e.0)
        (subst (λ (k : Lock P). IsShardPass shard k t.new) (one_item (locks_of h) shard t.lock l t.at (subst (λ (k : ℕ). slice_get (locks_of h) k ≡ Some l) e.0 at))
        (record { pass = pass; opened = was.opened; legal = t.extends.legal; spent = spent_stays shard t.lock t.old t.new call reply was t.extends ok }))))
        (λ n. is.each s l x at n.1) (now_at s x has);
  }

  pub others_stay : KeepsOthers shard call p q
  others_stay ticket holds way = record {
    shard = subst (λ n. ticket.shard < n) (sym same_length) holds.shard;
    is_open = λ x has. ⊎_elim
        (λ e. subst (λ (z : Seat P). IsOpen ticket.number (own_of z)) e.1
        (⊎_elim (λ other. absurd (other e.0))
        (λ none. open_stays shard t.lock t.old t.new call reply was t.extends ticket.number
        (holds.is_open t.old (subst (λ (k : ℕ). slice_get (passes_of p) k ≡ Some t.old) (sym e.0) t.had)) none) way))
        (λ n. holds.is_open x n.1) (now_at ticket.shard x has);
  }

  -- what stands at the shard now
  here : (x : Seat P) → slice_get (passes_of q) shard ≡ Some x → t.new ≡ x
  here x has = ⊎_elim (λ e. e.1) (λ n. absurd (n.0 refl)) (now_at shard x has)

  pub entered : (key : Key) (answer : entering.Entry) → call ≡ Enter key → reply ≡ OfEnter answer → HoldsEntered q answer
  entered key (Entered ticket) asked got =
      let o = entered_open shard t.lock t.old t.new call reply was t.extends key ticket asked got in record {
        shard = subst (λ (k : ℕ). k < length (passes_of q)) (sym o.1) (subst (λ (k : ℕ). shard < k) (sym same_length) (slice_get_within (passes_of p) shard t.old t.had));
        is_open = λ x has. subst (λ (z : Seat P). IsOpen ticket.number (own_of z)) (here x (subst (λ (k : ℕ). slice_get (passes_of q) k ≡ Some x) o.1 has)) o.0;
      }
  entered key (IdInUse n) asked got = tt
  entered key (Full n) asked got = tt
  entered key (Worn n) asked got = tt

  first_claim : (n : ℕ) (value : P) → ClaimsAs n value reply → claims n reply ≡ 1 → parks n call ≡ 0 → (x : Seat P) → slice_get (passes_of q) shard ≡ Some x → FirstClaim (seen_of x) n value
  first_claim n value claims_it once none x has = subst (λ (z : Seat P). FirstClaim (seen_of z) n value) (here x has) (claims_first shard t.lock t.old t.new call reply was t.extends n value claims_it once none)

  pub resumed : (key : Key) (claim : Claim P) → call ≡ Resume key → reply ≡ OfResume claim → ResumesFirst shard q claim
  resumed key (Resumed n value) asked got = first_claim n value (subst (λ (r : Reply P). ClaimsAs n value r) (sym got) (refl, refl)) (ap (claims n) got ∙ ap one (eq-eqb n n refl)) (ap (parks n) asked)
  resumed key NotParked asked got = tt

  pub expired : (now : ℕ) (expiry : Expiry P) → call ≡ Expire now → reply ≡ OfExpire expiry → ExpiresFirst shard q expiry
  expired now (Expired n key value) asked got = first_claim n value (subst (λ (r : Reply P). ClaimsAs n value r) (sym got) (refl, refl)) (ap (claims n) got ∙ ap one (eq-eqb n n refl)) (ap (parks n) asked)
  expired now NothingDue asked got = tt

  pub none_is_due : (now : ℕ) (expiry : Expiry P) → call ≡ Expire now → reply ≡ OfExpire expiry → NoneIsDue shard now q expiry
  none_is_due now (Expired n key value) asked got = tt
  none_is_due now NothingDue asked got = λ x n d has le some.
      (let left = left_by call_of reply_of (opened_with t.lock) t.extends.log in
      let a = answered shard t.lock t.old t.new call reply was t.extends in
      let quiet : IsQuiet left.rows now = subst (λ c. allows left c (OfExpire NothingDue)) asked (subst (λ r. allows left call r) got a) in
      let same = here x has in
      subst (λ (z : Seat P). 1 ≤ parks_until_in call_of n d (seen_of z) → claims_in reply_of n (seen_of z) ≡ 1) same
      (none_due shard t.lock t.old t.new call reply was t.extends now n d quiet le (ap (parks_until n d) asked) (ap (claims n) got)) some)
