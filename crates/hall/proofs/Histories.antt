-- The laws of the table, of the histories of its lock.
use Rattle.std.proofs.Common.{◌≡◌, ℕ, ◌+◌, ◌≤◌, Bool, true, false, List, [], ◌∷◌, ◌++◌, refl, sym, ap, ◌∙◌, subst, arith}
use Rattle.turn_lock.specs.declared.history.Entry.{Entry}
use Rattle.turn_lock.specs.History.{Begins, entry}
use Rattle.turn_lock.specs.History as history
use Rattle.turn_lock.specs.Lock.{Extends, marks_of, opened_with, own_of, seen_of}
use Rattle.turn_lock.specs.Marks.{selected}
use Rattle.hall_core.specs.declared.Key.{Key}
use Rattle.hall_core.specs.declared.calls.Ticket.{Ticket}
use Rattle.hall_core.specs.declared.calls.Entry.TheVariants.{Entered, IdInUse, Full, Worn}
use Rattle.hall_core.specs.declared.calls.Call.{Call}
use Rattle.hall_core.specs.declared.calls.Call.TheVariants.{Enter, Park, Leave, Resume, Expire, Count}
use Rattle.hall_core.specs.declared.calls.Reply.{Reply}
use Rattle.hall_core.specs.declared.calls.Reply.TheVariants.{OfEnter, OfPark, OfLeave, OfResume, OfExpire, OfCount}
use Rattle.hall_core.specs.State.{State, IsQuiet}
use Rattle.hall_core.specs.Step.{IsEntry, IsNew, may, allows, after, starts}
use Rattle.hall_core.specs.Kept as kept
use Rattle.hall_core.specs.Keeping as keeping
use Rattle.hall_core.specs.Totals.{total_snoc}
use Rattle.hall_core.specs.Shared.{IsOpen, call_of, reply_of, fits}
use Rattle.hall_core.proofs.Values.{claimed_as_parked}
use Rattle.hall.specs.Claims.{FirstClaim}
use Rattle.hall.specs.Passes.{Lock, Seat, IsShardPass}

total_append : {A : Type 0} (f : A → ℕ) (xs ys : List A) → kept.total f (xs ++ ys) ≡ kept.total f xs + kept.total f ys
total_append f [] ys = omega arith
total_append f (x ∷ xs) ys = let r = total_append f xs ys in omega arith

-- a part of a list has no more of anything
pub total_selected : {A : Type 0} (f : A → ℕ) (bs : List Bool) (xs : List A) → kept.total f (selected bs xs) ≤ kept.total f xs
total_selected f [] xs = omega arith
total_selected f (b ∷ bs) [] = omega arith
total_selected f (true ∷ bs) (x ∷ xs) = let r = total_selected f bs xs in omega arith
total_selected f (false ∷ bs) (x ∷ xs) = let r = total_selected f bs xs in omega arith

total_begins : {A : Type 0} (f : A → ℕ) (xs ys : List A) → Begins xs ys → kept.total f xs ≤ kept.total f ys
total_begins f xs ys h = let a = ap (kept.total f) h.1 in let b = total_append f xs h.0 in omega arith

abbrev pub Made : Type 0 → Type 0
Made P = Entry (Call P) (Reply P)

module _ {P : Type 0} where
  pub left_same : (s : State P) (log : List (Made P)) → history.left_by after s log ≡ kept.left_by call_of reply_of s log
  left_same s [] = refl
  left_same s (e ∷ es) = left_same (after s e.call e.reply) es

  pub legal_as : (s : State P) (log : List (Made P)) → history.Legal may allows after s log → kept.Legal call_of reply_of s log
  legal_as s [] h = tt
  legal_as s (e ∷ es) h = (h.0, h.1, legal_as (after s e.call e.reply) es h.2)

  pub starting : (shard capacity : ℕ) (s : State P) → IsNew shard capacity s → starts s
  starting shard capacity s h = record { shard_is = refl; capacity_is = refl; given = h.given; rows = h.rows }

  pub claimed_once : (s : State P) (log : List (Made P)) (n : ℕ) → starts s → history.Legal may allows after s log
      → (kept.parks_in call_of n log ≤ 1) × (kept.claims_in reply_of n log ≤ kept.parks_in call_of n log)
  claimed_once s log n z h = let c = keeping.claimed_once call_of reply_of s log n z (legal_as s log h) in (c.0, c.1)

  -- the shard's number never changes
  shard_after : (s : State P) (c : Call P) (r : Reply P) → (after s c r).shard ≡ s.shard
  shard_after s (Enter key) (OfEnter (Entered t)) = refl
  shard_after s (Enter key) (OfEnter (IdInUse n)) = refl
  shard_after s (Enter key) (OfEnter (Full n)) = refl
  shard_after s (Enter key) (OfEnter (Worn n)) = refl
  shard_after s (Enter key) OfPark = refl
  shard_after s (Enter key) OfLeave = refl
  shard_after s (Enter key) (OfResume claim) = refl
  shard_after s (Enter key) (OfExpire expiry) = refl
  shard_after s (Enter key) (OfCount counts) = refl
  shard_after s (Park t deadline value) r = refl
  shard_after s (Leave t) r = refl
  shard_after s (Resume key) r = refl
  shard_after s (Expire now) r = refl
  shard_after s Count r = refl

  shard_left : (s : State P) (log : List (Made P)) → (kept.left_by call_of reply_of s log).shard ≡ s.shard
  shard_left s [] = refl
  shard_left s (e ∷ es) = shard_left (after s e.call e.reply) es ∙ shard_after s e.call e.reply

  module _ (shard : ℕ) (l : Lock P) (p q : Seat P) (call : Call P) (reply : Reply P)
      (is : IsShardPass shard l p) (x : Extends may allows after (opened_with l) p call reply q) where
    abbrev last : Made P
    last = entry call reply

    new : starts (opened_with l)
    new = starting shard (opened_with l).capacity (opened_with l) is.opened

    legal : kept.Legal call_of reply_of (opened_with l) (x.log ++ last ∷ [])
    legal = subst (λ log. kept.Legal call_of reply_of (opened_with l) log) x.seen (legal_as (opened_with l) (seen_of q) x.legal)

    part : (f : Made P → ℕ) → kept.total f (own_of p) ≤ kept.total f x.log
    part f = let a = total_selected f (marks_of p) (seen_of p) in let b = total_begins f (seen_of p) x.log x.begins in omega arith

    pub answered : allows (kept.left_by call_of reply_of (opened_with l) x.log) call reply
    answered = (keeping.legal_last call_of reply_of (opened_with l) x.log last legal).2

    pub spent_stays : fits (own_of p) call → (n : ℕ) → kept.spent_in call_of n (own_of q) ≤ kept.given_in reply_of n (own_of q)
    spent_stays ok n = subst (λ own. kept.spent_in call_of n own ≤ kept.given_in reply_of n own) (sym x.listed)
        (let a = keeping.own_grows call_of reply_of (own_of p) call reply ok is.spent n in
        let b = total_snoc (λ (e : Made P). kept.spends n (call_of e)) (own_of p) last in let c = total_snoc (λ (e : Made P). kept.gives n (reply_of e)) (own_of p) last in omega arith)

    -- a ticket that is not spent stays open
    pub open_stays : (n : ℕ) → IsOpen n (own_of p) → kept.spends n call ≡ 0 → IsOpen n (own_of q)
    open_stays n was none = subst (λ own. IsOpen n own) (sym x.listed)
        (let once = keeping.given_once call_of reply_of (opened_with l) (x.log ++ last ∷ []) n new legal in
        let a = total_snoc (λ (e : Made P). kept.gives n (reply_of e)) x.log last in let b = part (λ (e : Made P). kept.gives n (reply_of e)) in
        let c = total_snoc (λ (e : Made P). kept.gives n (reply_of e)) (own_of p) last in let d = total_snoc (λ (e : Made P). kept.spends n (call_of e)) (own_of p) last in
        let given = was.0 in let spent = was.1 in (omega arith, omega arith))

    -- who entered has its ticket open, and that is of this shard
    pub entered_open : (key : Key) (t : Ticket) → call ≡ Enter key → reply ≡ OfEnter (Entered t) → IsOpen t.number (own_of q) × (t.shard ≡ shard)
    entered_open key t asked got =
        let left : State P = kept.left_by call_of reply_of (opened_with l) x.log in
        let a : IsEntry left key (Entered t) = subst (λ c. allows left c (OfEnter (Entered t))) asked (subst (λ r. allows left call r) got answered) in (
          subst (λ own. IsOpen t.number own) (sym x.listed) (keeping.fresh_open call_of reply_of (opened_with l) x.log (own_of p) last key t new legal asked got part),
          a.3 ∙ (shard_left (opened_with l) x.log ∙ is.opened.shard_is),
        )

    -- what is claimed was parked once, with this value, and was not claimed before
    pub claims_first : (n : ℕ) (value : P) → kept.ClaimsAs n value reply → kept.claims n reply ≡ 1 → kept.parks n call ≡ 0 → FirstClaim (seen_of q) n value
    claims_first n value claims one none =
        let c = keeping.claimed_once call_of reply_of (opened_with l) (x.log ++ last ∷ []) n new legal in let c0 = c.0 in let c1 = c.1 in
        let a = total_snoc (λ (e : Made P). kept.claims n (reply_of e)) x.log last in let b = total_snoc (λ (e : Made P). kept.parks n (call_of e)) x.log last in
        record {
          log = x.log;
          last = last;
          is = x.seen;
          once = omega arith;
          parked = claimed_as_parked call_of reply_of (opened_with l) x.log last n value new legal claims;
          first = omega arith;
        }

    -- where nothing is due, what was parked until then or before was claimed
    pub none_due : (now n d : ℕ) → IsQuiet (kept.left_by call_of reply_of (opened_with l) x.log).rows now → d ≤ now → kept.parks_until n d call ≡ 0 → kept.claims n reply ≡ 0
        → 1 ≤ kept.parks_until_in call_of n d (seen_of q) → kept.claims_in reply_of n (seen_of q) ≡ 1
    none_due now n d quiet le no_park no_claim was = ap (λ (log : List (Made P)). kept.claims_in reply_of n log) x.seen
        ∙ (let more = total_snoc (λ (e : Made P). kept.claims n (reply_of e)) x.log last in
        let parks = total_snoc (λ (e : Made P). kept.parks_until n d (call_of e)) x.log last in
        let here : 1 ≤ kept.parks_until_in call_of n d (x.log ++ last ∷ []) = subst (λ (log : List (Made P)). 1 ≤ kept.parks_until_in call_of n d log) x.seen was in
        let c : kept.claims_in reply_of n x.log ≡ 1 = keeping.claimed_by call_of reply_of (opened_with l) x.log n d now new (keeping.legal_last call_of reply_of (opened_with l) x.log last legal).0 quiet le (omega arith) in omega arith)
