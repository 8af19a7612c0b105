-- The laws of what the table keeps of its callers' lists, and what follows for each legal history.
use Rattle.std.proofs.Common.{◌≡◌, ◌≢◌, ℕ, zero, suc, ◌+◌, ◌≤◌, Bool, true, false, cond, nat_eq, find, Some, None, List, [], ◌∷◌, ◌++◌, append-nil, append_assoc, set, slice_set, refl, sym, ap, ◌∙◌, subst, ⊎_elim, arith, tests, eq-eqb, ne_eqb}
use mathlib.Core.Logic.{dite}
use native.Mathlib.Decide.{ℕ_discrete}
use mathlib.Core.Option as maybe
use lib.ListN.{get_elem?}
use Rattle.hall_core.specs.declared.Key.{Key}
use Rattle.hall_core.specs.declared.row.Row.{Row}
use Rattle.hall_core.specs.declared.row.Stage.TheVariants.{Running}
use Rattle.hall_core.specs.declared.calls.Ticket.{Ticket}
use Rattle.hall_core.specs.declared.calls.Entry.TheVariants.{Entered}
use Rattle.hall_core.specs.declared.calls.Call.{Call}
use Rattle.hall_core.specs.declared.calls.Call.TheVariants.{Enter, Park, Leave, Resume, Expire, Count}
use Rattle.hall_core.specs.declared.calls.Reply.{Reply}
use Rattle.hall_core.specs.declared.calls.Reply.TheVariants.{OfEnter}
use Rattle.hall_core.specs.State.{State, IsQuiet, runs}
use Rattle.hall_core.specs.Step.{may, allows, after, starts, IsEntry, IsRunning}
use Rattle.hall_core.specs.Kept.{total, one, once, gives, spends, parks, claims, running, sitting, keyed, sitting_until, parks_until_in, Kept, fits, IsOpen, given_in, spent_in, parks_in, claims_in, Legal, left_by}
use Rattle.hall_core.specs.Totals.{total_set, total_snoc, total_at, total_le, alone, at_set, at_snoc, set_else}
use Rattle.hall_core.specs.Moves.{moves, once_le, found_running, running_found, none_until}

-- spending a ticket that is open
spend_one : (n k a b : ℕ) → (n ≡ k → (a ≡ 1) × (b ≡ 0)) → b ≤ a → b + one (nat_eq k n) ≤ a
spend_one n k a b h le = dite (ℕ_discrete k n)
    (λ e. let q = h (sym e) in subst (λ (z : Bool). b + one z ≤ a) (sym (eq-eqb k n e)) (let q0 = q.0 in let q1 = q.1 in omega arith))
    (λ ne. subst (λ (z : Bool). b + one z ≤ a) (sym (ne_eqb k n ne)) (omega arith))

-- the number after those that were given is none of them
not_given : (n given : ℕ) → n ≡ given + 1 → once n given ≡ 0
not_given n given e = grind (arith, tests)

test_itself : (n : ℕ) → nat_eq n n ≡ true
test_itself n = eq-eqb n n refl

itself : (n : ℕ) → one (nat_eq n n) ≡ 1
itself n = ap one (test_itself n)

parks_le : {P : Type 0} (n : ℕ) (c : Call P) → parks n c ≤ spends n c
parks_le n (Enter key) = omega arith
parks_le n (Park t deadline value) = omega arith
parks_le n (Leave t) = omega arith
parks_le n (Resume key) = omega arith
parks_le n (Expire now) = omega arith
parks_le n Count = omega arith

module _ {P : Type 0} where
  last_runs : (n : ℕ) (rows : List (Row P)) (row : Row P) → runs n row ≡ true → IsRunning (rows ++ row ∷ []) n
  last_runs n [] row h = (row, ap (λ b. cond b (Some row) None) h)
  last_runs n (x ∷ xs) row h = go (runs n x) refl (last_runs n xs row h)
    where
      go : (b : Bool) → runs n x ≡ b → IsRunning (xs ++ row ∷ []) n → IsRunning (x ∷ (xs ++ row ∷ [])) n
      go true t rest = (x, ap (λ b. cond b (Some x) (find (runs n) (xs ++ row ∷ []))) t)
      go false t rest = (rest.0, ap (λ b. cond b (Some x) (find (runs n) (xs ++ row ∷ []))) t ∙ rest.1)

  -- after entering the ticket's row runs
  pub entered_runs : (s t : State P) (key : Key) (ticket : Ticket) → allows s (Enter key) (OfEnter (Entered ticket)) → t ≡ after s (Enter key) (OfEnter (Entered ticket)) → IsRunning t.rows ticket.number
  entered_runs s t key ticket a is =
      let row : Row P = record { key = key; number = s.given + 1; stage = Running } in
      let same : runs ticket.number row ≡ true = ap (λ n. runs n row) a.4 ∙ test_itself (s.given + 1) in
      subst (λ (z : State P). IsRunning z.rows ticket.number) (sym is) (last_runs ticket.number s.rows row same)

module _ {P E : Type 0} (call_of : E → Call P) (reply_of : E → Reply P) where
  -- a caller's own list after a call that fits it
  pub own_grows : (own : List E) (c : Call P) (r : Reply P) → fits call_of reply_of own c → ((n : ℕ) → spent_in call_of n own ≤ given_in reply_of n own) → (n : ℕ) → spent_in call_of n own + spends n c ≤ given_in reply_of n own + gives n r
  own_grows own (Enter key) r f o n = let p = o n in omega arith
  own_grows own (Resume key) r f o n = let p = o n in omega arith
  own_grows own (Expire now) r f o n = let p = o n in omega arith
  own_grows own Count r f o n = let p = o n in omega arith
  own_grows own (Park t deadline value) r f o n =
      let p = spend_one n t.number (given_in reply_of n own) (spent_in call_of n own) (λ e. (ap (λ z. given_in reply_of z own) e ∙ f.0, ap (λ z. spent_in call_of z own) e ∙ f.1)) (o n) in omega arith
  own_grows own (Leave t) r f o n =
      let p = spend_one n t.number (given_in reply_of n own) (spent_in call_of n own) (λ e. (ap (λ z. given_in reply_of z own) e ∙ f.0, ap (λ z. spent_in call_of z own) e ∙ f.1)) (o n) in omega arith

  pub kept_call : (s : State P) (lists : List (List E)) (i : ℕ) (own : List E) (e : E) → Kept call_of reply_of s lists → get_elem? lists i ≡ maybe.some own
      → fits call_of reply_of own (call_of e) → may s (call_of e) → allows s (call_of e) (reply_of e) → Kept call_of reply_of (after s (call_of e) (reply_of e)) (slice_set lists i (own ++ e ∷ []))
  kept_call s lists i own e k at f m a =
      let v = moves s (call_of e) (reply_of e) m a in
      let more : (g : E → ℕ) → total (total g) (set lists i (own ++ e ∷ [])) ≡ total (total g) lists + g e = λ g.
      (let p = total_set (total g) lists i own (own ++ e ∷ []) at in let q = total_snoc g own e in omega arith) in record {
        given = λ n. (let p = more (λ e. gives n (reply_of e)) in let q = k.given n in let r = v.given n in omega arith);
        runs_open = λ n. (let p = more (λ e. gives n (reply_of e)) in let p' = more (λ e. spends n (call_of e)) in let q = k.runs_open n in let r = v.runs_open n in omega arith);
        parked = λ n. (let p = more (λ e. claims n (reply_of e)) in let p' = more (λ e. parks n (call_of e)) in let q = k.parked n in let r = v.parked n in omega arith);
        own = λ j list p n. ⊎_elim
            (λ h. subst (λ (z : List E). spent_in call_of n z ≤ given_in reply_of n z) h.1
            (let q = total_snoc (λ e. gives n (reply_of e)) own e in let q' = total_snoc (λ e. spends n (call_of e)) own e in let r = own_grows own (call_of e) (reply_of e) f (k.own i own at) n in omega arith))
            (λ h. k.own j list h.1 n) (at_set lists i j (own ++ e ∷ []) list p);
        keys = v.keys k.keys;
      }

  pub kept_first : (s : State P) → starts s → Kept call_of reply_of s ([] ∷ [])
  kept_first s h = record {
    given = λ n. (let q : once n s.given ≡ once n 0 = ap (once n) h.given in let z = none_given n in omega arith);
    runs_open = λ n. (let q : running n s.rows ≡ 0 = ap (running n) h.rows in omega arith);
    parked = λ n. (let q : sitting n s.rows ≡ 0 = ap (sitting n) h.rows in omega arith);
    own = λ j list p n. only j list p n;
    keys = λ key. (let q : keyed key s.rows ≡ 0 = ap (keyed key) h.rows in omega arith);
  }
    where
      none_given : (n : ℕ) → once n 0 ≡ 0
      none_given n = grind (arith, tests)

      only : (j : ℕ) (list : List E) → get_elem? ([] ∷ []) j ≡ maybe.some list → (n : ℕ) → spent_in call_of n list ≤ given_in reply_of n list
      only zero list p n = subst (λ (z : List E). spent_in call_of n z ≤ given_in reply_of n z) (maybe.some-injective [] list p) (omega arith)
      only (suc j) list p n = absurd (maybe.some-ne-none list (sym p))

  pub kept_new : (s : State P) (lists : List (List E)) → Kept call_of reply_of s lists → Kept call_of reply_of s (lists ++ [] ∷ [])
  kept_new s lists k =
      let same : (g : E → ℕ) → total (total g) (lists ++ [] ∷ []) ≡ total (total g) lists = λ g. (let p = total_snoc (total g) lists [] in omega arith) in record {
        given = λ n. same (λ e. gives n (reply_of e)) ∙ k.given n;
        runs_open = λ n. (let p = same (λ e. gives n (reply_of e)) in let p' = same (λ e. spends n (call_of e)) in let q = k.runs_open n in omega arith);
        parked = λ n. (let p = same (λ e. claims n (reply_of e)) in let p' = same (λ e. parks n (call_of e)) in let q = k.parked n in omega arith);
        own = λ j list p n. ⊎_elim (λ h. k.own j list h n) (λ (e : [] ≡ list). subst (λ (z : List E). spent_in call_of n z ≤ given_in reply_of n z) e (omega arith)) (at_snoc lists [] list j p);
        keys = k.keys;
      }

  -- of the list that takes another in nothing is asked but that it has the entries of both
  pub kept_join : (s : State P) (lists : List (List E)) (i j : ℕ) (xs ys zs : List E) → Kept call_of reply_of s lists → get_elem? lists i ≡ maybe.some xs → j ≢ i → get_elem? lists j ≡ maybe.some ys
      → ((g : E → ℕ) → total g zs ≡ total g xs + total g ys) → Kept call_of reply_of s (slice_set (slice_set lists i zs) j [])
  kept_join s lists i j xs ys zs k at ne at' both =
      let same : (g : E → ℕ) → total (total g) (set (set lists i zs) j []) ≡ total (total g) lists = λ g.
      (let p = total_set (total g) lists i xs zs at in let q = total_set (total g) (set lists i zs) j ys [] (set_else lists i j zs ne ∙ at') in let m = both g in omega arith) in record {
        given = λ n. same (λ e. gives n (reply_of e)) ∙ k.given n;
        runs_open = λ n. (let p = same (λ e. gives n (reply_of e)) in let p' = same (λ e. spends n (call_of e)) in let q = k.runs_open n in omega arith);
        parked = λ n. (let p = same (λ e. claims n (reply_of e)) in let p' = same (λ e. parks n (call_of e)) in let q = k.parked n in omega arith);
        own = λ x list p n. ⊎_elim
            (λ h. subst (λ (z : List E). spent_in call_of n z ≤ given_in reply_of n z) h.1 (omega arith))
            (λ h. ⊎_elim
            (λ g. subst (λ (z : List E). spent_in call_of n z ≤ given_in reply_of n z) g.1
            (let a = both (λ e. gives n (reply_of e)) in let b = both (λ e. spends n (call_of e)) in let c = k.own i xs at n in let d = k.own j ys at' n in omega arith))
            (λ g. k.own x list g.1 n) (at_set lists i x zs list h.1))
            (at_set (set lists i zs) j x [] list p);
        keys = k.keys;
      }

  -- a ticket that is open in a list has a row that runs
  open_runs : (s : State P) (lists : List (List E)) (i n : ℕ) (own : List E) → Kept call_of reply_of s lists → get_elem? lists i ≡ maybe.some own → IsOpen call_of reply_of n own → IsRunning s.rows n
  open_runs s lists i n own k at f =
      let all = k.given n in let least = once_le n s.given in let has = total_at (given_in reply_of n) lists i own at in let g = f.0 in let p = f.1 in
      let spent = alone (spent_in call_of n) (given_in reply_of n) lists i own at (omega arith) (λ j b q z. (let o = k.own j b q n in omega arith)) in
      let r = k.runs_open n in found_running n s.rows (omega arith)

  pub may_fitting : (s : State P) (lists : List (List E)) (i : ℕ) (own : List E) (c : Call P) → Kept call_of reply_of s lists → get_elem? lists i ≡ maybe.some own → fits call_of reply_of own c → may s c
  may_fitting s lists i own (Enter key) k at f = tt
  may_fitting s lists i own (Resume key) k at f = tt
  may_fitting s lists i own (Expire now) k at f = tt
  may_fitting s lists i own Count k at f = tt
  may_fitting s lists i own (Park t deadline value) k at f = open_runs s lists i t.number own k at f
  may_fitting s lists i own (Leave t) k at f = open_runs s lists i t.number own k at f

  -- who made all calls has each ticket open whose row runs
  runs_all : (s : State P) (done : List E) (n : ℕ) → Kept call_of reply_of s (done ∷ []) → IsRunning s.rows n → IsOpen call_of reply_of n done
  runs_all s done n k m = let a = k.given n in let b = k.runs_open n in let c = once_le n s.given in let r = running_found n s.rows m in (omega arith, omega arith)

  fits_all : (s : State P) (done : List E) (c : Call P) → Kept call_of reply_of s (done ∷ []) → may s c → fits call_of reply_of done c
  fits_all s done (Enter key) k m = tt
  fits_all s done (Resume key) k m = tt
  fits_all s done (Expire now) k m = tt
  fits_all s done Count k m = tt
  fits_all s done (Park t deadline value) k m = runs_all s done t.number k m
  fits_all s done (Leave t) k m = runs_all s done t.number k m

  -- what the table keeps of its callers' lists, it keeps of its whole history as one list
  along : (s : State P) (done log : List E) → Kept call_of reply_of s (done ∷ []) → Legal call_of reply_of s log → Kept call_of reply_of (left_by call_of reply_of s log) ((done ++ log) ∷ [])
  along s done [] k h = subst (λ (l : List E). Kept call_of reply_of s (l ∷ [])) (sym (append-nil done)) k
  along s done (e ∷ es) k h = subst (λ (l : List E). Kept call_of reply_of (left_by call_of reply_of (after s (call_of e) (reply_of e)) es) (l ∷ [])) (append_assoc done (e ∷ []) es)
      (along (after s (call_of e) (reply_of e)) (done ++ e ∷ []) es (kept_call s (done ∷ []) 0 done e k refl (fits_all s done (call_of e) k h.0) h.0 h.1) h.2)

  -- each number was given at most once
  pub given_once : (s : State P) (log : List E) (n : ℕ) → starts s → Legal call_of reply_of s log → given_in reply_of n log ≤ 1
  given_once s log n z h = let k = along s [] log (kept_first s z) h in let a = k.given n in let b = once_le n (left_by call_of reply_of s log).given in omega arith

  -- each number was given at most once, parked at most as often as it was given, and claimed as often as it was parked and is not parked any more
  pub claimed_once : (s : State P) (log : List E) (n : ℕ) → starts s → Legal call_of reply_of s log
      → (parks_in call_of n log ≤ 1) × (claims_in reply_of n log ≤ parks_in call_of n log)
      × (claims_in reply_of n log + sitting n (left_by call_of reply_of s log).rows ≡ parks_in call_of n log)
  claimed_once s log n z h =
      let k = along s [] log (kept_first s z) h in let a = k.given n in let b = once_le n (left_by call_of reply_of s log).given in let o = k.own 0 log refl n in let p = k.parked n in
      let q = total_le (λ e. parks n (call_of e)) (λ e. spends n (call_of e)) log (λ e. parks_le n (call_of e)) in (omega arith, omega arith, omega arith)

  pub legal_last : (s : State P) (log : List E) (e : E) → Legal call_of reply_of s (log ++ e ∷ [])
      → Legal call_of reply_of s log × may (left_by call_of reply_of s log) (call_of e) × allows (left_by call_of reply_of s log) (call_of e) (reply_of e)
  legal_last s [] e h = (tt, h.0, h.1)
  legal_last s (x ∷ xs) e h = let r = legal_last (after s (call_of x) (reply_of x)) xs e h.2 in ((h.0, h.1, r.0), r.1, r.2)

  -- who entered has its ticket open
  pub fresh_open : (s : State P) (log own : List E) (e : E) (key : Key) (t : Ticket) → starts s → Legal call_of reply_of s (log ++ e ∷ []) → call_of e ≡ Enter key → reply_of e ≡ OfEnter (Entered t)
      → ((g : E → ℕ) → total g own ≤ total g log) → IsOpen call_of reply_of t.number (own ++ e ∷ [])
  fresh_open s log own e key t z h asked got fewer =
      let l = legal_last s log e h in let k = along s [] log (kept_first s z) l.0 in
      let left : State P = left_by call_of reply_of s log in
      let a : IsEntry left key (Entered t) = subst (λ c. allows left c (OfEnter (Entered t))) asked (subst (λ r. allows left (call_of e) r) got l.2) in
      let none = not_given t.number left.given a.4 in let g = k.given t.number in let r = k.runs_open t.number in
      let fewer_given = fewer (λ e. gives t.number (reply_of e)) in let fewer_spent = fewer (λ e. spends t.number (call_of e)) in
      let all_given = total_snoc (λ e. gives t.number (reply_of e)) own e in let all_spent = total_snoc (λ e. spends t.number (call_of e)) own e in
      let gives_it : gives t.number (reply_of e) ≡ 1 = ap (gives t.number) got ∙ itself t.number in
      let spends_none : spends t.number (call_of e) ≡ 0 = ap (spends t.number) asked in (omega arith, omega arith)

  -- a ticket that is open stays so in a call that does not spend it
  pub stays_open : (s : State P) (lists : List (List E)) (i n : ℕ) (own : List E) (e : E) → Kept call_of reply_of s lists → get_elem? lists i ≡ maybe.some own → IsOpen call_of reply_of n own
      → fits call_of reply_of own (call_of e) → may s (call_of e) → allows s (call_of e) (reply_of e) → spends n (call_of e) ≡ 0 → IsOpen call_of reply_of n (own ++ e ∷ [])
  stays_open s lists i n own e k at was f m a spends_none =
      let g = (kept_call s lists i own e k at f m a).given n in let least = once_le n (after s (call_of e) (reply_of e)).given in
      let more = total_set (given_in reply_of n) lists i own (own ++ e ∷ []) at in let has = total_at (given_in reply_of n) lists i own at in
      let given = total_snoc (λ e. gives n (reply_of e)) own e in let spent = total_snoc (λ e. spends n (call_of e)) own e in
      let is_given = was.0 in let not_spent = was.1 in (omega arith, omega arith)

  until_along : (s : State P) (log : List E) (n d : ℕ) → Legal call_of reply_of s log
      → sitting_until n d s.rows + parks_until_in call_of n d log ≤ sitting_until n d (left_by call_of reply_of s log).rows + claims_in reply_of n log
  until_along s [] n d h = omega arith
  until_along s (e ∷ es) n d h =
      let v = (moves s (call_of e) (reply_of e) h.0 h.1).until n d in let r = until_along (after s (call_of e) (reply_of e)) es n d h.2 in omega arith

  -- where nothing is due at a moment, what was parked until it or before was claimed once
  pub claimed_by : (s : State P) (log : List E) (n d now : ℕ) → starts s → Legal call_of reply_of s log → IsQuiet (left_by call_of reply_of s log).rows now → d ≤ now
      → 1 ≤ parks_until_in call_of n d log → claims_in reply_of n log ≡ 1
  claimed_by s log n d now z h quiet le was =
      let a = until_along s log n d h in let b = none_until n d now (left_by call_of reply_of s log).rows le quiet in let c = claimed_once s log n z h in let c0 = c.0 in let c1 = c.1 in omega arith
