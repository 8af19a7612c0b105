-- What each call moves: what it takes from the rows, it adds to the entries.
use Rattle.std.proofs.Common.{◌≡◌, ℕ, suc, ◌+◌, ◌≤◌, Bool, true, false, cond, nat_eq, nat_le, bytes_eq, List, [], ◌∷◌, ◌++◌, find, Option, Some, None, refl, sym, ap, ◌∙◌, subst, arith, tests}
use Rattle.std.proofs.lemmas.Slice.Eq.{bytes_eq-Decides}
use Rattle.hall_core.specs.declared.Key.{Key}
use Rattle.hall_core.specs.declared.row.Row.{Row}
use Rattle.hall_core.specs.declared.row.Stage.{Stage}
use Rattle.hall_core.specs.declared.row.Stage.TheVariants.{Running, Parked}
use Rattle.hall_core.specs.declared.calls.Ticket.{Ticket}
use Rattle.hall_core.specs.declared.calls.Entry.TheVariants.{Entered, IdInUse, Full, Worn}
use Rattle.hall_core.specs.declared.calls.Claim.TheVariants.{Resumed, NotParked}
use Rattle.hall_core.specs.declared.calls.Expiry.TheVariants.{Expired, NothingDue}
use Rattle.hall_core.specs.declared.calls.Call.{Call}
use Rattle.hall_core.specs.declared.calls.Call.TheVariants.{Enter, Park, Leave, Resume, Expire, Count}
use Rattle.hall_core.specs.declared.calls.Reply.{Reply}
use Rattle.hall_core.specs.declared.calls.Reply.TheVariants.{OfEnter, OfPark, OfLeave, OfResume, OfExpire, OfCount}
use Rattle.hall_core.specs.Rows.{without}
use Rattle.hall_core.specs.State.{State, same_key, is_running, has_key, runs, waits, is_next, is_first_of, due_as, parked, IsQuiet}
use Rattle.hall_core.specs.Step.{may, allows, after, Holds, IsRunning}
use Rattle.hall_core.specs.Kept.{one, once, gives, spends, parks, claims, sits, running, sitting, keyed, has_deadline, sits_until, parks_until, sitting_until}
use Rattle.hall_core.specs.Totals.{total_snoc, total_without, total_changed, total_stays, found_passes, none_counted, none_found}

pub once_next : (n g : ℕ) → once n (g + 1) ≡ once n g + one (nat_eq (g + 1) n)
once_next n g = grind (arith, tests)

pub once_le : (n g : ℕ) → once n g ≤ 1
once_le n g = grind (arith, tests)

both_le : (a b : Bool) → one (cond a b false) ≤ one b
both_le true b = omega arith
both_le false true = omega arith
both_le false false = omega arith

-- a deadline that has not come is none that is at most the moment
late : (e d now : ℕ) → d ≤ now → nat_le e now ≡ false → nat_eq e d ≡ false
late e d now le h = grind (arith, tests)

-- two keys that are one to the test are one
one_key : (a b : Key) → same_key a b ≡ true → a ≡ b
one_key a b h = go (bytes_eq a.app b.app) refl
  where
    go : (t : Bool) → bytes_eq a.app b.app ≡ t → a ≡ b
    go true e =
        let app = (bytes_eq-Decides a.app b.app).0 e in
        let id = (bytes_eq-Decides a.id b.id).0 (sym (ap (λ t. cond t (bytes_eq a.id b.id) false) e) ∙ h) in
        λ k. record { app = app k; id = id k }
    go false e = absurd (let k : false ≡ true = sym (ap (λ t. cond t (bytes_eq a.id b.id) false) e) ∙ h in cc)

module _ {P : Type 0} where
  pub record Moves (s : State P) (c : Call P) (r : Reply P) : Type 0 where
    pub given : (n : ℕ) → once n (after s c r).given ≡ once n s.given + gives n r
    pub runs_open : (n : ℕ) → running n (after s c r).rows + spends n c ≡ running n s.rows + gives n r
    pub parked : (n : ℕ) → sitting n (after s c r).rows + claims n r ≡ sitting n s.rows + parks n c
    pub until : (n d : ℕ) → sitting_until n d s.rows + parks_until n d c ≤ sitting_until n d (after s c r).rows + claims n r
    pub keys : ((key : Key) → keyed key s.rows ≤ 1) → (key : Key) → keyed key (after s c r).rows ≤ 1

  -- what is told of a row of this stage
  runs_at : (k n : ℕ) (row : Row P) → runs k row ≡ true → one (runs n row) ≡ one (nat_eq k n)
  runs_at k n row h = go (is_running row.stage) refl
    where
      go : (t : Bool) → is_running row.stage ≡ t → one (runs n row) ≡ one (nat_eq k n)
      go true e = let same : nat_eq row.number k ≡ true = sym (ap (λ t. cond t (nat_eq row.number k) false) e) ∙ h in
          ap (λ t. one (cond t (nat_eq row.number n) false)) e ∙ grind (arith, tests)
      go false e = absurd (let q : false ≡ true = sym (ap (λ t. cond t (nat_eq row.number k) false) e) ∙ h in cc)

  runs_not_sits : (k n : ℕ) (row : Row P) → runs k row ≡ true → one (sits n row) ≡ 0
  runs_not_sits k n row h = go (is_running row.stage) refl
    where
      go : (t : Bool) → is_running row.stage ≡ t → one (sits n row) ≡ 0
      go true e = ap (λ t. one (cond t false (nat_eq row.number n))) e
      go false e = absurd (let q : false ≡ true = sym (ap (λ t. cond t (nat_eq row.number k) false) e) ∙ h in cc)

  runs_number : (k n : ℕ) (row : Row P) → runs k row ≡ true → one (nat_eq row.number n) ≡ one (nat_eq k n)
  runs_number k n row h = go (is_running row.stage) refl
    where
      go : (t : Bool) → is_running row.stage ≡ t → one (nat_eq row.number n) ≡ one (nat_eq k n)
      go true e = let same : nat_eq row.number k ≡ true = sym (ap (λ t. cond t (nat_eq row.number k) false) e) ∙ h in grind (arith, tests)
      go false e = absurd (let q : false ≡ true = sym (ap (λ t. cond t (nat_eq row.number k) false) e) ∙ h in cc)

  pub runs_is : (k : ℕ) (row : Row P) → runs k row ≡ true → row.number ≡ k
  runs_is k row h = go (is_running row.stage) refl
    where
      go : (t : Bool) → is_running row.stage ≡ t → row.number ≡ k
      go true e = let same : nat_eq row.number k ≡ true = sym (ap (λ t. cond t (nat_eq row.number k) false) e) ∙ h in grind (arith, tests)
      go false e = absurd (let q : false ≡ true = sym (ap (λ t. cond t (nat_eq row.number k) false) e) ∙ h in cc)

  stage_not_until : (n d number : ℕ) (stage : Stage P) → is_running stage ≡ true → one (cond (has_deadline d stage) (nat_eq number n) false) ≡ 0
  stage_not_until n d number Running h = refl
  stage_not_until n d number (Parked deadline value) h = absurd (let q : false ≡ true = h in cc)

  runs_not_until : (k n d : ℕ) (row : Row P) → runs k row ≡ true → one (sits_until n d row) ≡ 0
  runs_not_until k n d row h = go (is_running row.stage) refl
    where
      go : (t : Bool) → is_running row.stage ≡ t → one (sits_until n d row) ≡ 0
      go true e = stage_not_until n d row.number row.stage e
      go false e = absurd (let q : false ≡ true = sym (ap (λ t. cond t (nat_eq row.number k) false) e) ∙ h in cc)

  holds_until : (n d m : ℕ) (value : P) (row : Row P) → Holds row m value → one (sits_until n d row) ≤ one (nat_eq m n)
  holds_until n d m value row h =
      let e : one (sits_until n d row) ≡ one (cond (nat_eq h.deadline d) (nat_eq m n) false) =
      ap (λ stage. one (cond (has_deadline d stage) (nat_eq row.number n) false)) h.stage ∙ ap (λ z. one (cond (nat_eq h.deadline d) (nat_eq z n) false)) h.number in
      let le = both_le (nat_eq h.deadline d) (nat_eq m n) in omega arith

  -- a row that runs is found where one is counted, and the other way round
  pub found_running : (n : ℕ) (rows : List (Row P)) → running n rows ≡ 1 → IsRunning rows n
  found_running n rows h = go (find (runs n) rows) refl
    where
      go : (o : Option (Row P)) → find (runs n) rows ≡ o → IsRunning rows n
      go None e = absurd (let none : running n rows ≡ 0 = none_counted (runs n) rows e in omega arith)
      go (Some row) e = (row, e)

  pub running_found : (n : ℕ) (rows : List (Row P)) → IsRunning rows n → 1 ≤ running n rows
  running_found n rows w =
      let p = total_without (λ row. one (runs n row)) (runs n) rows w.0 w.1 in let q : one (runs n w.0) ≡ 1 = ap one (found_passes (runs n) rows w.0 w.1) in omega arith

  holds_not_runs : (n m : ℕ) (value : P) (row : Row P) → Holds row m value → one (runs n row) ≡ 0
  holds_not_runs n m value row h = ap (λ stage. one (cond (is_running stage) (nat_eq row.number n) false)) h.stage

  holds_sits : (n m : ℕ) (value : P) (row : Row P) → Holds row m value → one (sits n row) ≡ one (nat_eq m n)
  holds_sits n m value row h = ap (λ stage. one (cond (is_running stage) false (nat_eq row.number n))) h.stage ∙ ap (λ z. one (nat_eq z n)) h.number

  -- a call that changes nothing
  nothing : (s : State P) (c : Call P) (r : Reply P) → after s c r ≡ s → ((n : ℕ) → gives n r ≡ 0) → ((n : ℕ) → spends n c ≡ 0) → ((n : ℕ) → claims n r ≡ 0) → ((n : ℕ) → parks n c ≡ 0) → ((n q : ℕ) → parks_until n q c ≡ 0) → Moves s c r
  nothing s c r same a b d e u = record {
    until = λ n q. (let p = u n q in let w : sitting_until n q (after s c r).rows ≡ sitting_until n q s.rows = ap (λ z. sitting_until n q z.rows) same in omega arith);
    given = λ n. (let p = a n in let q : once n (after s c r).given ≡ once n s.given = ap (λ z. once n z.given) same in omega arith);
    runs_open = λ n. (let p = a n in let p' = b n in let q : running n (after s c r).rows ≡ running n s.rows = ap (λ z. running n z.rows) same in omega arith);
    parked = λ n. (let p = d n in let p' = e n in let q : sitting n (after s c r).rows ≡ sitting n s.rows = ap (λ z. sitting n z.rows) same in omega arith);
    keys = λ h key. subst (λ z. keyed key z.rows ≤ 1) (sym same) (h key);
  }

  new_key : (s : State P) (key other : Key) (row : Row P) → row.key ≡ key → find (has_key key) s.rows ≡ None → keyed other s.rows ≤ 1 → keyed other (s.rows ++ row ∷ []) ≤ 1
  new_key s key other row is free h = go (has_key other row) refl
    where
      go : (t : Bool) → has_key other row ≡ t → keyed other (s.rows ++ row ∷ []) ≤ 1
      go true e =
          let same : key ≡ other = sym is ∙ one_key row.key other e in
          let none : keyed other s.rows ≡ 0 = none_counted (has_key other) s.rows (sym (ap (λ k. find (has_key k) s.rows) same) ∙ free) in
          let p = total_snoc (λ row. one (has_key other row)) s.rows row in let q : one (has_key other row) ≡ 1 = ap one e in omega arith
      go false e = let p = total_snoc (λ row. one (has_key other row)) s.rows row in let q : one (has_key other row) ≡ 0 = ap one e in omega arith

  entered : (s : State P) (key : Key) (t : Ticket) → allows s (Enter key) (OfEnter (Entered t)) → Moves s (Enter key) (OfEnter (Entered t))
  entered s key t a =
      let row : Row P = record { key = key; number = s.given + 1; stage = Running } in record {
        given = λ n. once_next n s.given ∙ ap (λ z. once n s.given + one (nat_eq z n)) (sym a.4);
        runs_open = λ n. (let p = total_snoc (λ row. one (runs n row)) s.rows row in let q : one (nat_eq (s.given + 1) n) ≡ one (nat_eq t.number n) = ap (λ z. one (nat_eq z n)) (sym a.4) in omega arith);
        parked = λ n. (let p = total_snoc (λ row. one (sits n row)) s.rows row in omega arith);
        until = λ n d. (let p = total_snoc (λ row. one (sits_until n d row)) s.rows row in omega arith);
        keys = λ h other. new_key s key other row refl a.0 (h other);
      }

  park : (s : State P) (t : Ticket) (deadline : ℕ) (value : P) → may s (Park t deadline value) → Moves s (Park t deadline value) OfPark
  park s t deadline value m =
      let k : ℕ = t.number in let row : Row P = m.0 in let passes = found_passes (runs k) s.rows row m.1 in record {
        given = λ n. omega arith;
        runs_open = λ n. (let p = total_changed (λ row. one (runs n row)) (runs k) (parked deadline value) s.rows row m.1 in let q = runs_at k n row passes in omega arith);
        parked = λ n. (let p = total_changed (λ row. one (sits n row)) (runs k) (parked deadline value) s.rows row m.1 in let q = runs_not_sits k n row passes in let z = runs_number k n row passes in omega arith);
        until = λ n d. (let p = total_changed (λ row. one (sits_until n d row)) (runs k) (parked deadline value) s.rows row m.1 in let q = runs_not_until k n d row passes in
            let z : one (cond (nat_eq deadline d) (nat_eq row.number n) false) ≡ one (cond (nat_eq deadline d) (nat_eq k n) false) = ap (λ y. one (cond (nat_eq deadline d) (nat_eq y n) false)) (runs_is k row passes) in omega arith);
        keys = λ h key. (let p = total_changed (λ row. one (has_key key row)) (runs k) (parked deadline value) s.rows row m.1 in let q = h key in omega arith);
      }

  leave : (s : State P) (t : Ticket) → may s (Leave t) → Moves s (Leave t) OfLeave
  leave s t m =
      let k : ℕ = t.number in let row : Row P = m.0 in let passes = found_passes (runs k) s.rows row m.1 in record {
        given = λ n. omega arith;
        runs_open = λ n. (let p = total_without (λ row. one (runs n row)) (runs k) s.rows row m.1 in let q = runs_at k n row passes in omega arith);
        parked = λ n. (let p = total_without (λ row. one (sits n row)) (runs k) s.rows row m.1 in let q = runs_not_sits k n row passes in omega arith);
        until = λ n d. (let p = total_without (λ row. one (sits_until n d row)) (runs k) s.rows row m.1 in let q = runs_not_until k n d row passes in omega arith);
        keys = λ h key. (let p = total_without (λ row. one (has_key key row)) (runs k) s.rows row m.1 in let q = h key in omega arith);
      }

  -- a parked row goes, and its number is claimed
  claimed : (s : State P) (c : Call P) (r : Reply P) (test : Row P → Bool) (m : ℕ) (value : P) (row : Row P) → find test s.rows ≡ Some row → Holds row m value
      → after s c r ≡ record s { rows = without test s.rows } → ((n : ℕ) → gives n r ≡ 0) → ((n : ℕ) → spends n c ≡ 0) → ((n : ℕ) → claims n r ≡ one (nat_eq m n)) → ((n : ℕ) → parks n c ≡ 0) → ((n q : ℕ) → parks_until n q c ≡ 0) → Moves s c r
  claimed s c r test m value row found holds same a b d e u = record {
    until = λ n x. (let p = u n x in let y = d n in let q : sitting_until n x (after s c r).rows ≡ sitting_until n x (without test s.rows) = ap (λ z. sitting_until n x z.rows) same in
        let w = total_without (λ row. one (sits_until n x row)) test s.rows row found in let z = holds_until n x m value row holds in omega arith);
    given = λ n. (let p = a n in let q : once n (after s c r).given ≡ once n s.given = ap (λ z. once n z.given) same in omega arith);
    runs_open = λ n. (let p = a n in let p' = b n in let q : running n (after s c r).rows ≡ running n (without test s.rows) = ap (λ z. running n z.rows) same in let w = total_without (λ row. one (runs n row)) test s.rows row found in let z = holds_not_runs n m value row holds in omega arith);
    parked = λ n. (let p = d n in let p' = e n in let q : sitting n (after s c r).rows ≡ sitting n (without test s.rows) = ap (λ z. sitting n z.rows) same in let w = total_without (λ row. one (sits n row)) test s.rows row found in let z = holds_sits n m value row holds in omega arith);
    keys = λ h key. (let p = h key in let q : keyed key (after s c r).rows ≡ keyed key (without test s.rows) = ap (λ z. keyed key z.rows) same in let w = total_without (λ row. one (has_key key row)) test s.rows row found in omega arith);
  }

  -- nothing is found, and nothing goes
  missed : (s : State P) (c : Call P) (r : Reply P) (test : Row P → Bool) → find test s.rows ≡ None
      → after s c r ≡ record s { rows = without test s.rows } → ((n : ℕ) → gives n r ≡ 0) → ((n : ℕ) → spends n c ≡ 0) → ((n : ℕ) → claims n r ≡ 0) → ((n : ℕ) → parks n c ≡ 0) → ((n q : ℕ) → parks_until n q c ≡ 0) → Moves s c r
  missed s c r test none same a b d e u = record {
    until = λ n x. (let p = u n x in let q : sitting_until n x (after s c r).rows ≡ sitting_until n x (without test s.rows) = ap (λ z. sitting_until n x z.rows) same in
        let w = total_stays (λ row. one (sits_until n x row)) test s.rows none in omega arith);
    given = λ n. (let p = a n in let q : once n (after s c r).given ≡ once n s.given = ap (λ z. once n z.given) same in omega arith);
    runs_open = λ n. (let p = a n in let p' = b n in let q : running n (after s c r).rows ≡ running n (without test s.rows) = ap (λ z. running n z.rows) same in let w = total_stays (λ row. one (runs n row)) test s.rows none in omega arith);
    parked = λ n. (let p = d n in let p' = e n in let q : sitting n (after s c r).rows ≡ sitting n (without test s.rows) = ap (λ z. sitting n z.rows) same in let w = total_stays (λ row. one (sits n row)) test s.rows none in omega arith);
    keys = λ h key. (let p = h key in let q : keyed key (after s c r).rows ≡ keyed key (without test s.rows) = ap (λ z. keyed key z.rows) same in let w = total_stays (λ row. one (has_key key row)) test s.rows none in omega arith);
  }

  pub moves : (s : State P) (c : Call P) (r : Reply P) → may s c → allows s c r → Moves s c r
  moves s (Enter key) (OfEnter (Entered t)) m a = entered s key t a
  moves s (Enter key) (OfEnter (IdInUse n)) m a = nothing s (Enter key) (OfEnter (IdInUse n)) refl (λ n. refl) (λ n. refl) (λ n. refl) (λ n. refl) (λ n q. refl)
  moves s (Enter key) (OfEnter (Full n)) m a = nothing s (Enter key) (OfEnter (Full n)) refl (λ n. refl) (λ n. refl) (λ n. refl) (λ n. refl) (λ n q. refl)
  moves s (Enter key) (OfEnter (Worn n)) m a = nothing s (Enter key) (OfEnter (Worn n)) refl (λ n. refl) (λ n. refl) (λ n. refl) (λ n. refl) (λ n q. refl)
  moves s (Park t deadline value) OfPark m a = park s t deadline value m
  moves s (Leave t) OfLeave m a = leave s t m
  moves s (Resume key) (OfResume (Resumed n value)) m a = claimed s (Resume key) (OfResume (Resumed n value)) (waits key) n value a.0 a.1 a.2 refl (λ n. refl) (λ n. refl) (λ n. refl) (λ n. refl) (λ n q. refl)
  moves s (Resume key) (OfResume NotParked) m a = missed s (Resume key) (OfResume NotParked) (waits key) a refl (λ n. refl) (λ n. refl) (λ n. refl) (λ n. refl) (λ n q. refl)
  moves s (Expire now) (OfExpire (Expired n key value)) m a = claimed s (Expire now) (OfExpire (Expired n key value)) (is_next now s.rows) n value a.0 a.1 a.3 refl (λ n. refl) (λ n. refl) (λ n. refl) (λ n. refl) (λ n q. refl)
  moves s (Expire now) (OfExpire NothingDue) m a =
      missed s (Expire now) (OfExpire NothingDue) (is_next now s.rows) (none_found (is_next now s.rows) s.rows (λ i row at. ap (is_first_of s.rows now) (a i row at))) refl (λ n. refl) (λ n. refl) (λ n. refl) (λ n. refl) (λ n q. refl)
  moves s Count (OfCount counts) m a = nothing s Count (OfCount counts) refl (λ n. refl) (λ n. refl) (λ n. refl) (λ n. refl) (λ n q. refl)
  moves s (Enter key) OfPark m a = absurd a
  moves s (Enter key) OfLeave m a = absurd a
  moves s (Enter key) (OfResume claim) m a = absurd a
  moves s (Enter key) (OfExpire expiry) m a = absurd a
  moves s (Enter key) (OfCount counts) m a = absurd a
  moves s (Park t deadline value) (OfEnter entry) m a = absurd a
  moves s (Park t deadline value) OfLeave m a = absurd a
  moves s (Park t deadline value) (OfResume claim) m a = absurd a
  moves s (Park t deadline value) (OfExpire expiry) m a = absurd a
  moves s (Park t deadline value) (OfCount counts) m a = absurd a
  moves s (Leave t) (OfEnter entry) m a = absurd a
  moves s (Leave t) OfPark m a = absurd a
  moves s (Leave t) (OfResume claim) m a = absurd a
  moves s (Leave t) (OfExpire expiry) m a = absurd a
  moves s (Leave t) (OfCount counts) m a = absurd a
  moves s (Resume key) (OfEnter entry) m a = absurd a
  moves s (Resume key) OfPark m a = absurd a
  moves s (Resume key) OfLeave m a = absurd a
  moves s (Resume key) (OfExpire expiry) m a = absurd a
  moves s (Resume key) (OfCount counts) m a = absurd a
  moves s (Expire now) (OfEnter entry) m a = absurd a
  moves s (Expire now) OfPark m a = absurd a
  moves s (Expire now) OfLeave m a = absurd a
  moves s (Expire now) (OfResume claim) m a = absurd a
  moves s (Expire now) (OfCount counts) m a = absurd a
  moves s Count (OfEnter entry) m a = absurd a
  moves s Count OfPark m a = absurd a
  moves s Count OfLeave m a = absurd a
  moves s Count (OfResume claim) m a = absurd a
  moves s Count (OfExpire expiry) m a = absurd a

  not_until : (n d now number : ℕ) (stage : Stage P) → d ≤ now → due_as now number stage ≡ None → one (cond (has_deadline d stage) (nat_eq number n) false) ≡ 0
  not_until n d now number Running le h = refl
  not_until n d now number (Parked deadline value) le h = go (nat_le deadline now) refl
    where
      go : (t : Bool) → nat_le deadline now ≡ t → one (cond (nat_eq deadline d) (nat_eq number n) false) ≡ 0
      go true e = absurd (let q : Some (deadline, number) ≡ None = sym (ap (λ t. cond t (Some (deadline, number)) None) e) ∙ h in cc)
      go false e = ap (λ t. one (cond t (nat_eq number n) false)) (late deadline d now le e)

  -- where nothing is due at a moment, nothing is parked until it or before
  pub none_until : (n d now : ℕ) (rows : List (Row P)) → d ≤ now → IsQuiet rows now → sitting_until n d rows ≡ 0
  none_until n d now [] le q = refl
  none_until n d now (row ∷ rows) le q = let a = not_until n d now row.number row.stage le (q 0 row refl) in let b = none_until n d now rows le (λ i. q (suc i)) in omega arith
