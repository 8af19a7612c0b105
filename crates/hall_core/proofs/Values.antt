-- What is claimed was parked before, under the same number with the same value.
use Rattle.std.proofs.Common.{◌≡◌, ℕ, zero, suc, ◌+◌, Bool, true, false, cond, List, [], ◌∷◌, ◌++◌, append-nil, append_assoc, length, find, Some, None, refl, sym, ap, ◌∙◌, subst}
use mathlib.Core.Option as maybe
use lib.ListN.{get_elem?}
use Rattle.hall_core.specs.declared.row.Row.{Row}
use Rattle.hall_core.specs.declared.row.Stage.{Stage}
use Rattle.hall_core.specs.declared.row.Stage.TheVariants.{Running, Parked}
use Rattle.hall_core.specs.declared.calls.Entry.TheVariants.{Entered, IdInUse, Full, Worn}
use Rattle.hall_core.specs.declared.calls.Claim.TheVariants.{Resumed, NotParked}
use Rattle.hall_core.specs.declared.calls.Expiry.TheVariants.{Expired, NothingDue}
use Rattle.hall_core.specs.declared.calls.Call.{Call}
use Rattle.hall_core.specs.declared.calls.Call.TheVariants.{Enter, Park, Leave, Resume, Expire, Count}
use Rattle.hall_core.specs.declared.calls.Reply.{Reply}
use Rattle.hall_core.specs.declared.calls.Reply.TheVariants.{OfEnter, OfPark, OfLeave, OfResume, OfExpire, OfCount}
use Rattle.hall_core.specs.Rows.{without, changed}
use Rattle.hall_core.specs.State.{State, runs, waits, is_next, parked}
use Rattle.hall_core.specs.Step.{allows, after, starts, Holds}
use Rattle.hall_core.specs.Kept.{ClaimsAs, Legal, ParksAs, WasParked, left_by}
use Rattle.hall_core.specs.Moves.{runs_is}
use Rattle.hall_core.specs.Keeping.{legal_last}

module _ {A : Type 0} where
  at_before : (xs ys : List A) (i : ℕ) (a : A) → get_elem? xs i ≡ maybe.some a → get_elem? (xs ++ ys) i ≡ maybe.some a
  at_before [] ys i a e = absurd (maybe.some-ne-none a (sym e))
  at_before (x ∷ xs) ys zero a e = e
  at_before (x ∷ xs) ys (suc i) a e = at_before xs ys i a e

  at_last : (xs : List A) (a : A) → get_elem? (xs ++ a ∷ []) (length xs) ≡ maybe.some a
  at_last [] a = refl
  at_last (x ∷ xs) a = at_last xs a

module _ {P E : Type 0} (call_of : E → Call P) where
  -- what is held at this stage under this number was parked so
  abbrev Backs : List E → ℕ → Stage P → Type 0
  Backs log n Running = Unit {0}
  Backs log n (Parked deadline value) = WasParked call_of log n value

  abbrev Backed : List E → List (Row P) → Type 0
  Backed log [] = Unit {0}
  Backed log (row ∷ rows) = Backs log row.number row.stage × Backed log rows

  backs_more : (log : List E) (e : E) (n : ℕ) (stage : Stage P) → Backs log n stage → Backs (log ++ e ∷ []) n stage
  backs_more log e n Running h = tt
  backs_more log e n (Parked deadline value) h = (h.0, h.1, at_before log (e ∷ []) h.0 h.1 h.2, h.3)

  backed_more : (log : List E) (e : E) (rows : List (Row P)) → Backed log rows → Backed (log ++ e ∷ []) rows
  backed_more log e [] h = tt
  backed_more log e (row ∷ rows) h = (backs_more log e row.number row.stage h.0, backed_more log e rows h.1)

  backed_snoc : (log : List E) (rows : List (Row P)) (row : Row P) → Backed log rows → Backs log row.number row.stage → Backed log (rows ++ row ∷ [])
  backed_snoc log [] row h b = (b, tt)
  backed_snoc log (x ∷ xs) row h b = (h.0, backed_snoc log xs row h.1 b)

  backed_without : (log : List E) (test : Row P → Bool) (rows : List (Row P)) → Backed log rows → Backed log (without test rows)
  backed_without log test [] h = tt
  backed_without log test (row ∷ rows) h = go (test row) (backed_without log test rows h.1)
    where
      go : (b : Bool) → Backed log (without test rows) → Backed log (cond b rows (row ∷ without test rows))
      go true rest = h.1
      go false rest = (h.0, rest)

  backed_parked : (log : List E) (n deadline : ℕ) (value : P) (rows : List (Row P)) → WasParked call_of log n value → Backed log rows → Backed log (changed (runs n) (parked deadline value) rows)
  backed_parked log n deadline value [] w h = tt
  backed_parked log n deadline value (row ∷ rows) w h = go (runs n row) refl (backed_parked log n deadline value rows w h.1)
    where
      go : (b : Bool) → runs n row ≡ b → Backed log (changed (runs n) (parked deadline value) rows) → Backed log (cond b (parked deadline value row ∷ rows) (row ∷ changed (runs n) (parked deadline value) rows))
      go true t rest = (subst (λ k. WasParked call_of log k value) (sym (runs_is n row t)) w, h.1)
      go false t rest = (h.0, rest)

  backed_found : (log : List E) (test : Row P → Bool) (rows : List (Row P)) (row : Row P) → find test rows ≡ Some row → Backed log rows → Backs log row.number row.stage
  backed_found log test [] row e h = absurd (let k : None ≡ Some row = e in cc)
  backed_found log test (y ∷ ys) row e h = go (test y) refl (backed_found log test ys row)
    where
      go : (b : Bool) → test y ≡ b → (find test ys ≡ Some row → Backed log ys → Backs log row.number row.stage) → Backs log row.number row.stage
      go true t rest = let same : Some y ≡ Some row = sym (ap (λ b. cond b (Some y) (find test ys)) t) ∙ e in let is : y ≡ row = cc in subst (λ r. Backs log r.number r.stage) is h.0
      go false t rest = rest (sym (ap (λ b. cond b (Some y) (find test ys)) t) ∙ e) h.1

  held : (log : List E) (row : Row P) (m n : ℕ) (v value : P) → Holds row m v → m ≡ n → v ≡ value → Backs log row.number row.stage → WasParked call_of log n value
  held log row m n v value h number is b =
      let here : WasParked call_of log row.number v = subst (λ stage. Backs log row.number stage) h.stage b in
      subst (λ z. WasParked call_of log n z) is (subst (λ k. WasParked call_of log k v) (h.number ∙ number) here)

  backed_step : (s : State P) (log : List E) (e : E) (c : Call P) (r : Reply P) → call_of e ≡ c → Backed log s.rows → Backed (log ++ e ∷ []) (after s c r).rows
  backed_step s log e (Enter key) (OfEnter (Entered t)) is b = backed_snoc (log ++ e ∷ []) s.rows (record { key = key; number = s.given + 1; stage = Running }) (backed_more log e s.rows b) tt
  backed_step s log e (Enter key) (OfEnter (IdInUse n)) is b = backed_more log e s.rows b
  backed_step s log e (Enter key) (OfEnter (Full n)) is b = backed_more log e s.rows b
  backed_step s log e (Enter key) (OfEnter (Worn n)) is b = backed_more log e s.rows b
  backed_step s log e (Enter key) OfPark is b = backed_more log e s.rows b
  backed_step s log e (Enter key) OfLeave is b = backed_more log e s.rows b
  backed_step s log e (Enter key) (OfResume claim) is b = backed_more log e s.rows b
  backed_step s log e (Enter key) (OfExpire expiry) is b = backed_more log e s.rows b
  backed_step s log e (Enter key) (OfCount counts) is b = backed_more log e s.rows b
  backed_step s log e (Park t deadline value) r is b =
      let parks : ParksAs t.number value (call_of e) = subst (λ c. ParksAs t.number value c) (sym is) (refl, refl) in
      backed_parked (log ++ e ∷ []) t.number deadline value s.rows (length log, e, at_last log e, parks) (backed_more log e s.rows b)
  backed_step s log e (Leave t) r is b = backed_without (log ++ e ∷ []) (runs t.number) s.rows (backed_more log e s.rows b)
  backed_step s log e (Resume key) r is b = backed_without (log ++ e ∷ []) (waits key) s.rows (backed_more log e s.rows b)
  backed_step s log e (Expire now) r is b = backed_without (log ++ e ∷ []) (is_next now s.rows) s.rows (backed_more log e s.rows b)
  backed_step s log e Count r is b = backed_more log e s.rows b

  -- what this reply claims was parked
  claim_backed : (s : State P) (log : List E) (r : Reply P) (c : Call P) (n : ℕ) (value : P) → allows s c r → ClaimsAs n value r → Backed log s.rows → WasParked call_of log n value
  claim_backed s log (OfResume (Resumed m v)) (Resume key) n value a h b = held log a.0 m n v value a.2 h.0 h.1 (backed_found log (waits key) s.rows a.0 a.1 b)
  claim_backed s log (OfExpire (Expired m key v)) (Expire now) n value a h b = held log a.0 m n v value a.3 h.0 h.1 (backed_found log (is_next now s.rows) s.rows a.0 a.1 b)
  claim_backed s log (OfEnter entry) c n value a h b = absurd h
  claim_backed s log OfPark c n value a h b = absurd h
  claim_backed s log OfLeave c n value a h b = absurd h
  claim_backed s log (OfCount counts) c n value a h b = absurd h
  claim_backed s log (OfResume NotParked) c n value a h b = absurd h
  claim_backed s log (OfExpire NothingDue) c n value a h b = absurd h
  claim_backed s log (OfResume (Resumed m v)) (Enter key) n value a h b = absurd a
  claim_backed s log (OfResume (Resumed m v)) (Park t deadline w) n value a h b = absurd a
  claim_backed s log (OfResume (Resumed m v)) (Leave t) n value a h b = absurd a
  claim_backed s log (OfResume (Resumed m v)) (Expire now) n value a h b = absurd a
  claim_backed s log (OfResume (Resumed m v)) Count n value a h b = absurd a
  claim_backed s log (OfExpire (Expired m key v)) (Enter other) n value a h b = absurd a
  claim_backed s log (OfExpire (Expired m key v)) (Park t deadline w) n value a h b = absurd a
  claim_backed s log (OfExpire (Expired m key v)) (Leave t) n value a h b = absurd a
  claim_backed s log (OfExpire (Expired m key v)) (Resume other) n value a h b = absurd a
  claim_backed s log (OfExpire (Expired m key v)) Count n value a h b = absurd a

module _ {P E : Type 0} (call_of : E → Call P) (reply_of : E → Reply P) where
  backed_along : (s : State P) (done log : List E) → Backed call_of done s.rows → Backed call_of (done ++ log) (left_by call_of reply_of s log).rows
  backed_along s done [] b = subst (λ (l : List E). Backed call_of l s.rows) (sym (append-nil done)) b
  backed_along s done (e ∷ es) b = subst (λ (l : List E). Backed call_of l (left_by call_of reply_of (after s (call_of e) (reply_of e)) es).rows) (append_assoc done (e ∷ []) es)
      (backed_along (after s (call_of e) (reply_of e)) (done ++ e ∷ []) es (backed_step call_of s done e (call_of e) (reply_of e) refl b))

  -- what an entry claims, one before it parked
  pub claimed_as_parked : (s : State P) (log : List E) (e : E) (n : ℕ) (value : P) → starts s → Legal call_of reply_of s (log ++ e ∷ []) → ClaimsAs n value (reply_of e) → WasParked call_of log n value
  claimed_as_parked s log e n value z h claims =
      let l = legal_last call_of reply_of s log e h in let none : Backed call_of [] s.rows = subst (λ rows. Backed call_of [] rows) (sym z.rows) tt in
      claim_backed call_of (left_by call_of reply_of s log) log (reply_of e) (call_of e) n value l.2 claims (backed_along s [] log none)
