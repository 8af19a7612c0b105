-- What a step needs for the next state to be stood for.
use Rattle.std.proofs.Common.{◌≡◌, ℕ, Bool, true, false, cond, ◌||◌, List, [], ◌∷◌, ◌++◌, refl, sym, ◌∙◌, ap, subst, append_assoc, append-nil}
use Rattle.conn_core.specs.declared.stage.Stage.{Stage}
use Rattle.conn_core.specs.Trace.{Need, Bytes, Look, Enter, Begin, Park, Leave, Resume, Finish, Retire, Write, Close, Reply, Found, UnknownApp, Entered, Refused, Interrupted, Goes, Resumed, NotParked, Ended, held_by, trace}
use Rattle.conn_core.specs.Stands.{State, ConnView, served, replied, left_of, hears, Going, tickets_in, spent_in, Plain, IsEnding, StandsAs, Stands, Waits}

module _ {R P T : Type 0} where
  pub tickets_append : (a b : List (Reply R P T)) → tickets_in (a ++ b) ≡ tickets_in a ++ tickets_in b
  tickets_append [] b = refl
  tickets_append (Entered ticket ∷ a) b = ap (λ l. ticket ∷ l) (tickets_append a b)
  tickets_append (Found r t ∷ a) b = tickets_append a b
  tickets_append (UnknownApp ∷ a) b = tickets_append a b
  tickets_append (Refused e ∷ a) b = tickets_append a b
  tickets_append (Interrupted v ∷ a) b = tickets_append a b
  tickets_append (Goes h ∷ a) b = tickets_append a b
  tickets_append (Resumed h ∷ a) b = tickets_append a b
  tickets_append (NotParked ∷ a) b = tickets_append a b
  tickets_append (Ended v ∷ a) b = tickets_append a b

  pub spent_append : (a b : List (Need R P T)) → spent_in (a ++ b) ≡ spent_in a ++ spent_in b
  spent_append [] b = refl
  spent_append (Park ticket life half ∷ a) b = ap (λ l. ticket ∷ l) (spent_append a b)
  spent_append (Leave ticket ∷ a) b = ap (λ l. ticket ∷ l) (spent_append a b)
  spent_append (Bytes ∷ a) b = spent_append a b
  spent_append (Look x ∷ a) b = spent_append a b
  spent_append (Enter x ∷ a) b = spent_append a b
  spent_append (Begin r x ∷ a) b = spent_append a b
  spent_append (Resume x ∷ a) b = spent_append a b
  spent_append (Finish h x ∷ a) b = spent_append a b
  spent_append (Retire h ∷ a) b = spent_append a b
  spent_append (Write x ∷ a) b = spent_append a b
  spent_append (Close x ∷ a) b = spent_append a b

  -- with needs done and replies got
  abbrev pub moved : List (Need R P T) → List (Reply R P T) → State R P T → State R P T
  moved done got s = record { size = s.size; input = s.input; ended = s.ended; replies = s.replies ++ got; past = s.past ++ done }

  -- what is left of c, with the replies got, is what is done and what is left of d
  abbrev pub Moves : ConnView R P T → ConnView R P T → List (Need R P T) → List (Reply R P T) → Type 0
  Moves c d done got = (more : List ℕ) (ends : Bool) (later : List (Reply R P T)) →
      left_of c (cond (hears d.stage d.ended) more []) (cond (hears d.stage d.ended) ends false || c.ended) (got ++ later) ≡ done ++ left_of d more (ends || d.ended) later

  pub going_on : (c d : ConnView R P T) (s : State R P T) (done : List (Need R P T)) (got : List (Reply R P T)) → hears c.stage c.ended ≡ true
      → Moves c d done got → Going c s → Going d (moved done got s)
  going_on c d s done got h m g = record {
    is = λ more ends later.
        let u : List ℕ = cond (hears d.stage d.ended) more [] in
        let e : Bool = cond (hears d.stage d.ended) ends false in
        let was : trace s.size (s.input ++ u) (e || s.ended) (s.replies ++ (got ++ later)) ≡ s.past ++ left_of c u (e || c.ended) (got ++ later) =
        subst (λ (b : Bool). trace s.size (s.input ++ cond b u []) (cond b e false || s.ended) (s.replies ++ (got ++ later)) ≡ s.past ++ left_of c u (e || c.ended) (got ++ later)) h (g.is u e (got ++ later)) in
        ap (λ (l : List (Reply R P T)). trace s.size (s.input ++ u) (e || s.ended) l) (append_assoc s.replies got later)
        ∙ was ∙ ap (λ (l : List (Need R P T)). s.past ++ l) (m more ends later) ∙ sym (append_assoc s.past done (left_of d more (ends || d.ended) later));
  }

  -- the tickets that are given and spent on the way
  abbrev pub Balances : ConnView R P T → ConnView R P T → List (Need R P T) → List (Reply R P T) → Type 0
  Balances c d done got = held_by c.hold ++ tickets_in got ≡ spent_in done ++ held_by d.hold

  pub plain_on : (c d : ConnView R P T) (s : State R P T) (done : List (Need R P T)) (got : List (Reply R P T)) → hears c.stage c.ended ≡ true → d.ended ≡ c.ended
      → Moves c d done got → Balances c d done got → Plain c s → Plain d (moved done got s)
  plain_on c d s done got h same m b p = record {
    going = going_on c d s done got h m p.going;
    tickets = tickets_append s.replies got ∙ ap (λ (l : List T). l ++ tickets_in got) p.tickets
        ∙ append_assoc (spent_in s.past) (held_by c.hold) (tickets_in got) ∙ ap (λ (l : List T). spent_in s.past ++ l) b
        ∙ sym (append_assoc (spent_in s.past) (spent_in done) (held_by d.hold)) ∙ ap (λ (l : List T). l ++ held_by d.hold) (sym (spent_append s.past done));
    ended = same ∙ p.ended;
  }

  only_past : (done : List (Need R P T)) (s : State R P T) → moved done [] s ≡ record { size = s.size; input = s.input; ended = s.ended; replies = s.replies; past = s.past ++ done }
  only_past done s = ap (λ (l : List (Reply R P T)). record { size = s.size; input = s.input; ended = s.ended; replies = l; past = s.past ++ done }) (append-nil s.replies)

  only_replies : (got : List (Reply R P T)) (s : State R P T) → moved [] got s ≡ record { size = s.size; input = s.input; ended = s.ended; replies = s.replies ++ got; past = s.past }
  only_replies got s = ap (λ (l : List (Need R P T)). record { size = s.size; input = s.input; ended = s.ended; replies = s.replies ++ got; past = l }) (append-nil s.past)

  nothing : (s : State R P T) → moved [] [] s ≡ s
  nothing s = only_past [] s ∙ ap (λ (l : List (Need R P T)). record { size = s.size; input = s.input; ended = s.ended; replies = s.replies; past = l }) (append-nil s.past)

  -- a need is done; a reply is got; both; neither
  pub serves : (c d : ConnView R P T) (s : State R P T) (n : Need R P T) → hears c.stage c.ended ≡ true → d.ended ≡ c.ended → Moves c d (n ∷ []) [] → Balances c d (n ∷ []) [] → Plain c s → Plain d (served n s)
  serves c d s n h same m b p = subst (λ (x : State R P T). Plain d x) (only_past (n ∷ []) s) (plain_on c d s (n ∷ []) [] h same m b p)

  pub hears_of : (c d : ConnView R P T) (s : State R P T) (r : Reply R P T) → hears c.stage c.ended ≡ true → d.ended ≡ c.ended → Moves c d [] (r ∷ []) → Balances c d [] (r ∷ []) → Plain c s → Plain d (replied r s)
  hears_of c d s r h same m b p = subst (λ (x : State R P T). Plain d x) (only_replies (r ∷ []) s) (plain_on c d s [] (r ∷ []) h same m b p)

  pub both : (c d : ConnView R P T) (s : State R P T) (n : Need R P T) (r : Reply R P T) → hears c.stage c.ended ≡ true → d.ended ≡ c.ended → Moves c d (n ∷ []) (r ∷ []) → Balances c d (n ∷ []) (r ∷ []) → Plain c s → Plain d (replied r (served n s))
  both c d s n r h same m b p = plain_on c d s (n ∷ []) (r ∷ []) h same m b p

  pub stays : (c d : ConnView R P T) (s : State R P T) → hears c.stage c.ended ≡ true → d.ended ≡ c.ended → Moves c d [] [] → Balances c d [] [] → Plain c s → Plain d s
  stays c d s h same m b p = subst (λ (x : State R P T). Plain d x) (nothing s) (plain_on c d s [] [] h same m b p)

  -- where it can't be broken
  pub plain_of : (b : Bool) (c : ConnView R P T) (s : State R P T) → (IsEnding c.stage → ⊥) → StandsAs b c s → (b ≡ false) × Plain c s
  plain_of false c s n p = (refl, p)
  plain_of true c s n p = absurd (n p.ending_is)

  pub stands : (c : ConnView R P T) (s : State R P T) → c.broken ≡ false → Waits c.stage c → Plain c s → Stands c s
  stands c s b w p = record { waits = w; stands = subst (λ (x : Bool). StandsAs x c s) (sym b) p }

  pub at_stage : (c : ConnView R P T) (s : State R P T) (stage : Stage R P) → c.stage ≡ stage → Stands c s → Stands (record c { stage = stage }) s
  at_stage c s stage e h = subst (λ (x : Stage R P). Stands (record c { stage = x }) s) e h
