-- A need that was met, and the tickets before it and after it.
use Rattle.std.proofs.Common.{◌≡◌, ◌⊎◌, inl, inr, ℕ, Bool, true, false, List, [], ◌∷◌, ◌++◌, length, Option, Some, None, refl, sym, ◌∙◌, ap, subst, append_assoc}
use Rattle.std.proofs.lemmas.List.{append_cancel_left, append-nil}
use Rattle.std.specs.Option.{IfSome}
use Rattle.web_parts.specs.declared.transaction.Request.{Request}
use Rattle.web_parts.specs.declared.transaction.Response.{Response}
use Rattle.conn_core.specs.declared.answer.BegunAnswer as beginnings
use Rattle.conn_core.specs.declared.answer.BegunAnswer.TheVariants as beguns
use Rattle.conn_core.specs.declared.answer.EndedAnswer as endings
use Rattle.conn_core.specs.declared.answer.EndedAnswer.TheVariants as ends
use Rattle.conn_core.specs.declared.answer.EntryAnswer as enterings
use Rattle.conn_core.specs.declared.answer.EntryAnswer.TheVariants as entries
use Rattle.conn_core.specs.declared.answer.LookAnswer as lookings
use Rattle.conn_core.specs.declared.answer.LookAnswer.TheVariants as looks
use Rattle.conn_core.specs.declared.need.Need as need
use Rattle.conn_core.specs.declared.need.Need.TheVariants as needs
use Rattle.conn_core.specs.declared.stage.Hold.{Hold}
use Rattle.conn_core.specs.declared.stage.Stage.{Stage}
use Rattle.conn_core.specs.declared.stage.Stage.TheVariants as at
use Rattle.conn_core.specs.Calls.{begun_with, claim_of, ended_with, entry_of, kind_at, looked_up}
use Rattle.conn_core.specs.Stands.{ConnView, Holds, Stands, StandsAs, State, is_held, served, spent_in, tickets_in}
use Rattle.conn_core.specs.Trace.{Need, Needs, Bytes, Look, Enter, Begin, Park, Leave, Resume, Finish, Retire, Write, Close, Replies, held_by}
use Rattle.conn_core.proofs.Steps.{spent_append, tickets_append}
use Rattle.conn_loop.specs.Answered.{Step, begun_replies, due, ended_replies, look_replies}
use Rattle.conn_loop.specs.Met.{IsHeld, IsMet, kind_of, met}
use Rattle.conn_loop.specs.Steps.{IsFree}

-- ---- tickets

-- a need of this kind comes where no ticket is held
abbrev pub is_quiet : need.Need → Bool
is_quiet needs.Begin = false
is_quiet needs.Park = false
is_quiet needs.Leave = false
is_quiet other = true

module _ {T : Type 0} where
  none_held : (hold : Option (Hold T)) → is_held hold ≡ false → held_by hold ≡ []
  none_held None none = refl
  none_held (Some hold) none = absurd (cc none)

  -- only one ticket is held
  pub one_held : (hold : Option (Hold T)) (ticket : T) (rest : List T) → held_by hold ≡ ticket ∷ rest → rest ≡ []
  one_held None ticket rest e = absurd (cc e)
  one_held (Some hold) ticket rest e = cc e

  -- of each ticket that is held this holds
  pub held_if : (Q : T → Type 0) (hold : Option (Hold T)) → ((ticket : T) → held_by hold ≡ ticket ∷ [] → Q ticket) → IfSome hold (λ hold. Q hold.ticket)
  held_if Q None each = tt
  held_if Q (Some hold) each = each hold.ticket refl

  pub if_held : (Q : T → Type 0) (hold : Option (Hold T)) (ticket : T) → IfSome hold (λ hold. Q hold.ticket) → held_by hold ≡ ticket ∷ [] → Q ticket
  if_held Q None ticket all e = absurd (cc e)
  if_held Q (Some hold) ticket all e = subst Q (cc e) all

module _ {R P T : Type 0} where
  -- the state after a need, and replies to it
  abbrev pub after : State R P T → Need R P T → Replies R P T → State R P T
  after s n mine = record { size = s.size; input = s.input; ended = s.ended; replies = s.replies ++ mine; past = s.past ++ n ∷ [] }

  balance : (b : Bool) (c : ConnView R P T) (s : State R P T) → StandsAs b c s → tickets_in s.replies ≡ spent_in s.past ++ held_by c.hold
  balance false c s p = p.tickets
  balance true c s p = p.tickets

  -- what was given and is not spent is held
  pub tickets : (c : ConnView R P T) (s : State R P T) → Stands c s → tickets_in s.replies ≡ spent_in s.past ++ held_by c.hold
  tickets c s h = balance c.broken c s h.stands

  -- what was held and what is given is what is spent and what is held
  moves : (c d : ConnView R P T) (s t : State R P T) (got : Replies R P T) (done : Needs R P T)
      → tickets_in t.replies ≡ tickets_in s.replies ++ tickets_in got → spent_in t.past ≡ spent_in s.past ++ spent_in done
      → Stands c s → Stands d t → held_by c.hold ++ tickets_in got ≡ spent_in done ++ held_by d.hold
  moves c d s t got done given spent x y =
      append_cancel_left (spent_in s.past) (held_by c.hold ++ tickets_in got) (spent_in done ++ held_by d.hold)
      (sym (append_assoc (spent_in s.past) (held_by c.hold) (tickets_in got)) ∙ ap (λ (l : List T). l ++ tickets_in got) (sym (tickets c s x)) ∙ sym given
      ∙ tickets d t y ∙ ap (λ (l : List T). l ++ held_by d.hold) spent ∙ append_assoc (spent_in s.past) (spent_in done) (held_by d.hold))

  -- nothing was given or spent
  pub still_held : (c d : ConnView R P T) (s t : State R P T) → t.replies ≡ s.replies → t.past ≡ s.past → Stands c s → Stands d t → held_by c.hold ≡ held_by d.hold
  still_held c d s t replies past x y =
      sym (append-nil (held_by c.hold))
      ∙ moves c d s t [] [] (ap tickets_in replies ∙ sym (append-nil (tickets_in s.replies))) (ap spent_in past ∙ sym (append-nil (spent_in s.past))) x y

  -- a need alone
  pub served_held : (c d : ConnView R P T) (s : State R P T) (n : Need R P T) → Stands c s → Stands d (served n s) → held_by c.hold ≡ spent_in (n ∷ []) ++ held_by d.hold
  served_held c d s n x y =
      sym (append-nil (held_by c.hold)) ∙ moves c d s (served n s) [] (n ∷ []) (sym (append-nil (tickets_in s.replies))) (spent_append s.past (n ∷ [])) x y

  quiet_at : (stage : Stage R P) (hold : Option (Hold T)) → is_quiet (kind_at stage) ≡ true → Holds stage hold → is_held hold ≡ false
  quiet_at at.Bytes hold quiet holds = holds
  quiet_at at.Ready hold quiet holds = holds
  quiet_at (at.Look id key request) hold quiet holds = holds
  quiet_at (at.Enter id key request rules life) hold quiet holds = holds
  quiet_at (at.Entering id request rules life) hold quiet holds = holds
  quiet_at (at.Begin id request rules) hold quiet holds = absurd (cc quiet)
  quiet_at (at.Begun id) hold quiet holds = absurd (cc quiet)
  quiet_at (at.Park id half) hold quiet holds = absurd (cc quiet)
  quiet_at (at.Leave id verdict) hold quiet holds = absurd (cc quiet)
  quiet_at (at.Retire id half) hold quiet holds = holds
  quiet_at (at.Retiring id) hold quiet holds = holds
  quiet_at (at.Resume id key response) hold quiet holds = holds
  quiet_at (at.Resuming id response) hold quiet holds = holds
  quiet_at (at.Finish id half response) hold quiet holds = holds
  quiet_at (at.Finishing id) hold quiet holds = holds
  quiet_at (at.Write bytes then) hold quiet holds = holds
  quiet_at at.LastLeave hold quiet holds = absurd (cc quiet)
  quiet_at at.LastWrite hold quiet holds = holds
  quiet_at (at.Close how) hold quiet holds = holds

  pub quiet_free : (c : ConnView R P T) (n : need.Need) → n ≡ kind_at c.stage → is_quiet n ≡ true → Holds c.stage c.hold → IsFree c
  quiet_free c n is quiet holds = none_held c.hold (quiet_at c.stage c.hold (ap is_quiet (sym is) ∙ quiet) holds)

  -- ---- a need with its replies

  -- none but a Look can be left undone
  pub look_or : (n : Need R P T) → ((app : List ℕ) × (n ≡ Look app)) ⊎ ((mine : Replies R P T) (s : State R P T) → met n mine s ≡ after s n mine)
  look_or (Look app) = inl (app, refl)
  look_or Bytes = inr (λ mine s. refl)
  look_or (Enter key) = inr (λ mine s. refl)
  look_or (Begin rules request) = inr (λ mine s. refl)
  look_or (Park ticket life half) = inr (λ mine s. refl)
  look_or (Leave ticket) = inr (λ mine s. refl)
  look_or (Resume key) = inr (λ mine s. refl)
  look_or (Finish half response) = inr (λ mine s. refl)
  look_or (Retire half) = inr (λ mine s. refl)
  look_or (Write bytes) = inr (λ mine s. refl)
  look_or (Close how) = inr (λ mine s. refl)

  -- with each reply that is due it is done
  look_full : (app : List ℕ) (mine : Replies R P T) (s : State R P T) → length mine ≡ 1 → met (Look app) mine s ≡ after s (Look app) mine
  look_full app [] s full = absurd (cc full)
  look_full app (r ∷ mine) s full = refl

  pub met_full : (n : Need R P T) (mine : Replies R P T) (s : State R P T) → length mine ≡ due n → met n mine s ≡ after s n mine
  met_full n mine s full = elim (look_or n) [
    | inl is ↦ subst (λ (n : Need R P T). met n mine s ≡ after s n mine) (sym is.1) (look_full is.0 mine s (full ∙ ap due is.1))
    | inr is ↦ is mine s
  ]

  look_tickets : (app : List ℕ) (mine : Replies R P T) (s : State R P T) → tickets_in (met (Look app) mine s).replies ≡ tickets_in s.replies ++ tickets_in mine
  look_tickets app [] s = sym (append-nil (tickets_in s.replies))
  look_tickets app (r ∷ mine) s = tickets_append s.replies (r ∷ mine)

  look_spent : (app : List ℕ) (mine : Replies R P T) (s : State R P T) → spent_in (met (Look app) mine s).past ≡ spent_in s.past ++ spent_in {R = R} {P = P} (Look app ∷ [])
  look_spent app [] s = sym (append-nil (spent_in s.past))
  look_spent app (r ∷ mine) s = spent_append s.past (Look app ∷ [])

  met_tickets : (n : Need R P T) (mine : Replies R P T) (s : State R P T) → tickets_in (met n mine s).replies ≡ tickets_in s.replies ++ tickets_in mine
  met_tickets n mine s = elim (look_or n) [
    | inl is ↦ subst (λ (n : Need R P T). tickets_in (met n mine s).replies ≡ tickets_in s.replies ++ tickets_in mine) (sym is.1) (look_tickets is.0 mine s)
    | inr is ↦ ap (λ (t : State R P T). tickets_in t.replies) (is mine s) ∙ tickets_append s.replies mine
  ]

  met_spent : (n : Need R P T) (mine : Replies R P T) (s : State R P T) → spent_in (met n mine s).past ≡ spent_in s.past ++ spent_in (n ∷ [])
  met_spent n mine s = elim (look_or n) [
    | inl is ↦ subst (λ (n : Need R P T). spent_in (met n mine s).past ≡ spent_in s.past ++ spent_in (n ∷ [])) (sym is.1) (look_spent is.0 mine s)
    | inr is ↦ ap (λ (t : State R P T). spent_in t.past) (is mine s) ∙ spent_append s.past (n ∷ [])
  ]

  -- no reply was given to what is done
  pub without_reply : (d : ConnView R P T) (s : State R P T) (n : Need R P T) → Stands d (served n s) → Stands d (after s n [])
  without_reply d s n h =
      subst (λ (l : Replies R P T). Stands d (record { size = s.size; input = s.input; ended = s.ended; replies = l; past = s.past ++ n ∷ [] })) (sym (append-nil s.replies)) h

  pub spent_free : (c d : ConnView R P T) (s : State R P T) (n : Need R P T) (ticket : T) → Stands c s → Stands d (served n s) → spent_in (n ∷ []) ≡ ticket ∷ [] → IsFree d
  spent_free c d s n ticket x y spends = one_held c.hold ticket (held_by d.hold) (served_held c d s n x y ∙ ap (λ (l : List T). l ++ held_by d.hold) spends)

module _ {T Desk : Type 0} where
  -- a ticket is given
  entry_held : (R P : Type 0) (holds : Desk → T → Type 0) (b : Desk) (answer : enterings.EntryAnswer T) → ((ticket : T) → answer ≡ entries.Entered ticket → holds b ticket)
      → (ticket : T) → tickets_in {R = R} {P = P} (entry_of answer ∷ []) ≡ ticket ∷ [] → holds b ticket
  entry_held R P holds b (entries.Entered given) is ticket e = subst (holds b) (cc e) (is given refl)
  entry_held R P holds b entries.IdInUse is ticket e = absurd (cc e)
  entry_held R P holds b entries.Full is ticket e = absurd (cc e)
  entry_held R P holds b entries.Worn is ticket e = absurd (cc e)

module _ {R P T : Type 0} where
  -- ---- the state after each kind of need

  pub look_stands : (d : ConnView R P T) (s : State R P T) (app : List ℕ) (answer : lookings.LookAnswer R) → Stands d (looked_up app answer s) → Stands d (met (Look app) (look_replies answer) s)
  look_stands d s app (looks.Found rules settings) stands = stands
  look_stands d s app looks.UnknownApp stands = stands
  look_stands d s app looks.NoMemory stands = stands

  pub begin_stands : (d : ConnView R P T) (s : State R P T) (rules : R) (request : Request) (answer : beginnings.BegunAnswer P)
      → Stands d (begun_with answer (served (Begin rules request) s)) → Stands d (met (Begin rules request) (begun_replies answer) s)
  begin_stands d s rules request (beguns.Interrupted verdict) stands = stands
  begin_stands d s rules request (beguns.Goes half) stands = stands
  begin_stands d s rules request beguns.NoMemory stands = without_reply d s (Begin rules request) stands

  pub finish_stands : (d : ConnView R P T) (s : State R P T) (half : P) (response : Response) (answer : endings.EndedAnswer)
      → Stands d (ended_with answer (served (Finish half response) s)) → Stands d (met (Finish half response) (ended_replies answer) s)
  finish_stands d s half response (ends.Verdict verdict) stands = stands
  finish_stands d s half response ends.NoMemory stands = without_reply d s (Finish half response) stands

  pub alone_stands : (d : ConnView R P T) (s : State R P T) (n : Need R P T) → due n ≡ 0 → Stands d (served n s) → Stands d (met n [] s)
  alone_stands d s n none stands = subst (λ (t : State R P T). Stands d t) (sym (met_full n [] s (sym none))) (without_reply d s n stands)

  balances : (c d : ConnView R P T) (s : State R P T) (n : Need R P T) (mine : Replies R P T) → Stands c s → Stands d (met n mine s)
      → held_by c.hold ++ tickets_in mine ≡ spent_in (n ∷ []) ++ held_by d.hold
  balances c d s n mine x y = moves c d s (met n mine s) mine (n ∷ []) (met_tickets n mine s) (met_spent n mine s) x y

  -- none is given and none spent where none is held
  pub still_free : (c d : ConnView R P T) (s : State R P T) (n : Need R P T) (mine : Replies R P T) → Stands c s → Stands d (met n mine s) → IsFree c → tickets_in mine ≡ [] → spent_in (n ∷ []) ≡ [] → IsFree d
  still_free c d s n mine x y free none kept =
      ap (λ (l : List T). l ++ held_by d.hold) (sym kept) ∙ sym (balances c d s n mine x y) ∙ ap (λ (l : List T). l ++ tickets_in mine) free ∙ none

module _ {R P T Desk : Type 0} where
  -- what holds no ticket has all that it holds held
  pub free_held : (holds : Desk → T → Type 0) (desk : Desk) (c : ConnView R P T) → IsFree c → IsHeld holds desk c
  free_held holds desk c free = held_if (holds desk) c.hold (λ ticket e. absurd (cc (free, e)))

  pub given_held : (holds : Desk → T → Type 0) (b : Desk) (c d : ConnView R P T) (s : State R P T) (n : Need R P T) (answer : enterings.EntryAnswer T) → Stands c s
      → Stands d (met n (entry_of answer ∷ []) s) → IsFree c → spent_in (n ∷ []) ≡ [] → ((ticket : T) → answer ≡ entries.Entered ticket → holds b ticket) → IsHeld holds b d
  given_held holds b c d s n answer x y free kept is =
      let given : held_by d.hold ≡ tickets_in (entry_of {R = R} {P = P} answer ∷ []) =
      ap (λ (l : List T). l ++ held_by d.hold) (sym kept) ∙ sym (balances c d s n (entry_of answer ∷ []) x y) ∙ ap (λ (l : List T). l ++ tickets_in (entry_of {R = R} {P = P} answer ∷ [])) free in
      held_if (holds b) d.hold (λ ticket e. entry_held R P holds b answer is ticket (sym given ∙ e))

  -- what is held is kept
  pub kept_held : (holds : Desk → T → Type 0) (a b : Desk) (c d : ConnView R P T) (s : State R P T) (n : Need R P T) (mine : Replies R P T) → Stands c s → Stands d (met n mine s)
      → tickets_in mine ≡ [] → spent_in (n ∷ []) ≡ [] → ((ticket : T) → holds a ticket → holds b ticket) → IsHeld holds a c → IsHeld holds b d
  kept_held holds a b c d s n mine x y none kept keeps held =
      let same : held_by c.hold ≡ held_by d.hold =
      sym (append-nil (held_by c.hold)) ∙ ap (λ (l : List T). held_by c.hold ++ l) (sym none) ∙ balances c d s n mine x y ∙ ap (λ (l : List T). l ++ held_by d.hold) kept in
      held_if (holds b) d.hold (λ ticket e. keeps ticket (if_held (holds a) c.hold ticket held (same ∙ e)))

  -- the ticket that is spent is held, and no other is
  pub spent_is_held : (holds : Desk → T → Type 0) (a : Desk) (c d : ConnView R P T) (s : State R P T) (n : Need R P T) (ticket : T) → Stands c s → Stands d (served n s)
      → spent_in (n ∷ []) ≡ ticket ∷ [] → IsHeld holds a c → holds a ticket
  spent_is_held holds a c d s n ticket x y spends held =
      let was : held_by c.hold ≡ ticket ∷ held_by d.hold = served_held c d s n x y ∙ ap (λ (l : List T). l ++ held_by d.hold) spends in
      if_held (holds a) c.hold ticket held (was ∙ ap (λ (l : List T). ticket ∷ l) (one_held c.hold ticket (held_by d.hold) was))

  -- ---- a need that was met

  -- of a connection that was not out of memory
  meets : (serves : Step R P T Desk) (c d : ConnView R P T) (a b : Desk) (s : State R P T) (n : Need R P T) (mine : Replies R P T) → kind_of n ≡ kind_at c.stage → c.broken ≡ false
      → serves a n mine b → (length mine ≡ due n) ⊎ ((mine ≡ []) × (d.broken ≡ true)) → Stands d (met n mine s) → IsMet serves c d a b s
  meets serves c d a b s n mine kind whole step replied stands =
      inl (record { need = n; kind = kind; mine = mine; step = step; replied = replied; stays = λ e. absurd (cc (whole, e)); stands = stands })

  pub meets_look : (serves : Step R P T Desk) (c d : ConnView R P T) (a b : Desk) (s : State R P T) (app : List ℕ) (answer : lookings.LookAnswer R) → needs.Look ≡ kind_at c.stage → c.broken ≡ false
      → serves a (Look app) (look_replies answer) b → (answer ≡ looks.NoMemory → d.broken ≡ true) → Stands d (met (Look app) (look_replies answer) s) → IsMet serves c d a b s
  meets_look serves c d a b s app (looks.Found rules settings) kind whole step breaks stands = meets serves c d a b s (Look app) _ kind whole step (inl refl) stands
  meets_look serves c d a b s app looks.UnknownApp kind whole step breaks stands = meets serves c d a b s (Look app) _ kind whole step (inl refl) stands
  meets_look serves c d a b s app looks.NoMemory kind whole step breaks stands = meets serves c d a b s (Look app) _ kind whole step (inr (refl, breaks refl)) stands

  pub meets_full : (serves : Step R P T Desk) (c d : ConnView R P T) (a b : Desk) (s : State R P T) (n : Need R P T) (mine : Replies R P T) → kind_of n ≡ kind_at c.stage → c.broken ≡ false
      → serves a n mine b → length mine ≡ due n → Stands d (met n mine s) → IsMet serves c d a b s
  meets_full serves c d a b s n mine kind whole step full stands = meets serves c d a b s n mine kind whole step (inl full) stands

  pub meets_begin : (serves : Step R P T Desk) (c d : ConnView R P T) (a b : Desk) (s : State R P T) (rules : R) (request : Request) (answer : beginnings.BegunAnswer P) → needs.Begin ≡ kind_at c.stage
      → c.broken ≡ false → serves a (Begin rules request) (begun_replies answer) b → (answer ≡ beguns.NoMemory → d.broken ≡ true)
      → Stands d (met (Begin rules request) (begun_replies answer) s) → IsMet serves c d a b s
  meets_begin serves c d a b s rules request (beguns.Interrupted verdict) kind whole step breaks stands = meets serves c d a b s (Begin rules request) _ kind whole step (inl refl) stands
  meets_begin serves c d a b s rules request (beguns.Goes half) kind whole step breaks stands = meets serves c d a b s (Begin rules request) _ kind whole step (inl refl) stands
  meets_begin serves c d a b s rules request beguns.NoMemory kind whole step breaks stands = meets serves c d a b s (Begin rules request) _ kind whole step (inr (refl, breaks refl)) stands

  pub meets_finish : (serves : Step R P T Desk) (c d : ConnView R P T) (a b : Desk) (s : State R P T) (half : P) (response : Response) (answer : endings.EndedAnswer) → needs.Finish ≡ kind_at c.stage
      → c.broken ≡ false → serves a (Finish half response) (ended_replies answer) b → (answer ≡ ends.NoMemory → d.broken ≡ true)
      → Stands d (met (Finish half response) (ended_replies answer) s) → IsMet serves c d a b s
  meets_finish serves c d a b s half response (ends.Verdict verdict) kind whole step breaks stands = meets serves c d a b s (Finish half response) _ kind whole step (inl refl) stands
  meets_finish serves c d a b s half response ends.NoMemory kind whole step breaks stands = meets serves c d a b s (Finish half response) _ kind whole step (inr (refl, breaks refl)) stands

  -- one to which no reply is due
  pub meets_alone : (serves : Step R P T Desk) (c d : ConnView R P T) (a b : Desk) (s : State R P T) (n : Need R P T) → kind_of n ≡ kind_at c.stage → (c.broken ≡ true → d.broken ≡ true)
      → serves a n [] b → due n ≡ 0 → Stands d (met n [] s) → IsMet serves c d a b s
  meets_alone serves c d a b s n kind stays step none stands =
      inl (record { need = n; kind = kind; mine = []; step = step; replied = inl (sym none); stays = λ e. (stays e, none); stands = stands })

  pub meets_retire : (serves : Step R P T Desk) (c d : ConnView R P T) (a b : Desk) (s : State R P T) (half : P) (memory : Bool) → needs.Retire ≡ kind_at c.stage → c.broken ≡ false
      → (memory ≡ true → serves a (Retire half) [] b) → (memory ≡ false → b ≡ a) → (memory ≡ false → d.broken ≡ true) → Stands d (served (Retire half) s) → IsMet serves c d a b s
  meets_retire serves c d a b s half true kind whole step kept breaks stands =
      meets serves c d a b s (Retire half) [] kind whole (step refl) (inl refl) (alone_stands d s (Retire half) refl stands)
  meets_retire serves c d a b s half false kind whole step kept breaks stands =
      inr (record { kind = kind; desk = kept refl; whole = whole; broken = breaks refl; half = half; stands = stands })

-- no ticket is among these
pub no_ticket_looked : (R P T : Type 0) (answer : lookings.LookAnswer R) → tickets_in (look_replies {R = R} {P = P} {T = T} answer) ≡ []
no_ticket_looked R P T (looks.Found rules settings) = refl
no_ticket_looked R P T looks.UnknownApp = refl
no_ticket_looked R P T looks.NoMemory = refl

pub no_ticket_begun : (R P T : Type 0) (answer : beginnings.BegunAnswer P) → tickets_in (begun_replies {R = R} {P = P} {T = T} answer) ≡ []
no_ticket_begun R P T (beguns.Interrupted verdict) = refl
no_ticket_begun R P T (beguns.Goes half) = refl
no_ticket_begun R P T beguns.NoMemory = refl

pub no_ticket_claimed : (R P T : Type 0) (answer : Option P) → tickets_in (claim_of {R = R} {P = P} {T = T} answer ∷ []) ≡ []
no_ticket_claimed R P T None = refl
no_ticket_claimed R P T (Some half) = refl

pub no_ticket_ended : (R P T : Type 0) (answer : endings.EndedAnswer) → tickets_in (ended_replies {R = R} {P = P} {T = T} answer) ≡ []
no_ticket_ended R P T (ends.Verdict verdict) = refl
no_ticket_ended R P T ends.NoMemory = refl
