-- One lemma a call.
use Rattle.std.proofs.Common.{◌≡◌, ℕ, Bool, true, false, Option, Some, None, List, [], ◌∷◌, ◌++◌, refl, sym, ◌∙◌, ap, subst, append_assoc, append-nil, ◌≤◌, arith}
use Rattle.spop_hello.specs.Frames.{disconnect}
use Rattle.spop_talk.specs.declared.ack.Action.{Action}
use Rattle.spop_talk.specs.declared.message.Message.{Message}
use Rattle.spop_web.specs.declared.answer.AckError.{AckError}
use Rattle.spop_web.specs.declared.answer.AckError.TheVariants as errors
use Rattle.sec_ast.specs.declared.verdict.Verdict.{Verdict}
use Rattle.web_parts.specs.declared.transaction.Request.{Request}
use Rattle.web_parts.specs.declared.transaction.Response.{Response}
use Rattle.hall_core.specs.declared.Key.{Key}
use Rattle.conn_core.specs.declared.answer.Settings.{Settings}
use Rattle.conn_core.specs.declared.need.Need.TheVariants as needs
use Rattle.conn_core.specs.declared.need.Closing as closing
use Rattle.conn_core.specs.declared.need.Closing.TheVariants as closings
use Rattle.conn_core.specs.declared.stage.Hold.{Hold}
use Rattle.conn_core.specs.declared.stage.Stage.{Stage}
use Rattle.conn_core.specs.declared.stage.Stage.TheVariants as at
use Rattle.conn_core.specs.Trace.{Need, Look, Enter, Begin, Park, Leave, Resume, Finish, Retire, Write, Found, UnknownApp, Entered, Refused, Interrupted, Goes, Resumed, NotParked, Ended, held_by, trace, failed, judged}
use Rattle.conn_core.specs.Stands.{State, ConnView, StillTaken, opening, served, replied, hears, is_open, Plain, Broken, IsTaken, Taken, IsEnding, StandsAs, Stands, Waits, WaitsForBytes, ending, fed, shut, rank, spent_in}
use Rattle.conn_core.specs.Between.{after_write}
use Rattle.conn_core.specs.Calls.{At, kind_at}
use Rattle.conn_core.proofs.Inner.{trace_now, broke, broke_fed, fed_on, shut_on, hears_open}
use Rattle.conn_core.proofs.Steps.{spent_append, serves, hears_of, both, stays, plain_of, stands, at_stage}

module _ {R P : Type 0} where
  pub open_at : (stage : Stage R P) → ((how : closing.Closing) → stage ≡ at.Close how → ⊥) → is_open stage ≡ true
  open_at at.Bytes n = refl
  open_at at.Ready n = refl
  open_at (at.Look id key request) n = refl
  open_at (at.Enter id key request rules life) n = refl
  open_at (at.Entering id request rules life) n = refl
  open_at (at.Begin id request rules) n = refl
  open_at (at.Begun id) n = refl
  open_at (at.Park id half) n = refl
  open_at (at.Leave id verdict) n = refl
  open_at (at.Retire id half) n = refl
  open_at (at.Retiring id) n = refl
  open_at (at.Resume id key response) n = refl
  open_at (at.Resuming id response) n = refl
  open_at (at.Finish id half response) n = refl
  open_at (at.Finishing id) n = refl
  open_at (at.Write bytes then) n = refl
  open_at at.LastLeave n = refl
  open_at at.LastWrite n = refl
  open_at (at.Close how) n = absurd (n how refl)

  pub least_rank : (stage : Stage R P) → is_open stage ≡ true → 1 ≤ rank stage
  least_rank at.Bytes o = omega arith
  least_rank at.Ready o = omega arith
  least_rank (at.Look id key request) o = omega arith
  least_rank (at.Enter id key request rules life) o = omega arith
  least_rank (at.Entering id request rules life) o = omega arith
  least_rank (at.Begin id request rules) o = omega arith
  least_rank (at.Begun id) o = omega arith
  least_rank (at.Park id half) o = omega arith
  least_rank (at.Leave id verdict) o = omega arith
  least_rank (at.Retire id half) o = omega arith
  least_rank (at.Retiring id) o = omega arith
  least_rank (at.Resume id key response) o = omega arith
  least_rank (at.Resuming id response) o = omega arith
  least_rank (at.Finish id half response) o = omega arith
  least_rank (at.Finishing id) o = omega arith
  least_rank (at.Write bytes None) o = omega arith
  least_rank (at.Write bytes (Some how)) o = omega arith
  least_rank at.LastLeave o = omega arith
  least_rank at.LastWrite o = omega arith
  least_rank (at.Close how) o = absurd cc

  -- between a need's take and its give
  taken_open : (stage : Stage R P) → IsTaken stage → (is_open stage ≡ true) × (IsEnding stage → ⊥)
  taken_open at.Bytes t = absurd t
  taken_open at.Ready t = absurd t
  taken_open (at.Look id key request) t = absurd t
  taken_open (at.Enter id key request rules life) t = absurd t
  taken_open (at.Entering id request rules life) t = (refl, λ x. x)
  taken_open (at.Begin id request rules) t = absurd t
  taken_open (at.Begun id) t = (refl, λ x. x)
  taken_open (at.Park id half) t = absurd t
  taken_open (at.Leave id verdict) t = absurd t
  taken_open (at.Retire id half) t = absurd t
  taken_open (at.Retiring id) t = (refl, λ x. x)
  taken_open (at.Resume id key response) t = absurd t
  taken_open (at.Resuming id response) t = (refl, λ x. x)
  taken_open (at.Finish id half response) t = absurd t
  taken_open (at.Finishing id) t = (refl, λ x. x)
  taken_open (at.Write bytes then) t = absurd t
  taken_open at.LastLeave t = absurd t
  taken_open at.LastWrite t = absurd t
  taken_open (at.Close how) t = absurd t

module _ {R P T : Type 0} where
  pub opened : (size : ℕ) (unread : List ℕ) (stream frame : ℕ) (left : List Message) (actions : List Action) → unread ≡ []
      → Stands {R = R} {P = P} {T = T} (record { size = size; agreed = None; unread = unread; ended = false; stage = at.Bytes; hold = None; stream = stream; frame = frame; left = left; actions = actions; broken = false }) (opening size)
  unfolding trace
  opened size unread stream frame left actions e =
      subst (λ (u : List ℕ). Stands {R = R} {P = P} {T = T} (record { size = size; agreed = None; unread = u; ended = false; stage = at.Bytes; hold = None; stream = stream; frame = frame; left = left; actions = actions; broken = false }) (opening size)) (sym e)
      (stands _ _ refl (refl, refl) (record { going = record { is = λ more ends later. refl }; tickets = refl; ended = refl }))

  pub on_plain : (c : ConnView R P T) (s : State R P T) (stage : Stage R P) → c.stage ≡ stage → (IsEnding stage → ⊥) → StandsAs c.broken c s → (c.broken ≡ false) × Plain (record c { stage = stage }) s
  on_plain c s stage e n h = plain_of c.broken (record c { stage = stage }) s n (subst (λ (x : Stage R P). StandsAs c.broken (record c { stage = x }) s) e h)

  taken : (c : ConnView R P T) (s : State R P T) → c.broken ≡ false → IsTaken c.stage → Plain c s → Taken c s
  taken c s b t p = record { taken = t; stands = subst (λ (x : Bool). StandsAs x c s) (sym b) p }

  pub plain_when : (c : ConnView R P T) (s : State R P T) → c.broken ≡ false → Stands c s → Plain c s
  plain_when c s b h = subst (λ (x : Bool). StandsAs x c s) b h.stands

  pub key_taken : (c : ConnView R P T) (s : State R P T) (id : List ℕ) (key : Key) (request : Request) (rules : R) (life : ℕ) → c.stage ≡ at.Enter id key request rules life → Stands c s → Taken (record c { stage = at.Entering id request rules life }) (served (Enter key) s)
  key_taken c s id key request rules life e h =
      let k = on_plain c s (at.Enter id key request rules life) e (λ x. x) h.stands in
      taken (record c { stage = at.Entering id request rules life }) _ k.0 tt
      (serves (record c { stage = at.Enter id key request rules life }) (record c { stage = at.Entering id request rules life }) s (Enter key) refl refl (λ more ends later. refl) (append-nil (held_by c.hold)) k.1)

  pub begin_taken : (c : ConnView R P T) (s : State R P T) (id : List ℕ) (request : Request) (rules : R) → c.stage ≡ at.Begin id request rules → Stands c s → Taken (record c { stage = at.Begun id }) (served (Begin rules request) s)
  begin_taken c s id request rules e h =
      let k = on_plain c s (at.Begin id request rules) e (λ x. x) h.stands in
      taken (record c { stage = at.Begun id }) _ k.0 tt
      (serves (record c { stage = at.Begin id request rules }) (record c { stage = at.Begun id }) s (Begin rules request) refl refl (λ more ends later. refl) (append-nil (held_by c.hold)) k.1)

  pub retire_taken : (c : ConnView R P T) (s : State R P T) (id : List ℕ) (half : P) → c.stage ≡ at.Retire id half → Stands c s → Taken (record c { stage = at.Retiring id }) (served (Retire half) s)
  retire_taken c s id half e h =
      let k = on_plain c s (at.Retire id half) e (λ x. x) h.stands in
      taken (record c { stage = at.Retiring id }) _ k.0 tt
      (serves (record c { stage = at.Retire id half }) (record c { stage = at.Retiring id }) s (Retire half) refl refl (λ more ends later. refl) (append-nil (held_by c.hold)) k.1)

  pub claim_taken : (c : ConnView R P T) (s : State R P T) (id : List ℕ) (key : Key) (response : Response) → c.stage ≡ at.Resume id key response → Stands c s → Taken (record c { stage = at.Resuming id response }) (served (Resume key) s)
  claim_taken c s id key response e h =
      let k = on_plain c s (at.Resume id key response) e (λ x. x) h.stands in
      taken (record c { stage = at.Resuming id response }) _ k.0 tt
      (serves (record c { stage = at.Resume id key response }) (record c { stage = at.Resuming id response }) s (Resume key) refl refl (λ more ends later. refl) (append-nil (held_by c.hold)) k.1)

  pub finish_taken : (c : ConnView R P T) (s : State R P T) (id : List ℕ) (half : P) (response : Response) → c.stage ≡ at.Finish id half response → Stands c s → Taken (record c { stage = at.Finishing id }) (served (Finish half response) s)
  finish_taken c s id half response e h =
      let k = on_plain c s (at.Finish id half response) e (λ x. x) h.stands in
      taken (record c { stage = at.Finishing id }) _ k.0 tt
      (serves (record c { stage = at.Finish id half response }) (record c { stage = at.Finishing id }) s (Finish half response) refl refl (λ more ends later. refl) (append-nil (held_by c.hold)) k.1)

  pub looked_entry : (c : ConnView R P T) (s : State R P T) (id : List ℕ) (key : Key) (request : Request) (rules : R) (settings : Settings) → c.stage ≡ at.Look id key request → settings.responses ≡ true → Stands c s → Stands (record c { stage = at.Enter id key request rules settings.life }) (replied (Found rules settings) (served (Look key.app) s))
  looked_entry c s id key request rules settings e r h =
      let k = on_plain c s (at.Look id key request) e (λ x. x) h.stands in
      stands (record c { stage = at.Enter id key request rules settings.life }) _ k.0 tt
      (both (record c { stage = at.Look id key request }) (record c { stage = at.Enter id key request rules settings.life }) s (Look key.app) (Found rules settings) refl refl (λ more ends later. rw r refl) (append-nil (held_by c.hold)) k.1)

  pub looked_alone : (c : ConnView R P T) (s : State R P T) (id : List ℕ) (key : Key) (request : Request) (rules : R) (settings : Settings) → c.stage ≡ at.Look id key request → c.hold ≡ None → settings.responses ≡ false → Stands c s → Stands (record c { stage = at.Begin id request rules }) (replied (Found rules settings) (served (Look key.app) s))
  looked_alone c s id key request rules settings e none r h =
      let k = on_plain c s (at.Look id key request) e (λ x. x) h.stands in
      stands (record c { stage = at.Begin id request rules }) _ k.0 tt
      (both (record c { stage = at.Look id key request }) (record c { stage = at.Begin id request rules }) s (Look key.app) (Found rules settings) refl refl (λ more ends later. rw (r, none) refl) (append-nil (held_by c.hold)) k.1)

  pub looked_unknown : (c : ConnView R P T) (s : State R P T) (id : List ℕ) (key : Key) (request : Request) → c.stage ≡ at.Look id key request → Stands c s → Plain (record c { stage = at.Ready; actions = c.actions ++ failed id errors.UnknownApp }) (replied (UnknownApp) (served (Look key.app) s))
  looked_unknown c s id key request e h =
      let k = on_plain c s (at.Look id key request) e (λ x. x) h.stands in
      both (record c { stage = at.Look id key request }) (record c { stage = at.Ready; actions = c.actions ++ failed id errors.UnknownApp }) s (Look key.app) (UnknownApp) refl refl (λ more ends later. refl) (append-nil (held_by c.hold)) k.1

  pub entered_in : (c : ConnView R P T) (s : State R P T) (id : List ℕ) (request : Request) (rules : R) (life : ℕ) (ticket : T) → c.stage ≡ at.Entering id request rules life → c.hold ≡ None → Taken c s → Stands (record c { stage = at.Begin id request rules; hold = Some (record { ticket = ticket; life = life }) }) (replied (Entered ticket) s)
  entered_in c s id request rules life ticket e none h =
      let k = on_plain c s (at.Entering id request rules life) e (λ x. x) h.stands in
      let d = record c { stage = at.Begin id request rules; hold = Some (record { ticket = ticket; life = life }) } in
      stands d _ k.0 tt
      (hears_of (record c { stage = at.Entering id request rules life }) d s (Entered ticket) refl refl (λ more ends later. refl) (ap (λ (o : Option (Hold T)). held_by o ++ ticket ∷ []) none) k.1)

  pub entry_refused : (c : ConnView R P T) (s : State R P T) (id : List ℕ) (request : Request) (rules : R) (life : ℕ) (error : AckError) → c.stage ≡ at.Entering id request rules life → Taken c s → Plain (record c { stage = at.Ready; actions = c.actions ++ failed id error }) (replied (Refused error) s)
  entry_refused c s id request rules life error e h =
      let k = on_plain c s (at.Entering id request rules life) e (λ x. x) h.stands in
      hears_of (record c { stage = at.Entering id request rules life }) (record c { stage = at.Ready; actions = c.actions ++ failed id error }) s (Refused error) refl refl (λ more ends later. refl) (append-nil (held_by c.hold)) k.1

  pub interrupted_in : (c : ConnView R P T) (s : State R P T) (id : List ℕ) (verdict : Verdict) → c.stage ≡ at.Begun id → Taken c s → Stands (record c { stage = at.Leave id verdict }) (replied (Interrupted verdict) s)
  interrupted_in c s id verdict e h =
      let k = on_plain c s (at.Begun id) e (λ x. x) h.stands in
      stands (record c { stage = at.Leave id verdict }) _ k.0 tt
      (hears_of (record c { stage = at.Begun id }) (record c { stage = at.Leave id verdict }) s (Interrupted verdict) refl refl (λ more ends later. refl) (append-nil (held_by c.hold)) k.1)

  pub goes_in : (c : ConnView R P T) (s : State R P T) (id : List ℕ) (half : P) → c.stage ≡ at.Begun id → Taken c s → Stands (record c { stage = at.Park id half }) (replied (Goes half) s)
  goes_in c s id half e h =
      let k = on_plain c s (at.Begun id) e (λ x. x) h.stands in
      stands (record c { stage = at.Park id half }) _ k.0 tt
      (hears_of (record c { stage = at.Begun id }) (record c { stage = at.Park id half }) s (Goes half) refl refl (λ more ends later. refl) (append-nil (held_by c.hold)) k.1)

  pub interrupted_alone : (c : ConnView R P T) (s : State R P T) (id : List ℕ) (verdict : Verdict) → c.stage ≡ at.Begun id → c.hold ≡ None → Taken c s → Plain (record c { stage = at.Ready; actions = c.actions ++ judged id (Some verdict) }) (replied (Interrupted verdict) s)
  interrupted_alone c s id verdict e none h =
      let k = on_plain c s (at.Begun id) e (λ x. x) h.stands in
      hears_of (record c { stage = at.Begun id }) (record c { stage = at.Ready; actions = c.actions ++ judged id (Some verdict) }) s (Interrupted verdict) refl refl (λ more ends later. rw none refl) (append-nil (held_by c.hold)) k.1

  pub goes_alone : (c : ConnView R P T) (s : State R P T) (id : List ℕ) (half : P) → c.stage ≡ at.Begun id → c.hold ≡ None → Taken c s → Stands (record c { stage = at.Retire id half }) (replied (Goes half) s)
  goes_alone c s id half e none h =
      let k = on_plain c s (at.Begun id) e (λ x. x) h.stands in
      stands (record c { stage = at.Retire id half }) _ k.0 tt
      (hears_of (record c { stage = at.Begun id }) (record c { stage = at.Retire id half }) s (Goes half) refl refl (λ more ends later. rw none refl) (append-nil (held_by c.hold)) k.1)

  pub claimed : (c : ConnView R P T) (s : State R P T) (id : List ℕ) (response : Response) (half : P) → c.stage ≡ at.Resuming id response → Taken c s → Stands (record c { stage = at.Finish id half response }) (replied (Resumed half) s)
  claimed c s id response half e h =
      let k = on_plain c s (at.Resuming id response) e (λ x. x) h.stands in
      stands (record c { stage = at.Finish id half response }) _ k.0 tt
      (hears_of (record c { stage = at.Resuming id response }) (record c { stage = at.Finish id half response }) s (Resumed half) refl refl (λ more ends later. refl) (append-nil (held_by c.hold)) k.1)

  pub not_claimed : (c : ConnView R P T) (s : State R P T) (id : List ℕ) (response : Response) → c.stage ≡ at.Resuming id response → Taken c s → Plain (record c { stage = at.Ready; actions = c.actions ++ failed id errors.NotParked }) (replied (NotParked) s)
  not_claimed c s id response e h =
      let k = on_plain c s (at.Resuming id response) e (λ x. x) h.stands in
      hears_of (record c { stage = at.Resuming id response }) (record c { stage = at.Ready; actions = c.actions ++ failed id errors.NotParked }) s (NotParked) refl refl (λ more ends later. refl) (append-nil (held_by c.hold)) k.1

  pub ended_in : (c : ConnView R P T) (s : State R P T) (id : List ℕ) (verdict : Option Verdict) → c.stage ≡ at.Finishing id → Taken c s → Plain (record c { stage = at.Ready; actions = c.actions ++ judged id verdict }) (replied (Ended verdict) s)
  ended_in c s id verdict e h =
      let k = on_plain c s (at.Finishing id) e (λ x. x) h.stands in
      hears_of (record c { stage = at.Finishing id }) (record c { stage = at.Ready; actions = c.actions ++ judged id verdict }) s (Ended verdict) refl refl (λ more ends later. refl) (append-nil (held_by c.hold)) k.1

  -- with this ticket
  held_plain : (c : ConnView R P T) (s : State R P T) (stage : Stage R P) (hold : Hold T) → c.hold ≡ Some hold → Plain (record c { stage = stage }) s → Plain (record c { stage = stage; hold = Some hold }) s
  held_plain c s stage hold is p = subst (λ (o : Option (Hold T)). Plain (record c { stage = stage; hold = o }) s) is p

  pub parked : (c : ConnView R P T) (s : State R P T) (id : List ℕ) (hold : Hold T) (half : P) → c.stage ≡ at.Park id half → c.hold ≡ Some hold → Stands c s → Plain (record c { stage = at.Ready; hold = None; actions = c.actions ++ judged id None }) (served (Park hold.ticket hold.life half) s)
  parked c s id hold half e is h =
      let k = on_plain c s (at.Park id half) e (λ x. x) h.stands in
      serves (record c { stage = at.Park id half; hold = Some hold }) (record c { stage = at.Ready; hold = None; actions = c.actions ++ judged id None }) s (Park hold.ticket hold.life half) refl refl (λ more ends later. refl) refl
      (held_plain c s (at.Park id half) hold is k.1)

  pub retired : (c : ConnView R P T) (s : State R P T) (id : List ℕ) → c.stage ≡ at.Retiring id → Taken c s → Plain (record c { stage = at.Ready; actions = c.actions ++ judged id None }) s
  retired c s id e h =
      let k = on_plain c s (at.Retiring id) e (λ x. x) h.stands in
      stays (record c { stage = at.Retiring id }) (record c { stage = at.Ready; actions = c.actions ++ judged id None }) s refl refl (λ more ends later. refl) (append-nil (held_by c.hold)) k.1

  pub written_on : (c : ConnView R P T) (s : State R P T) (bytes : List ℕ) (then : Option closing.Closing) → c.stage ≡ at.Write bytes then → Stands c s → Plain (record c { stage = after_write then }) (served (Write bytes) s)
  written_on c s bytes None e h =
      let k = on_plain c s (at.Write bytes None) e (λ x. x) h.stands in
      serves (record c { stage = at.Write bytes None }) (record c { stage = at.Bytes }) s (Write bytes) refl refl (λ more ends later. refl) (append-nil (held_by c.hold)) k.1
  written_on c s bytes (Some how) e h =
      let k = on_plain c s (at.Write bytes (Some how)) e (λ x. x) h.stands in
      serves (record c { stage = at.Write bytes (Some how) }) (record c { stage = at.Close how }) s (Write bytes) refl refl (λ more ends later. refl) (append-nil (held_by c.hold)) k.1

  pub left_plain : (c : ConnView R P T) (s : State R P T) (id : List ℕ) (hold : Hold T) (verdict : Verdict) → c.stage ≡ at.Leave id verdict → c.hold ≡ Some hold → Stands c s → Plain (record c { stage = at.Ready; hold = None; actions = c.actions ++ judged id (Some verdict) }) (served (Leave hold.ticket) s)
  left_plain c s id hold verdict e is h =
      let k = on_plain c s (at.Leave id verdict) e (λ x. x) h.stands in
      serves (record c { stage = at.Leave id verdict; hold = Some hold }) (record c { stage = at.Ready; hold = None; actions = c.actions ++ judged id (Some verdict) }) s (Leave hold.ticket) refl refl (λ more ends later. refl) refl
      (held_plain c s (at.Leave id verdict) hold is k.1)

  broken_when : (c : ConnView R P T) (s : State R P T) → c.broken ≡ true → Stands c s → Broken c s
  broken_when c s b h = subst (λ (x : Bool). StandsAs x c s) b h.stands

  -- a need of a broken trace is done
  broken_on : (c d : ConnView R P T) (s : State R P T) (n : Need R P T) → ending c.stage c.hold ≡ n ∷ ending d.stage d.hold → held_by c.hold ≡ spent_in (n ∷ []) ++ held_by d.hold → IsEnding d.stage → Waits d.stage d → d.broken ≡ true → Broken c s → Stands d (served n s)
  broken_on c d s n e t i w b k =
      let broken : Broken d (served n s) = record {
        trace_is = record {
          front = k.trace_is.front;
          rest = k.trace_is.rest;
          whole_is = k.trace_is.whole_is;
          is = append_assoc s.past (n ∷ []) (ending d.stage d.hold) ∙ ap (λ (l : List (Need R P T)). s.past ++ l) (sym e) ∙ k.trace_is.is;
        };
        ending_is = i;
        tickets = k.tickets ∙ ap (λ (l : List T). spent_in s.past ++ l) t ∙ sym (append_assoc (spent_in s.past) (spent_in (n ∷ [])) (held_by d.hold))
            ∙ ap (λ (l : List T). l ++ held_by d.hold) (sym (spent_append s.past (n ∷ [])));
      } in
      record { waits = w; stands = subst (λ (x : Bool). StandsAs x d (served n s)) (sym b) broken }

  pub left_broken : (c : ConnView R P T) (s : State R P T) (hold : Hold T) → c.stage ≡ at.LastLeave → c.hold ≡ Some hold → c.broken ≡ true → Stands c s → Stands (record c { stage = at.LastWrite; hold = None }) (served (Leave hold.ticket) s)
  left_broken c s hold e is b h =
      let k = broken_when (record c { stage = at.LastLeave }) s b (at_stage c s at.LastLeave e h) in
      broken_on (record c { stage = at.LastLeave; hold = Some hold }) (record c { stage = at.LastWrite; hold = None }) s (Leave hold.ticket) refl refl tt b b
      (subst (λ (o : Option (Hold T)). Broken (record c { stage = at.LastLeave; hold = o }) s) is k)

  pub last_written : (c : ConnView R P T) (s : State R P T) → c.stage ≡ at.LastWrite → c.broken ≡ true → Stands c s → Stands (record c { stage = at.Close (closings.Ended 13) }) (served (Write (disconnect 13)) s)
  last_written c s e b h =
      broken_on (record c { stage = at.LastWrite }) (record c { stage = at.Close (closings.Ended 13) }) s (Write (disconnect 13)) refl refl tt tt b
      (broken_when (record c { stage = at.LastWrite }) s b (at_stage c s at.LastWrite e h))

  -- no memory was found: where it held no ticket, or one
  pub fell : (c : ConnView R P T) (s : State R P T) (stage : Stage R P) → c.stage ≡ stage → (IsEnding stage → ⊥) → c.hold ≡ None → StandsAs c.broken c s → Stands (record c { stage = at.LastWrite; broken = true }) s
  fell c s stage e n none h = broke (record c { stage = stage }) (record c { stage = at.LastWrite; broken = true }) s refl refl tt (rw none refl) refl (on_plain c s stage e n h).1

  pub fell_in : (c : ConnView R P T) (s : State R P T) (id : List ℕ) → c.stage ≡ at.Begun id → StandsAs c.broken c s → Stands (record c { stage = at.LastLeave; broken = true }) s
  fell_in c s id e h = broke (record c { stage = at.Begun id }) (record c { stage = at.LastLeave; broken = true }) s refl refl tt refl refl (on_plain c s (at.Begun id) e (λ x. x) h).1

  pub gave_up : (c : ConnView R P T) (s : State R P T) (more : List ℕ) → hears c.stage c.ended ≡ true → Plain c s → Stands (record c { stage = at.LastLeave; broken = true }) (record s { input = s.input ++ more })
  gave_up c s more h p = broke_fed c (record c { stage = at.LastLeave; broken = true }) s more h refl refl tt refl refl p

  pub gave_up_none : (c : ConnView R P T) (s : State R P T) (more : List ℕ) → hears c.stage c.ended ≡ true → c.hold ≡ None → Plain c s → Stands (record c { stage = at.LastWrite; broken = true }) (record s { input = s.input ++ more })
  gave_up_none c s more h none p = broke_fed c (record c { stage = at.LastWrite; broken = true }) s more h refl refl tt (rw none refl) refl p

  waits_on : (stage : Stage R P) (c d : ConnView R P T) → c.broken ≡ d.broken → (stage ≡ at.Bytes → ⊥) → Waits stage c → Waits stage d
  waits_on at.Bytes c d q n w = absurd (n refl)
  waits_on at.Ready c d q n w = w
  waits_on (at.Look id key request) c d q n w = w
  waits_on (at.Enter id key request rules life) c d q n w = w
  waits_on (at.Entering id request rules life) c d q n w = w
  waits_on (at.Begin id request rules) c d q n w = w
  waits_on (at.Begun id) c d q n w = w
  waits_on (at.Park id half) c d q n w = w
  waits_on (at.Leave id verdict) c d q n w = w
  waits_on (at.Retire id half) c d q n w = w
  waits_on (at.Retiring id) c d q n w = w
  waits_on (at.Resume id key response) c d q n w = w
  waits_on (at.Resuming id response) c d q n w = w
  waits_on (at.Finish id half response) c d q n w = w
  waits_on (at.Finishing id) c d q n w = w
  waits_on (at.Write bytes then) c d q n w = w
  waits_on at.LastLeave c d q n w = sym q ∙ w
  waits_on at.LastWrite c d q n w = sym q ∙ w
  waits_on (at.Close how) c d q n w = w

  fed_is : (c : ConnView R P T) (s : State R P T) (piece : List ℕ) → c.broken ≡ false → is_open c.stage ≡ true → fed c piece s ≡ record s { input = s.input ++ piece }
  fed_is c s piece b o = rw (b, o) refl

  shut_is : (c : ConnView R P T) (s : State R P T) → c.broken ≡ false → is_open c.stage ≡ true → shut c s ≡ record s { ended = true }
  shut_is c s b o = rw (b, o) refl

  pub fed_plain : (c : ConnView R P T) (s : State R P T) (piece : List ℕ) → c.broken ≡ false → is_open c.stage ≡ true → Stands c s → Plain (record c { unread = c.unread ++ piece }) (fed c piece s)
  fed_plain c s piece b o k = subst (λ (x : State R P T). Plain (record c { unread = c.unread ++ piece }) x) (sym (fed_is c s piece b o)) (fed_on c s piece (hears_open c.stage c.ended o) (plain_when c s b k))

  pub fed_waiting : (c : ConnView R P T) (s : State R P T) (piece : List ℕ) → c.broken ≡ false → is_open c.stage ≡ true → (c.stage ≡ at.Bytes → ⊥) → Stands c s → Stands (record c { unread = c.unread ++ piece }) (fed c piece s)
  fed_waiting c s piece b o n k = stands (record c { unread = c.unread ++ piece }) (fed c piece s) b (waits_on c.stage c (record c { unread = c.unread ++ piece }) refl n k.waits) (fed_plain c s piece b o k)

  pub fed_broken : (c d : ConnView R P T) (s : State R P T) (piece : List ℕ) → c.broken ≡ false → is_open c.stage ≡ true → Stands d (record s { input = s.input ++ piece }) → Stands d (fed c piece s)
  fed_broken c d s piece b o k = subst (λ (x : State R P T). Stands d x) (sym (fed_is c s piece b o)) k

  pub shut_plain : (c : ConnView R P T) (s : State R P T) → c.broken ≡ false → is_open c.stage ≡ true → Stands c s → Plain (record c { ended = true }) (shut c s)
  shut_plain c s b o k = subst (λ (x : State R P T). Plain (record c { ended = true }) x) (sym (shut_is c s b o)) (shut_on c s o (plain_when c s b k))

  pub shut_waiting : (c : ConnView R P T) (s : State R P T) → c.broken ≡ false → is_open c.stage ≡ true → (c.stage ≡ at.Bytes → ⊥) → Stands c s → Stands (record c { ended = true }) (shut c s)
  shut_waiting c s b o n k = stands (record c { ended = true }) (shut c s) b (waits_on c.stage c (record c { ended = true }) refl n k.waits) (shut_plain c s b o k)

  pub taken_plain : (c : ConnView R P T) (s : State R P T) → Taken c s → (c.broken ≡ false) × Plain c s
  taken_plain c s h = plain_of c.broken c s (taken_open c.stage h.taken).1 h.stands

  pub not_taken : (c : ConnView R P T) (s : State R P T) (stage : Stage R P) → c.stage ≡ stage → (IsTaken stage → ⊥) → Taken c s → ⊥
  not_taken c s stage e n h = n (subst (λ (x : Stage R P). IsTaken x) e h.taken)

  pub fed_taken : (c : ConnView R P T) (s : State R P T) (piece : List ℕ) → Taken c s → StillTaken c (record c { unread = c.unread ++ piece }) (fed c piece s)
  fed_taken c s piece h =
      let p = taken_plain c s h in
      let o = (taken_open c.stage h.taken).0 in
      let fed_to = subst (λ (x : State R P T). Plain (record c { unread = c.unread ++ piece }) x) (sym (fed_is c s piece p.0 o)) (fed_on c s piece (hears_open c.stage c.ended o) p.1) in
      (refl, p.0, taken (record c { unread = c.unread ++ piece }) (fed c piece s) p.0 h.taken fed_to)

  pub shut_taken : (c : ConnView R P T) (s : State R P T) → Taken c s → StillTaken c (record c { ended = true }) (shut c s)
  shut_taken c s h =
      let p = taken_plain c s h in
      let o = (taken_open c.stage h.taken).0 in
      let shut_to = subst (λ (x : State R P T). Plain (record c { ended = true }) x) (sym (shut_is c s p.0 o)) (shut_on c s o p.1) in
      (refl, p.0, taken (record c { ended = true }) (shut c s) p.0 h.taken shut_to)

  may_call : (stage : Stage R P) (b : Bool) (c : ConnView R P T) (s : State R P T) → c.broken ≡ b → Waits stage c → StandsAs b (record c { stage = stage }) s → At (kind_at stage) b stage
  may_call at.Bytes false c s q w p = (tt, refl)
  may_call at.Bytes true c s q w p = absurd p.ending_is
  may_call at.Ready false c s q w p = absurd w
  may_call at.Ready true c s q w p = absurd w
  may_call (at.Look id key request) false c s q w p = (tt, refl)
  may_call (at.Look id key request) true c s q w p = absurd p.ending_is
  may_call (at.Enter id key request rules life) false c s q w p = (tt, refl)
  may_call (at.Enter id key request rules life) true c s q w p = absurd p.ending_is
  may_call (at.Entering id request rules life) false c s q w p = absurd w
  may_call (at.Entering id request rules life) true c s q w p = absurd w
  may_call (at.Begin id request rules) false c s q w p = (tt, refl)
  may_call (at.Begin id request rules) true c s q w p = absurd p.ending_is
  may_call (at.Begun id) false c s q w p = absurd w
  may_call (at.Begun id) true c s q w p = absurd w
  may_call (at.Park id half) false c s q w p = (tt, refl)
  may_call (at.Park id half) true c s q w p = absurd p.ending_is
  may_call (at.Leave id verdict) false c s q w p = (tt, refl)
  may_call (at.Leave id verdict) true c s q w p = absurd p.ending_is
  may_call (at.Retire id half) false c s q w p = (tt, refl)
  may_call (at.Retire id half) true c s q w p = absurd p.ending_is
  may_call (at.Retiring id) false c s q w p = absurd w
  may_call (at.Retiring id) true c s q w p = absurd w
  may_call (at.Resume id key response) false c s q w p = (tt, refl)
  may_call (at.Resume id key response) true c s q w p = absurd p.ending_is
  may_call (at.Resuming id response) false c s q w p = absurd w
  may_call (at.Resuming id response) true c s q w p = absurd w
  may_call (at.Finish id half response) false c s q w p = (tt, refl)
  may_call (at.Finish id half response) true c s q w p = absurd p.ending_is
  may_call (at.Finishing id) false c s q w p = absurd w
  may_call (at.Finishing id) true c s q w p = absurd w
  may_call (at.Write bytes then) false c s q w p = (tt, refl)
  may_call (at.Write bytes then) true c s q w p = absurd p.ending_is
  may_call at.LastLeave false c s q w p = (tt, sym q ∙ w)
  may_call at.LastLeave true c s q w p = (tt, sym q ∙ w)
  may_call at.LastWrite false c s q w p = (tt, sym q ∙ w)
  may_call at.LastWrite true c s q w p = (tt, sym q ∙ w)
  may_call (at.Close how) false c s q w p = tt
  may_call (at.Close how) true c s q w p = tt

  pub at_need : (c : ConnView R P T) (s : State R P T) → Stands c s → At (kind_at c.stage) c.broken c.stage
  at_need c s h = may_call c.stage c.broken c s refl h.waits h.stands

  bytes_only : (stage : Stage R P) (c : ConnView R P T) → Waits stage c → kind_at stage ≡ needs.Bytes → stage ≡ at.Bytes
  bytes_only at.Bytes c w e = refl
  bytes_only at.Ready c w e = absurd w
  bytes_only (at.Look id key request) c w e = absurd cc
  bytes_only (at.Enter id key request rules life) c w e = absurd cc
  bytes_only (at.Entering id request rules life) c w e = absurd cc
  bytes_only (at.Begin id request rules) c w e = absurd cc
  bytes_only (at.Begun id) c w e = absurd cc
  bytes_only (at.Park id half) c w e = absurd cc
  bytes_only (at.Leave id verdict) c w e = absurd cc
  bytes_only (at.Retire id half) c w e = absurd cc
  bytes_only (at.Retiring id) c w e = absurd cc
  bytes_only (at.Resume id key response) c w e = absurd cc
  bytes_only (at.Resuming id response) c w e = absurd cc
  bytes_only (at.Finish id half response) c w e = absurd cc
  bytes_only (at.Finishing id) c w e = absurd cc
  bytes_only (at.Write bytes then) c w e = absurd cc
  bytes_only at.LastLeave c w e = absurd cc
  bytes_only at.LastWrite c w e = absurd cc
  bytes_only (at.Close how) c w e = absurd cc

  pub waits_for_bytes : (c : ConnView R P T) (s : State R P T) → Stands c s → kind_at c.stage ≡ needs.Bytes → WaitsForBytes s
  waits_for_bytes c s h e =
      let b : c.stage ≡ at.Bytes = bytes_only c.stage c h.waits e in
      let w : Waits at.Bytes c = subst (λ (x : Stage R P). Waits x c) b h.waits in
      let k = on_plain c s at.Bytes b (λ x. x) h.stands in
      record {
        on = sym k.1.ended ∙ w.1;
        trace_is = trace_now (record c { stage = at.Bytes }) s k.1.going ∙ (rw (append-nil c.unread, w.0, w.1) refl);
      }
