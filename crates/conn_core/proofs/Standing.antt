-- What a connection stands for at a write, and while it listens.
use Rattle.std.proofs.Common.{◌≡◌, ℕ, Bool, true, false, cond, List, ◌∷◌, ◌++◌, Some, None, refl, ◌∙◌, ap}
use Rattle.conn_core.specs.declared.need.Need.TheVariants as needs
use Rattle.conn_core.specs.declared.stage.Stage.{Stage}
use Rattle.conn_core.specs.declared.stage.Stage.TheVariants as at
use Rattle.conn_core.specs.Calls.{At, IsAt, is_last, out_of}
use Rattle.conn_core.specs.Stands.{ConnView, IsBroken, Stands, StandsAs, State, fed, is_open, listens, shut}
use Rattle.conn_core.specs.Trace.{Needs, Write, trace}
use Rattle.conn_core.proofs.Inner.{trace_now}

-- where it waits for bytes, it is open
bytes_open : {R P : Type 0} (stage : Stage R P) → IsAt needs.Bytes stage → is_open stage ≡ true
bytes_open at.Bytes h = refl
bytes_open at.Ready h = absurd h
bytes_open (at.Look id key request) h = absurd h
bytes_open (at.Enter id key request rules life) h = absurd h
bytes_open (at.Entering id request rules life) h = absurd h
bytes_open (at.Begin id request rules) h = absurd h
bytes_open (at.Begun id) h = absurd h
bytes_open (at.Park id half) h = absurd h
bytes_open (at.Leave id verdict) h = absurd h
bytes_open (at.Retire id half) h = absurd h
bytes_open (at.Retiring id) h = absurd h
bytes_open (at.Resume id key response) h = absurd h
bytes_open (at.Resuming id response) h = absurd h
bytes_open (at.Finish id half response) h = absurd h
bytes_open (at.Finishing id) h = absurd h
bytes_open at.LastLeave h = absurd h
bytes_open (at.Write bytes then) h = absurd h
bytes_open at.LastWrite h = absurd h
bytes_open (at.Close how) h = absurd h

module _ {R P T : Type 0} where
  -- these bytes are written next, whole or out of memory
  abbrev pub IsNext : Bool → State R P T → List ℕ → Needs R P T → Type 0
  IsNext false s bytes later = trace s.size s.input s.ended s.replies ≡ s.past ++ Write bytes ∷ later
  IsNext true s bytes later = IsBroken (trace s.size s.input s.ended s.replies) s.replies (s.past ++ Write bytes ∷ later)

  next_at : (stage : Stage R P) (b : Bool) (c : ConnView R P T) (s : State R P T) → StandsAs b (record c { stage = stage }) s → IsAt needs.Write stage → b ≡ is_last stage
      → (later : Needs R P T) × IsNext b s (out_of stage) later
  next_at (at.Write bytes None) false c s h w e = (_, trace_now (record c { stage = at.Write bytes None }) s h.going)
  next_at (at.Write bytes (Some how)) false c s h w e = (_, trace_now (record c { stage = at.Write bytes (Some how) }) s h.going)
  next_at (at.Write bytes then) true c s h w e = absurd (cc e)
  next_at at.LastWrite false c s h w e = absurd (cc e)
  next_at at.LastWrite true c s h w e = (_, h.trace_is)
  next_at at.Bytes b c s h w e = absurd w
  next_at at.Ready b c s h w e = absurd w
  next_at (at.Look id key request) b c s h w e = absurd w
  next_at (at.Enter id key request rules life) b c s h w e = absurd w
  next_at (at.Entering id request rules life) b c s h w e = absurd w
  next_at (at.Begin id request rules) b c s h w e = absurd w
  next_at (at.Begun id) b c s h w e = absurd w
  next_at (at.Park id half) b c s h w e = absurd w
  next_at (at.Leave id verdict) b c s h w e = absurd w
  next_at (at.Retire id half) b c s h w e = absurd w
  next_at (at.Retiring id) b c s h w e = absurd w
  next_at (at.Resume id key response) b c s h w e = absurd w
  next_at (at.Resuming id response) b c s h w e = absurd w
  next_at (at.Finish id half response) b c s h w e = absurd w
  next_at (at.Finishing id) b c s h w e = absurd w
  next_at at.LastLeave b c s h w e = absurd w
  next_at (at.Close how) b c s h w e = absurd w

  -- at a write, the needs that are left begin with its bytes
  pub next_write : (c : ConnView R P T) (s : State R P T) → Stands c s → At needs.Write c.broken c.stage → (later : Needs R P T) × IsNext c.broken s (out_of c.stage) later
  next_write c s h w = next_at c.stage c.broken c s h.stands w.0 w.1

  pub listens_at : (c : ConnView R P T) → IsAt needs.Bytes c.stage → c.broken ≡ false → listens c ≡ true
  listens_at c h whole = ap (λ (b : Bool). cond b false (is_open c.stage)) whole ∙ bytes_open c.stage h

  -- what is broken doesn't listen, and stays as it is
  pub broken_stays : (c d : ConnView R P T) → (listens c ≡ false → d ≡ c) → c.broken ≡ true → d.broken ≡ true
  broken_stays c d deaf is = ap (λ (t : ConnView R P T). t.broken) (deaf (ap (λ (b : Bool). cond b false (is_open c.stage)) is)) ∙ is

  -- the input grows, or has ended
  pub fed_is : (c : ConnView R P T) (s : State R P T) (piece : List ℕ) → listens c ≡ true
      → fed c piece s ≡ record { size = s.size; input = s.input ++ piece; ended = s.ended; replies = s.replies; past = s.past }
  fed_is c s piece e = ap (λ (b : Bool). cond b (record { size = s.size; input = s.input ++ piece; ended = s.ended; replies = s.replies; past = s.past }) s) e

  pub shut_is : (c : ConnView R P T) (s : State R P T) → listens c ≡ true
      → shut c s ≡ record { size = s.size; input = s.input; ended = true; replies = s.replies; past = s.past }
  shut_is c s e = ap (λ (b : Bool). cond b (record { size = s.size; input = s.input; ended = true; replies = s.replies; past = s.past }) s) e
