-- What a connection stands for at a write, at its close, and while it listens.
use Rattle.std.proofs.Common.{◌≡◌, inl, inr, ℕ, Bool, true, false, cond, List, ◌∷◌, ◌++◌, Option, refl, sym, ◌∙◌, ap, subst}
use Rattle.waf_io.specs.Sink.{Adds}
use Rattle.waf_io.proofs.Adds.{adds_both}
use Rattle.conn_core.specs.declared.need.Closing as closing
use Rattle.conn_core.specs.declared.need.Need.TheVariants as needs
use Rattle.conn_core.specs.Calls.{At}
use Rattle.conn_core.specs.Stands.{Closes, ConnView, Stands, State, WaitsForBytes, fed, listens, shut}
use Rattle.conn_core.specs.Trace.{Needs, Write}
use Rattle.conn_core.proofs.Standing as standing
use Rattle.conn_core.proofs.Standing.{IsNext, broken_stays, next_write, shut_is}
use Rattle.conn_loop.specs.declared.connection.Progress.TheVariants as progresses
use Rattle.conn_loop.specs.Answered.{Step, Hosted, writes}
use Rattle.conn_loop.specs.Ends.{HasNeeds}
use Rattle.conn_loop.specs.Steps.{CutOff, GoesTo, Progresses, Runs, Same}
use Rattle.conn_loop.proofs.Answering.{hosted_still}

module _ {R P T : Type 0} where
  -- an input that has ended is not waited for
  pub never_waits : (c : ConnView R P T) (s t : State R P T) → listens c ≡ true → Same (shut c s) t → WaitsForBytes t → ⊥
  never_waits c s t hears same waits =
      let over : t.ended ≡ true = same.ended ∙ ap (λ (p : State R P T). p.ended) (shut_is c s hears) in
      absurd (cc (sym over ∙ waits.on))

module _ {R P T Desk : Type 0} where
  -- the needs are those with the host's replies
  has_needs : (b : Bool) (serves : Step R P T Desk) (first : Desk) (s : State R P T) (desk : Desk) (bytes : List ℕ) (later : Needs R P T)
      → Hosted b serves first s.past s.replies desk → IsNext b s bytes later
      → HasNeeds serves first s.size s.input s.ended s.past (s.past ++ Write bytes ∷ later) desk
  has_needs false serves first s desk bytes later h is = inl (record { replies = s.replies; answered = h; trace_is = is })
  has_needs true serves first s desk bytes later h is = inr (record { replies = s.replies; starved = h; is = is })

  -- a write of what is to be written failed after a prefix of it
  pub cut_off : (serves : Step R P T Desk) (c d : ConnView R P T) (a : Desk) (before now : Option (List ℕ)) → At needs.Write c.broken c.stage → CutOff c d before now
      → Progresses progresses.Fails serves c d a a before now
  cut_off serves c d a before now w cut = λ first old s r.
      let next = next_write c s r.stands w in
      record {
        past = s.past;
        prefix = cut.prefix;
        rest = cut.rest;
        later = next.0;
        needs =
            subst (λ (l : List ℕ). HasNeeds serves first s.size s.input s.ended s.past (s.past ++ Write l ∷ next.0) a) (sym cut.is)
            (has_needs c.broken serves first s a _ next.0 r.hosted next.1);
        added = adds_both old before now (writes s.past) cut.prefix r.added cut.added;
      }

  abbrev stays_put : (serves : Step R P T Desk) (first : Desk) (c : ConnView R P T) (s : State R P T) (a : Desk) (old held : Option (List ℕ)) → Runs serves first c s a old held → GoesTo serves first s c a old held
  stays_put serves first c s a old held r = record { state = s; runs = r; same = record { size = refl; input = refl; ended = refl } }

  -- it stands at its close
  pub closes : (serves : Step R P T Desk) (c : ConnView R P T) (how : closing.Closing) (a : Desk) (held : Option (List ℕ)) → ((s : State R P T) → Stands c s → Closes c s how)
      → Progresses (progresses.Closes how) serves c c a a held held
  closes serves c how a held is = λ first old s r. (stays_put serves first c s a old held r, is s r.stands)

  -- it waits for bytes, and listens
  pub waits : (serves : Step R P T Desk) (c : ConnView R P T) (a : Desk) (held : Option (List ℕ)) → At needs.Bytes c.broken c.stage → ((s : State R P T) → Stands c s → WaitsForBytes s)
      → Progresses progresses.Waits serves c c a a held held
  waits serves c a held w is = λ first old s r. (stays_put serves first c s a old held r, is s r.stands, standing.listens_at c w.0 w.1)

  -- what it has said is the same behind a piece, or at the end of the input
  runs_if : (b : Bool) (serves : Step R P T Desk) (first : Desk) (c d : ConnView R P T) (s t : State R P T) (a : Desk) (old held : Option (List ℕ))
      → (c.broken ≡ true → d.broken ≡ true) → t.replies ≡ s.replies → t.past ≡ s.past
      → Runs serves first c s a old held → Stands d (cond b t s) → Runs serves first d (cond b t s) a old held
  runs_if true serves first c d s t a old held stays replies past r stands = record {
    stands = stands;
    hosted =
        subst (λ (l : Needs R P T). Hosted d.broken serves first l t.replies a) (sym past)
        (subst (λ (l : _). Hosted d.broken serves first s.past l a) (sym replies) (hosted_still c.broken d.broken serves first a s.past s.replies stays r.hosted));
    added = subst (λ (l : Needs R P T). Adds old (writes l) held) (sym past) r.added;
  }
  runs_if false serves first c d s t a old held stays replies past r stands = record {
    stands = stands;
    hosted = hosted_still c.broken d.broken serves first a s.past s.replies stays r.hosted;
    added = r.added;
  }

  pub runs_fed : (serves : Step R P T Desk) (first : Desk) (c d : ConnView R P T) (s : State R P T) (piece : List ℕ) (a : Desk) (old held : Option (List ℕ)) → (listens c ≡ false → d ≡ c)
      → Runs serves first c s a old held → Stands d (fed c piece s) → Runs serves first d (fed c piece s) a old held
  runs_fed serves first c d s piece a old held deaf r stands = runs_if (listens c) serves first c d s _ a old held (broken_stays c d deaf) refl refl r stands

  pub runs_shut : (serves : Step R P T Desk) (first : Desk) (c d : ConnView R P T) (s : State R P T) (a : Desk) (old held : Option (List ℕ)) → (listens c ≡ false → d ≡ c)
      → Runs serves first c s a old held → Stands d (shut c s) → Runs serves first d (shut c s) a old held
  runs_shut serves first c d s a old held deaf r stands = runs_if (listens c) serves first c d s _ a old held (broken_stays c d deaf) refl refl r stands
