-- From one state of a connection to the next.
use Rattle.std.proofs.Common.{◌≡◌, inl, inr, ℕ, Bool, true, false, List, [], ◌∷◌, ◌++◌, length, Option, Some, None, refl, sym, ◌∙◌, ap, subst}
use Rattle.std.proofs.lemmas.List.{append-nil}
use Rattle.std.proofs.lemmas.Grind.{flat_map-append}
use Rattle.waf_io.specs.Sink.{Adds}
use Rattle.waf_io.proofs.Adds.{adds_both, adds_none}
use Rattle.conn_core.specs.Calls.{kind_at, out_of}
use Rattle.conn_core.specs.Stands.{ConnView, Stands, State, served}
use Rattle.conn_core.specs.Trace.{Need, Replies, Bytes, Look, Enter, Begin, Park, Leave, Resume, Finish, Retire, Write, Close}
use Rattle.conn_loop.specs.declared.connection.ConnEnd as end
use Rattle.conn_loop.specs.declared.connection.ConnEnd.TheVariants as endings_of
use Rattle.conn_loop.specs.declared.connection.Progress as progress
use Rattle.conn_loop.specs.Answered.{Step, Hosted, Starved, Takes, bytes_of, due, in_full, writes}
use Rattle.conn_loop.specs.Ends.{HasNeeds}
use Rattle.conn_loop.specs.Met.{Forgone, Meets, Met, asks_host, kind_of, met}
use Rattle.conn_loop.specs.Steps.{Acts, Fails, GoesTo, Heard, Progresses, Runs, Same, Written, end_of}
use Rattle.conn_loop.proofs.Answering.{hosted_by, hosted_more, in_full_at, starved_at_look, starved_at_retire, starved_by}
use Rattle.conn_loop.proofs.Meeting.{after, look_or, met_full}

module _ {R P T : Type 0} where
  same : (s : State R P T) → Same s s
  same s = record { size = refl; input = refl; ended = refl }

  same_on : (s t u : State R P T) → Same s t → Same t u → Same s u
  same_on s t u a b = record { size = b.size ∙ a.size; input = b.input ∙ a.input; ended = b.ended ∙ a.ended }

  -- ---- one need

  writes_on : (s : State R P T) (n : Need R P T) (old before now : Option (List ℕ)) → Adds old (writes s.past) before → Adds before (bytes_of n) now → Adds old (writes (s.past ++ n ∷ [])) now
  writes_on s n old before now added adds =
      subst (λ (l : List ℕ). Adds old l now) (ap (λ (l : List ℕ). writes s.past ++ l) (sym (append-nil (bytes_of n))) ∙ sym (flat_map-append bytes_of s.past (n ∷ [])))
      (adds_both old before now (writes s.past) (bytes_of n) added adds)

  -- one that writes nothing
  silent : (s : State R P T) (n : Need R P T) (old held : Option (List ℕ)) → bytes_of n ≡ [] → Adds old (writes s.past) held → Adds old (writes (s.past ++ n ∷ [])) held
  silent s n old held none added = writes_on s n old held held added (subst (λ (l : List ℕ). Adds held l held) (sym none) (adds_none held))

module _ {R P T Desk : Type 0} where
  -- what is asked of a host is no write, and no matter of the loop
  of_host : (serves : Step R P T Desk) (a b : Desk) (n : Need R P T) (mine : Replies R P T) → asks_host (kind_of n) ≡ true → serves a n mine b → Takes serves a n mine b × (bytes_of n ≡ [])
  of_host serves a b Bytes mine asks step = absurd (cc asks)
  of_host serves a b (Look app) mine asks step = (step, refl)
  of_host serves a b (Enter key) mine asks step = (step, refl)
  of_host serves a b (Begin rules request) mine asks step = (step, refl)
  of_host serves a b (Park ticket life half) mine asks step = (step, refl)
  of_host serves a b (Leave ticket) mine asks step = (step, refl)
  of_host serves a b (Resume key) mine asks step = (step, refl)
  of_host serves a b (Finish half response) mine asks step = (step, refl)
  of_host serves a b (Retire half) mine asks step = (step, refl)
  of_host serves a b (Write bytes) mine asks step = absurd (cc asks)
  of_host serves a b (Close how) mine asks step = absurd (cc asks)

  -- a need was done with each reply that is due
  done_so : (serves : Step R P T Desk) (first : Desk) (c d : ConnView R P T) (s : State R P T) (n : Need R P T) (mine : Replies R P T) (a b : Desk) (old held : Option (List ℕ))
      → asks_host (kind_of n) ≡ true → serves a n mine b → length mine ≡ due n → (c.broken ≡ true → (d.broken ≡ true) × (due n ≡ 0))
      → Runs serves first c s a old held → Stands d (met n mine s) → GoesTo serves first s d b old held
  done_so serves first c d s n mine a b old held asks step full stays r stands = record {
    state = after s n mine;
    runs = record {
      stands = subst (λ (t : State R P T). Stands d t) (met_full n mine s full) stands;
      hosted =
          hosted_by c.broken d.broken serves first a b s.past s.replies n mine stays (of_host serves a b n mine asks step).0 (of_host (in_full serves) a b n mine asks (step, full)).0 full r.hosted;
      added = silent s n old held (of_host serves a b n mine asks step).1 r.added;
    };
    same = record { size = refl; input = refl; ended = refl };
  }

  -- memory ran out at it
  starved : (serves : Step R P T Desk) (first : Desk) (c d : ConnView R P T) (s : State R P T) (n : Need R P T) (mine : Replies R P T) (a b : Desk) (old held : Option (List ℕ))
      → asks_host (kind_of n) ≡ true → c.broken ≡ false → d.broken ≡ true → serves a n [] b → Runs serves first c s a old held → Stands d (met n [] s)
      → GoesTo serves first s d b old held
  starved serves first c d s n mine a b old held asks whole broken step r stands = elim (look_or n) [
    | inl is ↦ record {
      state = s;
      runs = record {
        stands = subst (λ (n : Need R P T). Stands d (met n [] s)) is.1 stands;
        hosted =
            subst (λ (e : Bool). Hosted e serves first s.past s.replies b) (sym broken)
            (starved_at_look serves first a b s.past s.replies is.0 (in_full_at c.broken serves first a s.past s.replies whole r.hosted)
            (subst (λ (n : Need R P T). serves a n [] b) is.1 step));
        added = r.added;
      };
      same = same s;
    }
    | inr is ↦ record {
      state = after s n [];
      runs = record {
        stands = subst (λ (t : State R P T). Stands d t) (is [] s) stands;
        hosted =
            subst (λ (e : Bool). Hosted e serves first (s.past ++ n ∷ []) (s.replies ++ []) b) (sym broken)
            (subst (λ (l : Replies R P T). Starved serves first (s.past ++ n ∷ []) l b) (sym (append-nil s.replies))
            (starved_by serves first a b s.past s.replies n (in_full_at c.broken serves first a s.past s.replies whole r.hosted) (of_host serves a b n [] asks step).0));
        added = silent s n old held (of_host serves a b n [] asks step).1 r.added;
      };
      same = record { size = refl; input = refl; ended = refl };
    }
  ]

  -- where none was given, it was out of memory before, or is now
  none_given : (e : Bool) (serves : Step R P T Desk) (first : Desk) (c d : ConnView R P T) (s : State R P T) (a b : Desk) (old held : Option (List ℕ))
      → c.broken ≡ e → (m : Met serves c d a b s) → asks_host (kind_of m.need) ≡ true → m.mine ≡ [] → d.broken ≡ true → Runs serves first c s a old held → GoesTo serves first s d b old held
  none_given true serves first c d s a b old held is m asks none broken r =
      done_so serves first c d s m.need m.mine a b old held asks m.step (ap length none ∙ sym (m.stays is).1) m.stays r m.stands
  none_given false serves first c d s a b old held is m asks none broken r =
      starved serves first c d s m.need m.mine a b old held asks is broken (subst (λ (l : Replies R P T). serves a m.need l b) none m.step) r
      (subst (λ (l : Replies R P T). Stands d (met m.need l s)) none m.stands)

  goes : (serves : Step R P T Desk) (first : Desk) (c d : ConnView R P T) (s : State R P T) (a b : Desk) (old held : Option (List ℕ))
      → asks_host (kind_at c.stage) ≡ true → (m : Met serves c d a b s) → Runs serves first c s a old held → GoesTo serves first s d b old held
  goes serves first c d s a b old held asks m r =
      let asked : asks_host (kind_of m.need) ≡ true = ap asks_host m.kind ∙ asks in
      elim m.replied [
        | inl full ↦ done_so serves first c d s m.need m.mine a b old held asked m.step full m.stays r m.stands
        | inr none ↦ none_given c.broken serves first c d s a b old held refl m asked none.0 none.1 r
      ]

  -- there was no memory to end a request
  forgone : (serves : Step R P T Desk) (first : Desk) (c d : ConnView R P T) (s : State R P T) (a b : Desk) (old held : Option (List ℕ))
      → Forgone c d a b s → Runs serves first c s a old held → GoesTo serves first s d b old held
  forgone serves first c d s a b old held f r = record {
    state = served (Retire f.half) s;
    runs = record {
      stands = f.stands;
      hosted =
          subst (λ (e : Bool). Hosted e serves first (s.past ++ Retire f.half ∷ []) s.replies b) (sym f.broken)
          (subst (λ (z : Desk). Starved serves first (s.past ++ Retire f.half ∷ []) s.replies z) (sym f.desk)
          (starved_at_retire serves first a s.past s.replies f.half (in_full_at c.broken serves first a s.past s.replies f.whole r.hosted)));
      added = silent s (Retire f.half) old held refl r.added;
    };
    same = record { size = refl; input = refl; ended = refl };
  }

  -- a need of the host was met
  pub acts_of : (serves : Step R P T Desk) (c d : ConnView R P T) (a b : Desk) (held : Option (List ℕ)) → asks_host (kind_at c.stage) ≡ true → Meets serves c d a b → Acts serves c d a b held held
  acts_of serves c d a b held asks m = λ first old s r.
      elim (m s r.stands) [
        | inl met ↦ goes serves first c d s a b old held asks met r
        | inr none ↦ forgone serves first c d s a b old held none r
      ]

  -- one to which no reply is due, whole or out of memory
  unanswered : (serves : Step R P T Desk) (first : Desk) (c d : ConnView R P T) (s : State R P T) (n : Need R P T) (a b : Desk) (old before now : Option (List ℕ))
      → Takes serves a n [] b → Takes (in_full serves) a n [] b → (c.broken ≡ true → d.broken ≡ true) → Adds before (bytes_of n) now
      → Runs serves first c s a old before → Stands d (served n s) → GoesTo serves first s d b old now
  unanswered serves first c d s n a b old before now step full stays adds r stands = record {
    state = served n s;
    runs = record {
      stands = stands;
      hosted = hosted_more c.broken d.broken serves first a b s.past s.replies n stays step full r.hosted;
      added = writes_on s n old before now r.added adds;
    };
    same = record { size = refl; input = refl; ended = refl };
  }

  -- what was to be written was written
  pub wrote : (serves : Step R P T Desk) (c d : ConnView R P T) (a : Desk) (before now : Option (List ℕ)) → Written c d before now → Acts serves c d a a before now
  wrote serves c d a before now w = λ first old s r.
      unanswered serves first c d s (Write (out_of c.stage)) a a old before now (refl, refl) (refl, refl) w.stays w.added r (w.next s r.stands)

  -- ---- one step after another

  abbrev goes_on : (serves : Step R P T Desk) (first : Desk) (s t : State R P T) (d : ConnView R P T) (desk : Desk) (old now : Option (List ℕ)) → Same s t → GoesTo serves first t d desk old now → GoesTo serves first s d desk old now
  goes_on serves first s t d desk old now e g = record { state = g.state; runs = g.runs; same = same_on s t g.state e g.same }

  pub acts_on : (serves : Step R P T Desk) (c d e : ConnView R P T) (x y z : Desk) (before mid now : Option (List ℕ))
      → Acts serves c d x y before mid → Acts serves d e y z mid now → Acts serves c e x z before now
  acts_on serves c d e x y z before mid now a b = λ first old s r.
      let g = a first old s r in
      goes_on serves first s g.state e z old now g.same (b first old g.state g.runs)

  pub acts_none : (serves : Step R P T Desk) (c : ConnView R P T) (x : Desk) (held : Option (List ℕ)) → Acts serves c c x x held held
  acts_none serves c x held = λ first old s r. record { state = s; runs = r; same = same s }

  fails_on : (serves : Step R P T Desk) (first : Desk) (s t : State R P T) (desk : Desk) (old now : Option (List ℕ)) → Same s t → Fails serves first t desk old now → Fails serves first s desk old now
  fails_on serves first s t desk old now e f = record {
    past = f.past;
    prefix = f.prefix;
    rest = f.rest;
    later = f.later;
    needs =
        subst (λ (b : Bool). HasNeeds serves first s.size s.input b f.past (f.past ++ Write (f.prefix ++ f.rest) ∷ f.later) desk) e.ended
        (subst (λ (l : List ℕ). HasNeeds serves first s.size l t.ended f.past (f.past ++ Write (f.prefix ++ f.rest) ∷ f.later) desk) e.input
        (subst (λ (n : ℕ). HasNeeds serves first n t.input t.ended f.past (f.past ++ Write (f.prefix ++ f.rest) ∷ f.later) desk) e.size f.needs));
    added = f.added;
  }

  heard_on : (how : Option end.ConnEnd) (serves : Step R P T Desk) (first : Desk) (s t : State R P T) (d : ConnView R P T) (desk : Desk) (old now : Option (List ℕ))
      → Same s t → Heard how serves first t d desk old now → Heard how serves first s d desk old now
  heard_on None serves first s t d desk old now e h = (goes_on serves first s t d desk old now e h.0, h.1, h.2)
  heard_on (Some (endings_of.Closed how)) serves first s t d desk old now e h = (goes_on serves first s t d desk old now e h.0, h.1)
  heard_on (Some endings_of.WriteFault) serves first s t d desk old now e h = fails_on serves first s t desk old now e h
  heard_on (Some endings_of.Spent) serves first s t d desk old now e h = absurd h
  heard_on (Some endings_of.ReadFault) serves first s t d desk old now e h = absurd h
  heard_on (Some endings_of.NoMemory) serves first s t d desk old now e h = absurd h

  pub progresses_on : (how : progress.Progress) (serves : Step R P T Desk) (c d e : ConnView R P T) (x y z : Desk) (before mid now : Option (List ℕ))
      → Acts serves c d x y before mid → Progresses how serves d e y z mid now → Progresses how serves c e x z before now
  progresses_on how serves c d e x y z before mid now a b = λ first old s r.
      let g = a first old s r in
      heard_on (end_of how) serves first s g.state e z old now g.same (b first old g.state g.runs)
