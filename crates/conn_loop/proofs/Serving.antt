-- Serving a connection piece by piece.
use Rattle.std.proofs.Common.{◌≡◌, inl, inr, ℕ, ◌+◌, Bool, true, false, List, [], ◌∷◌, ◌++◌, length, take, drop, map, Option, Some, None, refl, sym, ◌∙◌, ap, subst, append_assoc, cond}
use Rattle.std.proofs.lemmas.List.{append-nil, length-append, take-append-drop}
use Rattle.std.specs.Option.{IfSome}
use Rattle.waf_io.specs.Counts.{one_more}
use Rattle.waf_io.specs.Source.{HandsOver}
use Rattle.waf_io.proofs.Adds.{adds_none}
use Rattle.spop_hello.specs.Frames.{disconnect}
use Rattle.conn_core.specs.declared.need.Closing as closing
use Rattle.conn_core.specs.declared.need.Closing.TheVariants as closings
use Rattle.conn_core.specs.Stands.{Closes, ConnView, IsBroken, Stands, State, WaitsForBytes, fed, is_open, listens, opening, served, shut, spent_in, tickets_in}
use Rattle.conn_core.specs.Trace.{Need, Needs, Replies, Bytes, Leave, Write, Close, held_by, trace}
use Rattle.conn_core.proofs.Standing.{fed_is, shut_is}
use Rattle.conn_loop.specs.declared.connection.ConnEnd as end
use Rattle.conn_loop.specs.declared.connection.ConnEnd.TheVariants as ends
use Rattle.conn_loop.specs.declared.connection.TheConstants.{MOST_BYTES}
use Rattle.conn_loop.specs.Answered.{Step, Hosted}
use Rattle.conn_loop.specs.Ends.{HasEnded, HasNeeds, IsTaken, Serves, Whole, around}
use Rattle.conn_loop.specs.Steps.{EndsHere, Fails, Heard, Hears, IsFree, Runs}
use Rattle.conn_loop.proofs.Answering.{hosted_full, in_full_at}
use Rattle.conn_loop.proofs.Meeting.{served_held, still_held, tickets}

-- ---- a broken trace closes with status 13

abbrev closing_in : {R P T : Type 0} → closing.Closing → Need R P T → closing.Closing
closing_in how (Close closing) = closing
closing_in how other = how

module _ {A : Type 0} where
  abbrev last_of : A → List A → A
  last_of n [] = n
  last_of n (x ∷ xs) = last_of x xs

  last_is : (n : A) (xs : List A) (x : A) → last_of n (xs ++ x ∷ []) ≡ x
  last_is n [] x = refl
  last_is n (y ∷ ys) x = last_is y ys x

  -- two lists that are equal end alike
  ends_alike : (xs front leaves : List A) (a write b : A) → xs ++ a ∷ [] ≡ front ++ (leaves ++ write ∷ b ∷ []) → a ≡ b
  ends_alike xs front leaves a write b is =
      let parts : front ++ (leaves ++ write ∷ []) ++ b ∷ [] ≡ front ++ (leaves ++ write ∷ b ∷ []) =
      append_assoc front (leaves ++ write ∷ []) (b ∷ []) ∙ ap (λ (l : List A). front ++ l) (append_assoc leaves (write ∷ []) (b ∷ [])) in
      sym (last_is a xs a) ∙ ap (last_of a) (is ∙ sym parts) ∙ last_is a (front ++ (leaves ++ write ∷ [])) b

module _ {R P T : Type 0} where
  broken_is_13 : (whole : Needs R P T) (replies : Replies R P T) (past : Needs R P T) (how : closing.Closing) → IsBroken whole replies (past ++ Close how ∷ []) → how ≡ closings.Ended 13
  broken_is_13 whole replies past how b =
      ap (closing_in how)
      (ends_alike past b.front (map Leave (drop (length (spent_in b.front)) (tickets_in replies))) (Close how) (Write (disconnect 13)) (Close (closings.Ended 13)) b.is)

-- ---- what was taken

-- what the source has left, where it tells that
abbrev pub known : Option (List ℕ) → List ℕ
known None = []
known (Some bytes) = bytes

-- nothing more was taken
still_taken : (first left now : Option (List ℕ)) (got rest : List ℕ) → now ≡ left → IsTaken first left got rest → IsTaken first now got rest
still_taken first left now got rest same t = λ input told.
    let x = t input told in
    (same ∙ x.0, x.1)

-- nothing is left
nothing_left : (left : Option (List ℕ)) (rest : List ℕ) → left ≡ Some rest → IfSome left (λ bytes. bytes ≡ []) → rest ≡ []
nothing_left None rest is none = absurd (cc is)
nothing_left (Some bytes) rest is none = (let same : rest ≡ bytes = cc is in same ∙ none)

all_taken : (first left now : Option (List ℕ)) (got rest : List ℕ) → now ≡ left → IfSome left (λ bytes. bytes ≡ []) → IsTaken first left got rest → IsTaken first now got []
all_taken first left now got rest same over t = λ input told.
    let x = t input told in
    let none = nothing_left left rest x.0 over in
    (same ∙ x.0 ∙ ap (λ (l : List ℕ). Some l) none, x.1 ∙ ap (λ (l : List ℕ). got ++ l) none)

-- a piece more
took_more : (first left now : Option (List ℕ)) (buffer piece got rest : List ℕ) (n : ℕ) → IsTaken first left got rest → HandsOver n buffer left now → piece ≡ take n buffer
    → IsTaken first now (got ++ piece) (known now)
took_more first left now buffer piece got rest n t hands is = λ input told.
    let x = t input told in
    let handed = subst (λ (l : Option (List ℕ)). HandsOver n buffer l now) x.0 hands in
    let front : piece ≡ take n rest = is ∙ handed.1 in
    let left_is : known now ≡ drop n rest = ap known handed.2 in (
      handed.2 ∙ ap (λ (l : List ℕ). Some l) (sym left_is),
      x.1 ∙ ap (λ (l : List ℕ). got ++ l) (sym (take-append-drop n rest) ∙ sym (λ i. front i ++ left_is i)) ∙ sym (append_assoc got piece (known now)),
    )

-- ---- between two pieces

module _ {R P T Desk : Type 0} where
  pub record Serving (serves : Step R P T Desk) (size : ℕ) (first : Desk) (from left : Option (List ℕ)) (taken : ℕ) (conn : ConnView R P T) (desk : Desk) (old now : Option (List ℕ)) : Type 0 where
    pub state : State R P T
    pub runs : Runs serves first conn state desk old now
    pub hears : listens conn ≡ true
    pub waits : WaitsForBytes state
    pub size_is : state.size ≡ size
    pub count : length state.input ≡ taken
    pub told : IsTaken from left state.input (known left)

module _ {R P T : Type 0} where
  start_waits : (size : ℕ) → WaitsForBytes {R = R} {P = P} {T = T} (opening size)
  unfolding trace
  start_waits size = record { on = refl; trace_is = refl }

-- what listens isn't broken
unbroken : (b hears : Bool) → cond b false hears ≡ true → b ≡ false
unbroken false hears is = refl
unbroken true hears is = absurd (cc is)

module _ {R P T Desk : Type 0} where
  pub opens : (serves : Step R P T Desk) (size : ℕ) (first : Desk) (told held : Option (List ℕ)) (conn : ConnView R P T) → Stands conn (opening size) → listens conn ≡ true
      → Serving serves size first told told 0 conn first held held
  opens serves size first told held conn stands hears = record {
    state = opening size;
    runs = record { stands = stands; hosted = hosted_full conn.broken serves first first [] [] (refl, refl); added = adds_none held };
    hears = hears;
    waits = start_waits size;
    size_is = refl;
    count = refl;
    told = λ input is. (is ∙ ap (λ (l : List ℕ). Some l) (sym (ap known is)), sym (ap known is));
  }

  -- ---- where a read failed, or as many bytes were taken as ever are

  whole_now : (serves : Step R P T Desk) (size : ℕ) (first : Desk) (from left : Option (List ℕ)) (taken : ℕ) (conn : ConnView R P T) (desk : Desk) (old now : Option (List ℕ))
      → (s : Serving serves size first from left taken conn desk old now) → Whole serves first size s.state.input false s.state.past (s.state.past ++ Bytes ∷ []) desk
  whole_now serves size first from left taken conn desk old now s = record {
    replies = s.state.replies;
    answered = in_full_at conn.broken serves first desk s.state.past s.state.replies (unbroken conn.broken (is_open conn.stage) s.hears) s.runs.hosted;
    trace_is = sym (λ i. trace (s.size_is i) s.state.input (s.waits.on i) s.state.replies) ∙ s.waits.trace_is;
  }

  pub read_fails : (serves : Step R P T Desk) (size : ℕ) (first : Desk) (from left after : Option (List ℕ)) (taken : ℕ) (conn : ConnView R P T) (desk : Desk) (old now : Option (List ℕ)) (ends_old ends_new : ℕ)
      → after ≡ left → ends_new ≡ ends_old → Serving serves size first from left taken conn desk old now → Serves ends.ReadFault serves size (around first from ends_old old) (around desk after ends_new now)
  read_fails serves size first from left after taken conn desk old now ends_old ends_new same on s = record {
    taken = s.state.input;
    rest = known left;
    is_taken = still_taken from left after s.state.input (known left) same s.told;
    goes_on = on;
    past = s.state.past;
    whole = whole_now serves size first from left taken conn desk old now s;
    added = s.runs.added;
  }

  pub spends : (serves : Step R P T Desk) (size : ℕ) (first : Desk) (from left : Option (List ℕ)) (taken : ℕ) (conn : ConnView R P T) (desk : Desk) (old now : Option (List ℕ)) (ends_old ends_new : ℕ)
      → taken ≡ MOST_BYTES → ends_new ≡ ends_old → Serving serves size first from left taken conn desk old now → Serves ends.Spent serves size (around first from ends_old old) (around desk left ends_new now)
  spends serves size first from left taken conn desk old now ends_old ends_new all on s = record {
    taken = s.state.input;
    rest = known left;
    is_taken = s.told;
    goes_on = on;
    many = s.count ∙ all;
    past = s.state.past;
    whole = whole_now serves size first from left taken conn desk old now s;
    added = s.runs.added;
  }

  -- a write failed
  fails_in : (serves : Step R P T Desk) (size : ℕ) (first : Desk) (s : State R P T) (from left : Option (List ℕ)) (rest : List ℕ) (desk : Desk) (old now : Option (List ℕ)) (ends_old ends_new : ℕ)
      → s.size ≡ size → IsTaken from left s.input rest → HasEnded s.ended rest ends_old ends_new → Fails serves first s desk old now
      → Serves ends.WriteFault serves size (around first from ends_old old) (around desk left ends_new now)
  fails_in serves size first s from left rest desk old now ends_old ends_new size_is taken over f = record {
    taken = s.input;
    rest = rest;
    is_taken = taken;
    ended = s.ended;
    has_ended = over;
    past = f.past;
    prefix = f.prefix;
    unwritten = f.rest;
    later = f.later;
    needs = subst (λ (n : ℕ). HasNeeds serves first n s.input s.ended f.past (f.past ++ Write (f.prefix ++ f.rest) ∷ f.later) desk) size_is f.needs;
    added = f.added;
  }

-- the connection closed
module _ {R P T Desk : Type 0} (serves : Step R P T Desk) (size : ℕ) (first : Desk) (d : ConnView R P T) (t : State R P T) (how : closing.Closing) (from left : Option (List ℕ)) (desk : Desk)
    (old now : Option (List ℕ)) (ends_old ends_new : ℕ) (size_is : t.size ≡ size) (runs : Runs serves first d t desk old now) (closes : Closes d t how) where
  whole : (rest : List ℕ) → IsTaken from left t.input rest → HasEnded t.ended rest ends_old ends_new → d.broken ≡ false → trace t.size (t.input ++ rest) true t.replies ≡ t.past ++ Close how ∷ []
      → Serves (ends.Closed how) serves size (around first from ends_old old) (around desk left ends_new now)
  whole rest taken over e is = inl (record {
    taken = t.input;
    rest = rest;
    is_taken = taken;
    ended = t.ended;
    has_ended = over;
    past = t.past;
    heard = record {
      replies = t.replies;
      answered = in_full_at d.broken serves first desk t.past t.replies e runs.hosted;
      trace_is = sym (λ i. trace (size_is i) t.input t.ended t.replies) ∙ closes.plain e;
    };
    whole = record {
      replies = t.replies;
      answered = in_full_at d.broken serves first desk t.past t.replies e runs.hosted;
      trace_is = sym (λ i. trace (size_is i) (t.input ++ rest) true t.replies) ∙ is;
    };
    added = runs.added;
  })

  broken : (rest : List ℕ) → IsTaken from left t.input rest → HasEnded t.ended rest ends_old ends_new → d.broken ≡ true → Serves (ends.Closed how) serves size (around first from ends_old old) (around desk left ends_new now)
  broken rest taken over e =
      let b = closes.broke e in
      let is_13 : how ≡ closings.Ended 13 = broken_is_13 _ t.replies t.past how b in
      inr (
        is_13,
        record {
          taken = t.input;
          rest = rest;
          is_taken = taken;
          ended = t.ended;
          has_ended = over;
          past = t.past;
          broken = record {
            replies = t.replies;
            starved = subst (λ (b : Bool). Hosted b serves first t.past t.replies desk) e runs.hosted;
            is =
                subst (λ (c : closing.Closing). IsBroken (trace size t.input t.ended t.replies) t.replies (t.past ++ Close c ∷ [])) is_13
                (subst (λ (n : ℕ). IsBroken (trace n t.input t.ended t.replies) t.replies (t.past ++ Close how ∷ [])) size_is b);
          };
          added = runs.added;
        },
      )

  on_piece : (b : Bool) → d.broken ≡ b → t.ended ≡ false → (rest : List ℕ) → IsTaken from left t.input rest → HasEnded t.ended rest ends_old ends_new
      → Serves (ends.Closed how) serves size (around first from ends_old old) (around desk left ends_new now)
  on_piece false e goes rest taken over = whole rest taken over e (closes.whatever e goes rest true)
  on_piece true e goes rest taken over = broken rest taken over e

  pub closes_on_piece : t.ended ≡ false → ends_new ≡ ends_old → (rest : List ℕ) → IsTaken from left t.input rest
      → Serves (ends.Closed how) serves size (around first from ends_old old) (around desk left ends_new now)
  closes_on_piece goes on rest taken = on_piece d.broken refl goes rest taken (subst (λ (b : Bool). HasEnded b rest ends_old ends_new) (sym goes) on)

  at_end : (b : Bool) → d.broken ≡ b → t.ended ≡ true → IsTaken from left t.input [] → HasEnded t.ended [] ends_old ends_new
      → Serves (ends.Closed how) serves size (around first from ends_old old) (around desk left ends_new now)
  at_end false e is taken over = whole [] taken over e ((λ i. trace t.size (append-nil t.input i) (sym is i) t.replies) ∙ closes.plain e)
  at_end true e is taken over = broken [] taken over e

  pub closes_at_end : t.ended ≡ true → ends_new ≡ one_more ends_old → IsTaken from left t.input []
      → Serves (ends.Closed how) serves size (around first from ends_old old) (around desk left ends_new now)
  closes_at_end is counted taken = at_end d.broken refl is taken (subst (λ (b : Bool). HasEnded b [] ends_old ends_new) (sym is) (refl, counted))

-- a piece comes
module _ {R P T Desk : Type 0} (serves : Step R P T Desk) (size : ℕ) (first : Desk) (from left after : Option (List ℕ)) (taken n : ℕ) (conn new : ConnView R P T) (desk next : Desk)
    (old mid now : Option (List ℕ)) (buffer piece : List ℕ) (s : Serving serves size first from left taken conn desk old mid) (hands : HandsOver n buffer left after)
    (is : piece ≡ take n buffer) (count : length piece ≡ n) (ends_old ends_new : ℕ) (on : ends_new ≡ ends_old) where
  abbrev fed_at : State R P T
  fed_at = record { size = s.state.size; input = s.state.input ++ piece; ended = s.state.ended; replies = s.state.replies; past = s.state.past }

  at_is : fed conn piece s.state ≡ fed_at
  at_is = fed_is conn s.state piece s.hears

  took : IsTaken from after (s.state.input ++ piece) (known after)
  took = took_more from left after buffer piece s.state.input (known left) n s.told hands is

  pub heard : Hears piece None serves conn new desk next mid now → Serving serves size first from after (taken + n) new next old now
  heard h =
      let x = subst (λ (p : State R P T). Heard None serves first p new next old now) at_is (h first old s.state s.runs) in
      let g = x.0 in
      record {
        state = g.state;
        runs = g.runs;
        hears = x.2;
        waits = x.1;
        size_is = g.same.size ∙ s.size_is;
        count = ap length g.same.input ∙ length-append s.state.input piece ∙ (λ i. s.count i + count i);
        told = subst (λ (l : List ℕ). IsTaken from after l (known after)) (sym g.same.input) took;
      }

  ended_by : (how : end.ConnEnd) → Heard (Some how) serves first fed_at new next old now → Serves how serves size (around first from ends_old old) (around next after ends_new now)
  ended_by (ends.Closed how) x =
      let g = x.0 in
      closes_on_piece serves size first new g.state how from after next old now ends_old ends_new (g.same.size ∙ s.size_is) g.runs x.1 (g.same.ended ∙ s.waits.on) on (known after)
      (subst (λ (l : List ℕ). IsTaken from after l (known after)) (sym g.same.input) took)
  ended_by ends.WriteFault f = fails_in serves size first fed_at from after (known after) next old now ends_old ends_new s.size_is took (subst (λ (b : Bool). HasEnded b (known after) ends_old ends_new) (sym s.waits.on) on) f
  ended_by ends.Spent f = absurd f
  ended_by ends.ReadFault f = absurd f
  ended_by ends.NoMemory f = absurd f

  pub heard_end : (how : end.ConnEnd) → Hears piece (Some how) serves conn new desk next mid now → Serves how serves size (around first from ends_old old) (around next after ends_new now)
  heard_end how h = ended_by how (subst (λ (p : State R P T). Heard (Some how) serves first p new next old now) at_is (h first old s.state s.runs))

-- the input ends
module _ {R P T Desk : Type 0} (serves : Step R P T Desk) (size : ℕ) (first : Desk) (from left after : Option (List ℕ)) (taken : ℕ) (conn d : ConnView R P T) (desk next : Desk)
    (old mid now : Option (List ℕ)) (s : Serving serves size first from left taken conn desk old mid) (ends_old ends_new : ℕ) (counted : ends_new ≡ one_more ends_old) where
  abbrev end_at : State R P T
  end_at = record { size = s.state.size; input = s.state.input; ended = true; replies = s.state.replies; past = s.state.past }

  end_is : shut conn s.state ≡ end_at
  end_is = shut_is conn s.state s.hears

  over_by : (how : end.ConnEnd) → IsTaken from after s.state.input [] → Heard (Some how) serves first end_at d next old now → Serves how serves size (around first from ends_old old) (around next after ends_new now)
  over_by (ends.Closed how) got x =
      let g = x.0 in
      closes_at_end serves size first d g.state how from after next old now ends_old ends_new (g.same.size ∙ s.size_is) g.runs x.1 g.same.ended counted
      (subst (λ (l : List ℕ). IsTaken from after l []) (sym g.same.input) got)
  over_by ends.WriteFault got f = fails_in serves size first end_at from after [] next old now ends_old ends_new s.size_is got (refl, counted) f
  over_by ends.Spent got f = absurd f
  over_by ends.ReadFault got f = absurd f
  over_by ends.NoMemory got f = absurd f

  pub input_ends : (how : end.ConnEnd) → after ≡ left → IfSome left (λ bytes. bytes ≡ []) → EndsHere how serves conn d desk next mid now
      → Serves how serves size (around first from ends_old old) (around next after ends_new now)
  input_ends how same over e =
      over_by how (all_taken from left after s.state.input (known left) same over s.told)
      (subst (λ (p : State R P T). Heard (Some how) serves first p d next old now) end_is (e first old s.state s.runs))

-- ---- the ticket that is held

module _ {R P T : Type 0} where
  -- a connection that has not begun was given no ticket
  pub free_at_first : (size : ℕ) (c : ConnView R P T) → Stands c (opening size) → IsFree c
  free_at_first size c stands = sym (tickets c (opening size) stands)

  free_if : (b : Bool) (c d : ConnView R P T) (s t : State R P T) → t.replies ≡ s.replies → t.past ≡ s.past → Stands c s → Stands d (cond b t s) → held_by c.hold ≡ held_by d.hold
  free_if true c d s t replies past x y = still_held c d s t replies past x y
  free_if false c d s t replies past x y = still_held c d s s refl refl x y

  -- none is given by a piece of the input, or at its end
  pub fed_free : (c d : ConnView R P T) (s : State R P T) (piece : List ℕ) → Stands c s → Stands d (fed c piece s) → IsFree c → IsFree d
  fed_free c d s piece x y free = sym (free_if (listens c) c d s _ refl refl x y) ∙ free

  pub shut_free : (c d : ConnView R P T) (s : State R P T) → Stands c s → Stands d (shut c s) → IsFree c → IsFree d
  shut_free c d s x y free = sym (free_if (listens c) c d s _ refl refl x y) ∙ free

  -- nor by a write
  pub written_free : (c d : ConnView R P T) (s : State R P T) (bytes : List ℕ) → Stands c s → Stands d (served (Write bytes) s) → IsFree c → IsFree d
  written_free c d s bytes x y free = sym (served_held c d s (Write bytes) x y) ∙ free
