-- What the machine does between two needs.
use Rattle.std.proofs.Common.{◌≡◌, ◌⊎◌, inl, inr, ℕ, ◌<◌, ◌≤◌, Bool, true, false, cond, not, ◌||◌, Option, Some, None, Ok, Err, List, [], ◌∷◌, ◌++◌, length, drop, map, bytes_eq, refl, sym, ◌∙◌, ap, subst, append_assoc, append-nil, arith}
use Rattle.std.proofs.lemmas.List.{drop_at}
use Rattle.std.proofs.lemmas.Bool.{ne_eqb, lt-ltb, le-ltb}
use Rattle.spop_frame.specs.Head.{NotYet, Bad, Whole, head_of}
use Rattle.spop_frame.specs.declared.frame.Frame.{Frame}
use Rattle.spop_hello.specs.Frames.{agent_hello, disconnect}
use Rattle.spop_hello.specs.Terms.{terms_of}
use Rattle.spop_hello.specs.declared.terms.Terms.{Terms}
use Rattle.spop_talk.specs.Ack.{ack, ack_body}
use Rattle.spop_talk.specs.Reading.{messages_of}
use Rattle.spop_talk.specs.declared.message.Message.{Message}
use Rattle.spop_web.specs.Answer.{request_message, response_message}
use Rattle.spop_web.specs.Reading.{first_bad}
use Rattle.spop_web.specs.Request.{asked_of, request_rules}
use Rattle.spop_web.specs.Response.{told_of, response_rules}
use Rattle.spop_web.specs.Values.{given, identifier_in}
use Rattle.spop_web.specs.declared.argument.Arg.{Arg}
use Rattle.spop_web.specs.declared.argument.Arg.TheVariants as arguments
use Rattle.spop_web.specs.declared.request.Asked.{Asked}
use Rattle.spop_web.specs.declared.response.Told.{Told}
use Rattle.conn_core.specs.declared.need.Closing as closing
use Rattle.conn_core.specs.declared.need.Closing.TheVariants as closings
use Rattle.conn_core.specs.declared.outcome.Outcome.TheVariants as outcomes
use Rattle.conn_core.specs.declared.stage.Hold.{Hold}
use Rattle.conn_core.specs.declared.stage.Stage.{Stage}
use Rattle.conn_core.specs.declared.stage.Stage.TheVariants as at
use Rattle.conn_core.specs.Outcome.{actions_of}
use Rattle.conn_core.specs.Trace.{Need, Leave, Write, Close, Reply, refuse, any_frame, notify, at_end, held_by, leaves, limit_of, is_misplaced, needs_from, trace}
use Rattle.conn_core.specs.Stands.{State, ConnView, left_of, left_with, last, hears, is_held, is_open, Framed, Going, Holds, tickets_in, spent_in, Plain, Broken, IsEnding, StandsAs, Stands, Waits, ending, Closes}
use Rattle.conn_core.specs.Between.{IsBlank}
use Rattle.conn_core.proofs.Steps.{stays, stands, at_stage}
use Rattle.conn_core.proofs.Heads.{bad_more}
use Rattle.conn_core.proofs.Fuel.{at_whole}

same_cond : {A : Type 0} (b : Bool) (x : A) → cond b x x ≡ x
same_cond true x = refl
same_cond false x = refl

or_true : (b : Bool) → (b || true) ≡ true
or_true true = refl
or_true false = refl

or_false : (b : Bool) → (b || false) ≡ b
or_false true = refl
or_false false = refl

module _ {R P : Type 0} where
  pub hears_open : (stage : Stage R P) (ended : Bool) → is_open stage ≡ true → hears stage ended ≡ true
  hears_open at.Bytes ended o = refl
  hears_open at.Ready ended o = refl
  hears_open (at.Look id key request) ended o = refl
  hears_open (at.Enter id key request rules life) ended o = refl
  hears_open (at.Entering id request rules life) ended o = refl
  hears_open (at.Begin id request rules) ended o = refl
  hears_open (at.Begun id) ended o = refl
  hears_open (at.Park id half) ended o = refl
  hears_open (at.Leave id verdict) ended o = refl
  hears_open (at.Retire id half) ended o = refl
  hears_open (at.Retiring id) ended o = refl
  hears_open (at.Resume id key response) ended o = refl
  hears_open (at.Resuming id response) ended o = refl
  hears_open (at.Finish id half response) ended o = refl
  hears_open (at.Finishing id) ended o = refl
  hears_open (at.Write bytes then) ended o = refl
  hears_open at.LastLeave ended o = refl
  hears_open at.LastWrite ended o = refl
  hears_open (at.Close how) ended o = absurd cc

  -- what is blank
  pub blank_is : (stage : Stage R P) → IsBlank stage → (stage ≡ at.Bytes) ⊎ (stage ≡ at.Ready)
  blank_is at.Bytes h = inl refl
  blank_is at.Ready h = inr refl
  blank_is (at.Look id key request) h = absurd h
  blank_is (at.Enter id key request rules life) h = absurd h
  blank_is (at.Entering id request rules life) h = absurd h
  blank_is (at.Begin id request rules) h = absurd h
  blank_is (at.Begun id) h = absurd h
  blank_is (at.Park id half) h = absurd h
  blank_is (at.Leave id verdict) h = absurd h
  blank_is (at.Retire id half) h = absurd h
  blank_is (at.Retiring id) h = absurd h
  blank_is (at.Resume id key response) h = absurd h
  blank_is (at.Resuming id response) h = absurd h
  blank_is (at.Finish id half response) h = absurd h
  blank_is (at.Finishing id) h = absurd h
  blank_is (at.Write bytes then) h = absurd h
  blank_is at.LastLeave h = absurd h
  blank_is at.LastWrite h = absurd h
  blank_is (at.Close how) h = absurd h

  -- and holds no ticket
  pub blank_holds : {T : Type 0} (stage : Stage R P) (hold : Option (Hold T)) → IsBlank stage → Holds stage hold → is_held hold ≡ false
  blank_holds stage hold b h = elim (blank_is stage b) [
    | inl e ↦ subst (λ (x : Stage R P). Holds x hold) e h
    | inr e ↦ subst (λ (x : Stage R P). Holds x hold) e h
  ]

pub none_is : {T : Type 0} (hold : Option (Hold T)) → is_held hold ≡ false → hold ≡ None
none_is None e = refl
none_is (Some hold) e = absurd cc

module _ {R P T : Type 0} where
  -- with nothing more the trace is what was done and what is left
  pub trace_now : (c : ConnView R P T) (s : State R P T) → Going c s → trace s.size s.input s.ended s.replies ≡ s.past ++ left_of c [] c.ended []
  trace_now c s g =
      let input : s.input ++ cond (hears c.stage c.ended) [] [] ≡ s.input = ap (λ (l : List ℕ). s.input ++ l) (same_cond (hears c.stage c.ended) []) ∙ append-nil s.input in
      let ended : (cond (hears c.stage c.ended) false false || s.ended) ≡ s.ended = ap (λ (b : Bool). b || s.ended) (same_cond (hears c.stage c.ended) false) in
      sym (λ i. trace s.size (input i) (ended i) (append-nil s.replies i)) ∙ g.is [] false []

  -- no memory was found, where this was left and held
  broke_with : (d : ConnView R P T) (s : State R P T) (hold : Option (Hold T)) (rest : List (Need R P T)) → trace s.size s.input s.ended s.replies ≡ s.past ++ rest
      → tickets_in s.replies ≡ spent_in s.past ++ held_by hold → d.broken ≡ true → Waits d.stage d → IsEnding d.stage
      → ending d.stage d.hold ≡ leaves hold ++ last → d.hold ≡ hold → Stands d s
  broke_with d s hold rest whole tickets b w i e same =
      let open_tickets : drop (length (spent_in s.past)) (tickets_in s.replies) ≡ held_by hold =
      ap (λ (l : List T). drop (length (spent_in s.past)) l) tickets ∙ drop_at (spent_in s.past) (held_by hold) (length (spent_in s.past)) refl in
      let broken : Broken d s = record {
        trace_is = record {
          front = s.past;
          rest = rest;
          whole_is = whole;
          is = ap (λ (l : List (Need R P T)). s.past ++ l) (e ∙ ap (λ (l : List T). map Leave l ++ last) (sym open_tickets));
        };
        ending_is = i;
        tickets = tickets ∙ ap (λ (o : Option (Hold T)). spent_in s.past ++ held_by o) (sym same);
      } in
      record { waits = w; stands = subst (λ (x : Bool). StandsAs x d s) (sym b) broken }

  pub broke : (c d : ConnView R P T) (s : State R P T) → d.broken ≡ true → Waits d.stage d → IsEnding d.stage → ending d.stage d.hold ≡ leaves c.hold ++ last → d.hold ≡ c.hold → Plain c s → Stands d s
  broke c d s b w i e same p = broke_with d s c.hold (left_of c [] c.ended []) (trace_now c s p.going) p.tickets b w i e same

  -- where it holds no ticket
  fallen_with : (d : ConnView R P T) (s : State R P T) (hold : Option (Hold T)) (rest : List (Need R P T)) → trace s.size s.input s.ended s.replies ≡ s.past ++ rest
      → tickets_in s.replies ≡ spent_in s.past ++ held_by hold → d.stage ≡ at.LastWrite → d.broken ≡ true → d.hold ≡ hold → hold ≡ None → Stands d s
  fallen_with d s hold rest whole tickets e b same t =
      broke_with d s hold rest whole tickets b (subst (λ (x : Stage R P). Waits x d) (sym e) b) (subst (λ (x : Stage R P). IsEnding x) (sym e) tt)
      (ap (λ (x : Stage R P). ending x d.hold) e ∙ ap (λ (o : Option (Hold T)). leaves o ++ last) (sym t))
      same

  pub fallen : (c d : ConnView R P T) (s : State R P T) → d.stage ≡ at.LastWrite → d.broken ≡ true → d.hold ≡ c.hold → c.hold ≡ None → Plain c s → Stands d s
  fallen c d s e b same t p = fallen_with d s c.hold (left_of c [] c.ended []) (trace_now c s p.going) p.tickets e b same t

  -- at a frame that was taken off
  pub fallen_at : (f : Frame) (c d : ConnView R P T) (s : State R P T) → d.stage ≡ at.LastWrite → d.broken ≡ true → d.hold ≡ c.hold → c.hold ≡ None → Framed f c s → Stands d s
  fallen_at f c d s e b same t p =
      let rest = any_frame {R = R} {P = P} {T = T} c.size c.agreed (λ agreed. needs_from c.size agreed (c.unread ++ []) c.ended) f [] in
      let whole : trace s.size s.input s.ended s.replies ≡ s.past ++ rest = sym (λ i. trace s.size (append-nil s.input i) s.ended (append-nil s.replies i)) ∙ p.is [] false [] in
      fallen_with d s c.hold rest whole p.tickets e b same t

  -- no memory was found for a piece of the input
  pub broke_fed : (c d : ConnView R P T) (s : State R P T) (piece : List ℕ) → hears c.stage c.ended ≡ true → d.broken ≡ true → Waits d.stage d → IsEnding d.stage
      → ending d.stage d.hold ≡ leaves c.hold ++ last → d.hold ≡ c.hold → Plain c s → Stands d (record s { input = s.input ++ piece })
  broke_fed c d s piece h b w i e same p =
      let open_tickets : drop (length (spent_in s.past)) (tickets_in s.replies) ≡ held_by c.hold =
      ap (λ (l : List T). drop (length (spent_in s.past)) l) p.tickets ∙ drop_at (spent_in s.past) (held_by c.hold) (length (spent_in s.past)) refl in
      let was : trace s.size (s.input ++ piece) (false || s.ended) (s.replies ++ []) ≡ s.past ++ left_of c piece (false || c.ended) [] =
      subst (λ (x : Bool). trace s.size (s.input ++ cond x piece []) (cond x false false || s.ended) (s.replies ++ []) ≡ s.past ++ left_of c piece (false || c.ended) []) h (p.going.is piece false []) in
      let broken : Broken d (record s { input = s.input ++ piece }) = record {
        trace_is = record {
          front = s.past;
          rest = left_of c piece c.ended [];
          whole_is = ap (λ (l : List (Reply R P T)). trace s.size (s.input ++ piece) s.ended l) (sym (append-nil s.replies)) ∙ was;
          is = ap (λ (l : List (Need R P T)). s.past ++ l) (e ∙ ap (λ (l : List T). map Leave l ++ last) (sym open_tickets));
        };
        ending_is = i;
        tickets = p.tickets ∙ ap (λ (o : Option (Hold T)). spent_in s.past ++ held_by o) (sym same);
      } in
      record { waits = w; stands = subst (λ (x : Bool). StandsAs x d (record s { input = s.input ++ piece })) (sym b) broken }

  -- a piece of the input comes
  pub fed_on : (c : ConnView R P T) (s : State R P T) (piece : List ℕ) → hears c.stage c.ended ≡ true → Plain c s → Plain (record c { unread = c.unread ++ piece }) (record s { input = s.input ++ piece })
  fed_on c s piece h p = record {
    going = record {
      is = λ more ends later.
          let was : trace s.size (s.input ++ (piece ++ more)) (ends || s.ended) (s.replies ++ later) ≡ s.past ++ left_of c (piece ++ more) (ends || c.ended) later =
          subst (λ (x : Bool). trace s.size (s.input ++ cond x (piece ++ more) []) (cond x ends false || s.ended) (s.replies ++ later) ≡ s.past ++ left_of c (piece ++ more) (ends || c.ended) later) h (p.going.is (piece ++ more) ends later) in
          let now : trace s.size ((s.input ++ piece) ++ more) (ends || s.ended) (s.replies ++ later) ≡ s.past ++ left_with c ((c.unread ++ piece) ++ more) (ends || c.ended) later =
          ap (λ (l : List ℕ). trace s.size l (ends || s.ended) (s.replies ++ later)) (append_assoc s.input piece more) ∙ was
          ∙ ap (λ (l : List ℕ). s.past ++ left_with c l (ends || c.ended) later) (sym (append_assoc c.unread piece more)) in
          subst (λ (x : Bool). trace s.size ((s.input ++ piece) ++ cond x more []) (cond x ends false || s.ended) (s.replies ++ later) ≡ s.past ++ left_with c ((c.unread ++ piece) ++ more) (ends || c.ended) later) (sym h) now;
    };
    tickets = p.tickets;
    ended = p.ended;
  }

  -- the input ends
  pub shut_on : (c : ConnView R P T) (s : State R P T) → is_open c.stage ≡ true → Plain c s → Plain (record c { ended = true }) (record s { ended = true })
  shut_on c s o p = record {
    going = record {
      is = λ more ends later.
          let was : trace s.size (s.input ++ more) true (s.replies ++ later) ≡ s.past ++ left_of c more true later =
          subst (λ (x : Bool). trace s.size (s.input ++ cond x more []) (cond x true false || s.ended) (s.replies ++ later) ≡ s.past ++ left_of c more true later) (hears_open c.stage c.ended o) (p.going.is more true later) in
          let now : trace s.size (s.input ++ more) (ends || true) (s.replies ++ later) ≡ s.past ++ left_with c (c.unread ++ more) (ends || true) later =
          rw (or_true ends) was in
          subst (λ (x : Bool). trace s.size (s.input ++ cond x more []) (cond x ends false || true) (s.replies ++ later) ≡ s.past ++ left_with c (c.unread ++ more) (ends || true) later) (sym (hears_open c.stage true o)) now;
    };
    tickets = p.tickets;
    ended = refl;
  }

  pub closes : (c : ConnView R P T) (s : State R P T) (how : closing.Closing) → c.stage ≡ at.Close how → Stands c s → Closes c s how
  closes c s how e h =
      let here : ConnView R P T = record c { stage = at.Close how } in
      record {
        plain = λ b. let k : Plain here s = subst (λ (x : Bool). StandsAs x here s) b (at_stage c s (at.Close how) e h).stands in
            trace_now here s k.going;
        whatever = λ b on more ends.
            let k : Plain here s = subst (λ (x : Bool). StandsAs x here s) b (at_stage c s (at.Close how) e h).stands in
            let was : trace s.size (s.input ++ cond (not c.ended) more []) (cond (not c.ended) ends false || s.ended) (s.replies ++ []) ≡ s.past ++ Close how ∷ [] = k.going.is more ends [] in
            let heard : trace s.size (s.input ++ more) (ends || s.ended) (s.replies ++ []) ≡ s.past ++ Close how ∷ [] =
            subst (λ (x : Bool). trace s.size (s.input ++ cond (not x) more []) (cond (not x) ends false || s.ended) (s.replies ++ []) ≡ s.past ++ Close how ∷ []) (k.ended ∙ on) was in
            let ended : (ends || s.ended) ≡ ends = ap (λ (x : Bool). ends || x) on ∙ or_false ends in
            sym (λ i. trace s.size (s.input ++ more) (ended i) (append-nil s.replies i)) ∙ heard;
        broke = λ b. let k : Broken here s = subst (λ (x : Bool). StandsAs x here s) b (at_stage c s (at.Close how) e h).stands in k.trace_is;
      }

  pub plain_at : (c : ConnView R P T) (s : State R P T) (stage : Stage R P) → c.stage ≡ stage → Plain c s → Plain (record c { stage = stage }) s
  plain_at c s stage e h = subst (λ (x : Stage R P). Plain (record c { stage = x }) s) e h

  -- a frame, by its type
  module _ (size : ℕ) (k : Option ℕ → List (Reply R P T) → List (Need R P T)) (f : Frame) (later : List (Reply R P T)) where
    frame_two : (agreed : Option ℕ) → f.kind ≡ 2 → any_frame size agreed k f later ≡ Write (disconnect 0) ∷ Close closings.Done ∷ []
    frame_two None e = rw e refl
    frame_two (Some a) e = rw e refl

    frame_hello : (agreed : Option ℕ) (t : Terms) (check : Bool) → agreed ≡ None → f.kind ≡ 1 → terms_of size f.payload ≡ Ok t → t.check ≡ check
        → any_frame size agreed k f later ≡ Write (agent_hello t) ∷ cond check (Close closings.Done ∷ []) (k (Some t.size) later)
    frame_hello None t check a e q c = rw (e, q, c) refl
    frame_hello (Some x) t check a e q c = absurd cc

    frame_status : (agreed : Option ℕ) (status : ℕ) → agreed ≡ None → f.kind ≡ 1 → terms_of size f.payload ≡ Err status → any_frame size agreed k f later ≡ refuse status
    frame_status None status a e q = rw (e, q) refl
    frame_status (Some x) status a e q = absurd cc

    frame_early : (agreed : Option ℕ) → agreed ≡ None → (f.kind ≡ 2 → ⊥) → (f.kind ≡ 1 → ⊥) → any_frame size agreed k f later ≡ refuse 4
    frame_early None a two one = rw (ne_eqb f.kind 2 two, ne_eqb f.kind 1 one) refl
    frame_early (Some x) a two one = absurd cc

    frame_notify : (agreed : Option ℕ) (a : ℕ) → agreed ≡ Some a → f.kind ≡ 3 → any_frame size agreed k f later ≡ notify a f (k agreed) (messages_of f.payload) later
    frame_notify None a h e = absurd cc
    frame_notify (Some x) a h e = let same : x ≡ a = cc in rw (e, same) refl

    frame_misplaced : (agreed : Option ℕ) (a : ℕ) → agreed ≡ Some a → (f.kind ≡ 2 → ⊥) → (f.kind ≡ 3 → ⊥) → is_misplaced f.kind ≡ true → any_frame size agreed k f later ≡ refuse 4
    frame_misplaced None a h two three e = absurd cc
    frame_misplaced (Some x) a h two three e = rw (ne_eqb f.kind 2 two, ne_eqb f.kind 3 three, e) refl

    frame_other : (agreed : Option ℕ) (a : ℕ) → agreed ≡ Some a → (f.kind ≡ 2 → ⊥) → (f.kind ≡ 3 → ⊥) → is_misplaced f.kind ≡ false → any_frame size agreed k f later ≡ k agreed later
    frame_other None a h two three e = absurd cc
    frame_other (Some x) a h two three e = rw (ne_eqb f.kind 2 two, ne_eqb f.kind 3 three, e) refl

  -- from a frame that was taken off
  framed_on : (c d : ConnView R P T) (s : State R P T) (f : Frame) → d.ended ≡ c.ended → d.hold ≡ c.hold → hears d.stage d.ended ≡ true
      → ((more : List ℕ) (ends : Bool) (later : List (Reply R P T)) →
      any_frame c.size c.agreed (λ agreed. needs_from c.size agreed (c.unread ++ more) (ends || c.ended)) f later ≡ left_of d more (ends || d.ended) later)
      → Framed f c s → Plain d s
  framed_on c d s f same hold h m p = record {
    going = record {
      is = λ more ends later.
          subst (λ (b : Bool). trace s.size (s.input ++ cond b more []) (cond b ends false || s.ended) (s.replies ++ later) ≡ s.past ++ left_of d more (ends || d.ended) later) (sym h)
          (p.is more ends later ∙ ap (λ (l : List (Need R P T)). s.past ++ l) (m more ends later));
    };
    tickets = p.tickets ∙ ap (λ (o : Option (Hold T)). spent_in s.past ++ held_by o) (sym hold);
    ended = same ∙ p.ended;
  }

  module _ (c : ConnView R P T) (s : State R P T) (f : Frame) where
    pub take_two : f.kind ≡ 2 → Framed f c s → Plain (record c { stage = at.Write (disconnect 0) (Some closings.Done) }) s
    take_two e p = framed_on c (record c { stage = at.Write (disconnect 0) (Some closings.Done) }) s f refl refl refl (λ more ends later. frame_two c.size _ f later c.agreed e) p

    pub take_check : (t : Terms) → c.agreed ≡ None → f.kind ≡ 1 → terms_of c.size f.payload ≡ Ok t → t.check ≡ true → Framed f c s → Plain (record c { stage = at.Write (agent_hello t) (Some closings.Done) }) s
    take_check t a e q y p = framed_on c (record c { stage = at.Write (agent_hello t) (Some closings.Done) }) s f refl refl refl (λ more ends later. frame_hello c.size _ f later c.agreed t true a e q y) p

    pub take_hello : (t : Terms) → c.agreed ≡ None → f.kind ≡ 1 → terms_of c.size f.payload ≡ Ok t → t.check ≡ false → Framed f c s → Plain (record c { stage = at.Write (agent_hello t) None; agreed = Some t.size }) s
    take_hello t a e q y p = framed_on c (record c { stage = at.Write (agent_hello t) None; agreed = Some t.size }) s f refl refl refl (λ more ends later. frame_hello c.size _ f later c.agreed t false a e q y) p

    pub take_status : (status : ℕ) → c.agreed ≡ None → f.kind ≡ 1 → terms_of c.size f.payload ≡ Err status → Framed f c s → Plain (record c { stage = at.Write (disconnect status) (Some (closings.Ended status)) }) s
    take_status status a e q p = framed_on c (record c { stage = at.Write (disconnect status) (Some (closings.Ended status)) }) s f refl refl refl (λ more ends later. frame_status c.size _ f later c.agreed status a e q) p

    pub take_early : c.agreed ≡ None → (f.kind ≡ 2 → ⊥) → (f.kind ≡ 1 → ⊥) → Framed f c s → Plain (record c { stage = at.Write (disconnect 4) (Some (closings.Ended 4)) }) s
    take_early a two one p = framed_on c (record c { stage = at.Write (disconnect 4) (Some (closings.Ended 4)) }) s f refl refl refl (λ more ends later. frame_early c.size _ f later c.agreed a two one) p

    pub take_misplaced : (a : ℕ) → c.agreed ≡ Some a → (f.kind ≡ 2 → ⊥) → (f.kind ≡ 3 → ⊥) → is_misplaced f.kind ≡ true → Framed f c s → Plain (record c { stage = at.Write (disconnect 4) (Some (closings.Ended 4)) }) s
    take_misplaced a h two three e p = framed_on c (record c { stage = at.Write (disconnect 4) (Some (closings.Ended 4)) }) s f refl refl refl (λ more ends later. frame_misplaced c.size _ f later c.agreed a h two three e) p

    pub take_other : (a : ℕ) → c.agreed ≡ Some a → (f.kind ≡ 2 → ⊥) → (f.kind ≡ 3 → ⊥) → is_misplaced f.kind ≡ false → Framed f c s → Plain (record c { stage = at.Bytes }) s
    take_other a h two three e p = framed_on c (record c { stage = at.Bytes }) s f refl refl refl (λ more ends later. frame_other c.size _ f later c.agreed a h two three e) p

    limit_past : (agreed : Option ℕ) (a : ℕ) → agreed ≡ Some a → limit_of c.size agreed ≡ a
    limit_past None a h = absurd cc
    limit_past (Some x) a h = cc

    pub take_garbled : (a : ℕ) → c.agreed ≡ Some a → f.kind ≡ 3 → messages_of f.payload ≡ None → Framed f c s → Plain (record c { stage = at.Write (disconnect 4) (Some (closings.Ended 4)) }) s
    take_garbled a h e m p = framed_on c (record c { stage = at.Write (disconnect 4) (Some (closings.Ended 4)) }) s f refl refl refl
        (λ more ends later. frame_notify c.size _ f later c.agreed a h e ∙ (rw m refl)) p

    pub take_messages : (a : ℕ) (ms : List Message) → c.agreed ≡ Some a → f.kind ≡ 3 → messages_of f.payload ≡ Some ms → Framed f c s → Plain (record c { stage = at.Ready; stream = f.stream; frame = f.frame; left = ms; actions = [] }) s
    take_messages a ms h e m p = framed_on c (record c { stage = at.Ready; stream = f.stream; frame = f.frame; left = ms; actions = [] }) s f refl refl refl
        (λ more ends later. frame_notify c.size _ f later c.agreed a h e ∙ (rw (m, limit_past c.agreed a h) refl)) p

  -- at the next message
  module _ (c : ConnView R P T) (s : State R P T) (ready : c.stage ≡ at.Ready) where
    pub too_big : c.left ≡ [] → limit_of c.size c.agreed < length (ack_body c.stream c.frame c.actions) → Plain c s → Plain (record c { stage = at.Write (disconnect 3) (Some (closings.Ended 3)) }) s
    too_big l b p = stays (record c { stage = at.Ready }) (record c { stage = at.Write (disconnect 3) (Some (closings.Ended 3)) }) s refl refl
        (λ more ends later. rw (l, lt-ltb (limit_of c.size c.agreed) (length (ack_body c.stream c.frame c.actions)) b) refl) (append-nil (held_by c.hold)) (plain_at c s at.Ready ready p)

    pub acked : c.left ≡ [] → length (ack_body c.stream c.frame c.actions) ≤ limit_of c.size c.agreed → Plain c s → Plain (record c { stage = at.Write (ack c.stream c.frame c.actions) None }) s
    acked l b p = stays (record c { stage = at.Ready }) (record c { stage = at.Write (ack c.stream c.frame c.actions) None }) s refl refl
        (λ more ends later. rw (l, le-ltb (limit_of c.size c.agreed) (length (ack_body c.stream c.frame c.actions)) b) refl) (append-nil (held_by c.hold)) (plain_at c s at.Ready ready p)

    module _ (m : Message) where
      abbrev before : ConnView R P T
      before = record c { left = m ∷ c.left }

      at_ready : Plain before s → Plain (record c { stage = at.Ready; left = m ∷ c.left }) s
      at_ready p = plain_at before s at.Ready ready p

      pub skipped : bytes_eq m.name request_message ≡ false → bytes_eq m.name response_message ≡ false → Plain before s → Plain c s
      skipped q r p =
          subst (λ (x : Stage R P). Plain (record c { stage = x }) s) (sym ready)
          (stays (record c { stage = at.Ready; left = m ∷ c.left }) (record c { stage = at.Ready }) s refl refl
          (λ more ends later. rw (q, r, append-nil c.actions) refl) (append-nil (held_by c.hold)) (at_ready p))

      pub request_bad : (arg : Arg) (id : Option (List ℕ)) → bytes_eq m.name request_message ≡ true → first_bad request_rules m.args ≡ Some arg
          → id ≡ identifier_in (given arguments.Id m.args) → Plain before s → Plain (record c { stage = at.Ready; actions = c.actions ++ actions_of id (outcomes.Bad arg) }) s
      request_bad arg id q b i p = stays (record c { stage = at.Ready; left = m ∷ c.left }) (record c { stage = at.Ready; actions = c.actions ++ actions_of id (outcomes.Bad arg) }) s refl refl
          (λ more ends later. rw (q, b, i) refl) (append-nil (held_by c.hold)) (at_ready p)

      pub request_good : (asked : Asked) → bytes_eq m.name request_message ≡ true → first_bad request_rules m.args ≡ None
          → asked ≡ asked_of m.args → Plain before s → Plain (record c { stage = at.Look asked.request.id (record { app = asked.app; id = asked.request.id }) asked.request }) s
      request_good asked q b i p = stays (record c { stage = at.Ready; left = m ∷ c.left }) (record c { stage = at.Look asked.request.id (record { app = asked.app; id = asked.request.id }) asked.request }) s refl refl
          (λ more ends later. rw (q, b, i) refl) (append-nil (held_by c.hold)) (at_ready p)

      pub response_bad : (arg : Arg) (id : Option (List ℕ)) → bytes_eq m.name request_message ≡ false → bytes_eq m.name response_message ≡ true → first_bad response_rules m.args ≡ Some arg
          → id ≡ identifier_in (given arguments.Id m.args) → Plain before s → Plain (record c { stage = at.Ready; actions = c.actions ++ actions_of id (outcomes.Bad arg) }) s
      response_bad arg id o q b i p = stays (record c { stage = at.Ready; left = m ∷ c.left }) (record c { stage = at.Ready; actions = c.actions ++ actions_of id (outcomes.Bad arg) }) s refl refl
          (λ more ends later. rw (o, q, b, i) refl) (append-nil (held_by c.hold)) (at_ready p)

      pub response_good : (told : Told) → bytes_eq m.name request_message ≡ false → bytes_eq m.name response_message ≡ true → first_bad response_rules m.args ≡ None
          → told ≡ told_of m.args → Plain before s → Plain (record c { stage = at.Resume told.id (record { app = told.app; id = told.id }) told.response }) s
      response_good told o q b i p = stays (record c { stage = at.Ready; left = m ∷ c.left }) (record c { stage = at.Resume told.id (record { app = told.app; id = told.id }) told.response }) s refl refl
          (λ more ends later. rw (o, q, b, i) refl) (append-nil (held_by c.hold)) (at_ready p)

  -- at the next frame
  module _ (c : ConnView R P T) (s : State R P T) (bytes : c.stage ≡ at.Bytes) where
    pub shut_down : (how : closing.Closing) → head_of (limit_of c.size c.agreed) c.unread ≡ NotYet → c.ended ≡ true → at_end {R = R} {P = P} {T = T} true c.unread ≡ Close how ∷ [] → Plain c s → Plain (record c { stage = at.Close how }) s
    shut_down how h t e p = stays (record c { stage = at.Bytes }) (record c { stage = at.Close how }) s refl refl
        (λ more ends later. rw (t, append-nil c.unread, h) e) (append-nil (held_by c.hold)) (plain_at c s at.Bytes bytes p)

    pub waiting : head_of (limit_of c.size c.agreed) c.unread ≡ NotYet → c.ended ≡ false → c.broken ≡ false → Plain c s → Stands c s
    waiting h t b p = stands c s b (subst (λ (x : Stage R P). Waits x c) (sym bytes) (h, t)) p

    pub head_bad : (status : ℕ) → head_of (limit_of c.size c.agreed) c.unread ≡ Bad status → Plain c s → Plain (record c { stage = at.Write (disconnect status) (Some (closings.Ended status)) }) s
    head_bad status h p = stays (record c { stage = at.Bytes }) (record c { stage = at.Write (disconnect status) (Some (closings.Ended status)) }) s refl refl
        (λ more ends later. rw (bad_more (limit_of c.size c.agreed) c.unread more status h) refl) (append-nil (held_by c.hold)) (plain_at c s at.Bytes bytes p)

    pub head_whole : (f : Frame) (r : List ℕ) → head_of (limit_of c.size c.agreed) c.unread ≡ Whole f r → Plain c s → Framed f (record c { unread = r }) s
    head_whole f r h p =
        let k = plain_at c s at.Bytes bytes p in
        record {
          is = λ more ends later. k.going.is more ends later ∙ ap (λ (l : List (Need R P T)). s.past ++ l) (at_whole c.size c.agreed c.unread more (ends || c.ended) f r later h);
          tickets = p.tickets;
          ended = p.ended;
        }

  pub end_empty : (u : List ℕ) → length u ≡ 0 → at_end {R = R} {P = P} {T = T} true u ≡ Close closings.Done ∷ []
  end_empty [] e = refl
  end_empty (b ∷ l) e = absurd (omega (arith, e))

  pub end_more : (u : List ℕ) → (length u ≡ 0 → ⊥) → at_end {R = R} {P = P} {T = T} true u ≡ Close closings.CutShort ∷ []
  end_more [] e = absurd (e refl)
  end_more (b ∷ l) e = refl
