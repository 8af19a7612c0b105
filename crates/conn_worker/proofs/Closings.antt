-- A trace never closes for a fault of reading or writing, nor for many bytes.
use Rattle.std.proofs.Common.{◌≡◌, ◌≢◌, ℕ, zero, suc, Bool, true, false, List, [], ◌∷◌, ◌++◌, length, map, nat_lt, ◌==◌, bytes_eq, Option, Some, None, Result, Ok, Err, if◌then◌else◌, refl, sym, subst, inl, inr}
use Rattle.spop_frame.specs.Head.{Head, NotYet, Bad, Whole, head_of}
use Rattle.spop_frame.specs.declared.frame.Frame.{Frame}
use Rattle.spop_frame.specs.declared.status.TheConstants.{NO_MEMORY}
use Rattle.spop_frame.specs.declared.kind.TheConstants.{HAPROXY_HELLO, HAPROXY_DISCONNECT, NOTIFY}
use Rattle.spop_hello.specs.Terms.{terms_of}
use Rattle.spop_hello.specs.declared.terms.Terms.{Terms}
use Rattle.spop_talk.specs.Ack.{ack_body}
use Rattle.spop_talk.specs.Reading.{messages_of}
use Rattle.spop_talk.specs.declared.ack.Action.{Action}
use Rattle.spop_talk.specs.declared.message.Message.{Message}
use Rattle.spop_data.specs.declared.value.Pair.{Pair}
use Rattle.spop_web.specs.Answer.{request_message, response_message}
use Rattle.spop_web.specs.Reading.{first_bad}
use Rattle.spop_web.specs.Request.{asked_of, request_rules}
use Rattle.spop_web.specs.Response.{response_rules, told_of}
use Rattle.spop_web.specs.declared.argument.Arg.{Arg}
use Rattle.spop_web.specs.declared.request.Asked.{Asked}
use Rattle.spop_web.specs.declared.response.Told.{Told}
use Rattle.web_parts.specs.declared.transaction.Request.{Request}
use Rattle.web_parts.specs.declared.transaction.Response.{Response}
use Rattle.hall_core.specs.declared.Key.{Key}
use Rattle.conn_core.specs.declared.need.Closing as closing
use Rattle.conn_core.specs.declared.need.Closing.TheVariants as closings
use Rattle.conn_core.specs.declared.stage.Hold.{Hold}
use Rattle.conn_core.specs.Trace.{Need, Bytes, Look, Enter, Begin, Park, Leave, Resume, Finish, Retire, Write, Close, Reply, Found, UnknownApp, Entered, Refused, Interrupted, Goes, Resumed, NotParked, Ended, Next, leaves, put_by, begun, entered, looked, asked, request, finished, resumed, told, response, message, messages, answer, notify, greeted, any_frame, at_head, frames, limit_of, is_misplaced, trace}
use Rattle.conn_loop.specs.declared.connection.ConnEnd as over
use Rattle.conn_loop.specs.declared.connection.ConnEnd.TheVariants as ends
use Rattle.conn_loop.specs.Answered.{Step}
use Rattle.conn_loop.specs.Ends.{Around, Serves}
use Rattle.conn_worker.specs.Served.{closing_of}

-- a trace may close so
abbrev pub IsPlain : closing.Closing → Type 0
IsPlain closings.Done = Unit {0}
IsPlain closings.CutShort = Unit {0}
IsPlain (closings.Ended status) = Unit {0}
IsPlain how = ⊥

if_so : {A : Type 0} (F : A → Type 0) (b : Bool) (x y : A) → F x → F y → F (if b then x else y)
if_so F true x y p q = p
if_so F false x y p q = q

module _ {R P T : Type 0} where
  abbrev pub Plain : List (Need R P T) → Type 0
  Plain [] = Unit {0}
  Plain (Close how ∷ needs) = IsPlain how × Plain needs
  Plain (need ∷ needs) = Plain needs

  abbrev Onward : Next R P T → Type 0
  Onward k = (actions : List Action) (replies : List (Reply R P T)) → Plain (k actions replies)

  abbrev After : (List (Reply R P T) → List (Need R P T)) → Type 0
  After k = (replies : List (Reply R P T)) → Plain (k replies)

  left : (hold : Option (Hold T)) (needs : List (Need R P T)) → Plain needs → Plain (leaves hold ++ needs)
  left None needs p = p
  left (Some hold) needs p = p

  put : (hold : Option (Hold T)) (half : P) (needs : List (Need R P T)) → Plain needs → Plain (put_by hold half ∷ needs)
  put None half needs p = p
  put (Some hold) half needs p = p

  is_begun : (id : List ℕ) (hold : Option (Hold T)) (k : Next R P T) (replies : List (Reply R P T)) → Onward k → Plain (begun id hold k replies)
  is_begun id hold k [] p = tt
  is_begun id hold k (Interrupted verdict ∷ later) p = left hold _ (p _ later)
  is_begun id hold k (Goes half ∷ later) p = put hold half _ (p _ later)
  is_begun id hold k (Found rules settings ∷ later) p = tt
  is_begun id hold k (UnknownApp ∷ later) p = tt
  is_begun id hold k (Entered ticket ∷ later) p = tt
  is_begun id hold k (Refused error ∷ later) p = tt
  is_begun id hold k (Resumed half ∷ later) p = tt
  is_begun id hold k (NotParked ∷ later) p = tt
  is_begun id hold k (Ended verdict ∷ later) p = tt

  is_entered : (id : List ℕ) (r : Request) (rules : R) (life : ℕ) (k : Next R P T) (replies : List (Reply R P T)) → Onward k → Plain (entered id r rules life k replies)
  is_entered id r rules life k [] p = tt
  is_entered id r rules life k (Entered ticket ∷ later) p = is_begun id (Some (record { ticket = ticket; life = life })) k later p
  is_entered id r rules life k (Refused error ∷ later) p = p _ later
  is_entered id r rules life k (Interrupted verdict ∷ later) p = tt
  is_entered id r rules life k (Goes half ∷ later) p = tt
  is_entered id r rules life k (Found others settings ∷ later) p = tt
  is_entered id r rules life k (UnknownApp ∷ later) p = tt
  is_entered id r rules life k (Resumed half ∷ later) p = tt
  is_entered id r rules life k (NotParked ∷ later) p = tt
  is_entered id r rules life k (Ended verdict ∷ later) p = tt

  is_looked : (id : List ℕ) (key : Key) (r : Request) (k : Next R P T) (replies : List (Reply R P T)) → Onward k → Plain (looked id key r k replies)
  is_looked id key r k [] p = tt
  is_looked id key r k (UnknownApp ∷ later) p = p _ later
  is_looked id key r k (Found rules settings ∷ later) p =
      if_so Plain settings.responses (Enter key ∷ entered id r rules settings.life k later) (Begin rules r ∷ begun id None k later)
      (is_entered id r rules settings.life k later p) (is_begun id None k later p)
  is_looked id key r k (Entered ticket ∷ later) p = tt
  is_looked id key r k (Refused error ∷ later) p = tt
  is_looked id key r k (Interrupted verdict ∷ later) p = tt
  is_looked id key r k (Goes half ∷ later) p = tt
  is_looked id key r k (Resumed half ∷ later) p = tt
  is_looked id key r k (NotParked ∷ later) p = tt
  is_looked id key r k (Ended verdict ∷ later) p = tt

  is_request : (bad : Option Arg) (args : List Pair) (k : Next R P T) (replies : List (Reply R P T)) → Onward k → Plain (request bad args k replies)
  is_request (Some bad) args k replies p = p _ replies
  is_request None args k replies p = is_looked _ _ _ k replies p

  is_finished : (id : List ℕ) (k : Next R P T) (replies : List (Reply R P T)) → Onward k → Plain (finished id k replies)
  is_finished id k [] p = tt
  is_finished id k (Ended verdict ∷ later) p = p _ later
  is_finished id k (Found rules settings ∷ later) p = tt
  is_finished id k (UnknownApp ∷ later) p = tt
  is_finished id k (Entered ticket ∷ later) p = tt
  is_finished id k (Refused error ∷ later) p = tt
  is_finished id k (Interrupted verdict ∷ later) p = tt
  is_finished id k (Goes half ∷ later) p = tt
  is_finished id k (Resumed half ∷ later) p = tt
  is_finished id k (NotParked ∷ later) p = tt

  is_resumed : (id : List ℕ) (r : Response) (k : Next R P T) (replies : List (Reply R P T)) → Onward k → Plain (resumed id r k replies)
  is_resumed id r k [] p = tt
  is_resumed id r k (NotParked ∷ later) p = p _ later
  is_resumed id r k (Resumed half ∷ later) p = is_finished id k later p
  is_resumed id r k (Found rules settings ∷ later) p = tt
  is_resumed id r k (UnknownApp ∷ later) p = tt
  is_resumed id r k (Entered ticket ∷ later) p = tt
  is_resumed id r k (Refused error ∷ later) p = tt
  is_resumed id r k (Interrupted verdict ∷ later) p = tt
  is_resumed id r k (Goes half ∷ later) p = tt
  is_resumed id r k (Ended verdict ∷ later) p = tt

  is_response : (bad : Option Arg) (args : List Pair) (k : Next R P T) (replies : List (Reply R P T)) → Onward k → Plain (response bad args k replies)
  is_response (Some bad) args k replies p = p _ replies
  is_response None args k replies p = is_resumed _ _ k replies p

  is_message : (m : Message) (k : Next R P T) (replies : List (Reply R P T)) → Onward k → Plain (message m k replies)
  is_message m k replies p =
      if_so Plain (bytes_eq m.name request_message) (request (first_bad request_rules m.args) m.args k replies)
      (if bytes_eq m.name response_message then response (first_bad response_rules m.args) m.args k replies else k [] replies)
      (is_request (first_bad request_rules m.args) m.args k replies p)
      (if_so Plain (bytes_eq m.name response_message) (response (first_bad response_rules m.args) m.args k replies) (k [] replies)
      (is_response (first_bad response_rules m.args) m.args k replies p) (p [] replies))

  are_messages : (ms : List Message) (actions : List Action) (k : Next R P T) (replies : List (Reply R P T)) → Onward k → Plain (messages ms actions k replies)
  are_messages [] actions k replies p = p actions replies
  are_messages (m ∷ ms) actions k replies p =
      is_message m (λ more later. messages ms (actions ++ more) k later) replies (λ more later. are_messages ms (actions ++ more) k later p)

  is_notify : (limit : ℕ) (f : Frame) (k : List (Reply R P T) → List (Need R P T)) (ms : Option (List Message)) (replies : List (Reply R P T)) → After k → Plain (notify limit f k ms replies)
  is_notify limit f k None replies p = (tt, tt)
  is_notify limit f k (Some ms) replies p =
      are_messages ms [] (answer limit f.stream f.frame k) replies
      (λ actions later. if_so Plain (nat_lt limit (length (ack_body f.stream f.frame actions))) _ _ (tt, tt) (p later))

  is_greeted : (k : ℕ → List (Need R P T)) (terms : Result Terms ℕ) → ((size : ℕ) → Plain (k size)) → Plain (greeted k terms)
  is_greeted k (Err status) p = (tt, tt)
  is_greeted k (Ok terms) p = if_so Plain terms.check (Close closings.Done ∷ []) (k terms.size) (tt, tt) (p terms.size)

  abbrev Then : (Option ℕ → List (Reply R P T) → List (Need R P T)) → Type 0
  Then k = (agreed : Option ℕ) (replies : List (Reply R P T)) → Plain (k agreed replies)

  is_frame : (size : ℕ) (agreed : Option ℕ) (k : Option ℕ → List (Reply R P T) → List (Need R P T)) (f : Frame) (replies : List (Reply R P T)) → Then k → Plain (any_frame size agreed k f replies)
  is_frame size None k f replies p =
      if_so Plain (f.kind == HAPROXY_DISCONNECT) _ _ (tt, tt)
      (if_so Plain (f.kind == HAPROXY_HELLO) _ _ (is_greeted (λ now. k (Some now) replies) (terms_of size f.payload) (λ now. p (Some now) replies)) (tt, tt))
  is_frame size (Some agreed) k f replies p =
      if_so Plain (f.kind == HAPROXY_DISCONNECT) _ _ (tt, tt)
      (if_so Plain (f.kind == NOTIFY) _ _ (is_notify agreed f (k (Some agreed)) (messages_of f.payload) replies (λ later. p (Some agreed) later))
      (if_so Plain (is_misplaced f.kind) _ _ (tt, tt) (p (Some agreed) replies)))

  is_head : (size : ℕ) (agreed : Option ℕ) (k : List ℕ → Option ℕ → List (Reply R P T) → List (Need R P T)) (ended : Bool) (unread : List ℕ) (h : Head) (replies : List (Reply R P T))
      → ((rest : List ℕ) (now : Option ℕ) (later : List (Reply R P T)) → Plain (k rest now later)) → Plain (at_head size agreed k ended unread h replies)
  is_head size agreed k false unread NotYet replies p = tt
  is_head size agreed k true [] NotYet replies p = (tt, tt)
  is_head size agreed k true (b ∷ bytes) NotYet replies p = (tt, tt)
  is_head size agreed k ended unread (Bad status) replies p = (tt, tt)
  is_head size agreed k ended unread (Whole f rest) replies p = is_frame size agreed (k rest) f replies (p rest)

  are_frames : (most size : ℕ) (agreed : Option ℕ) (unread : List ℕ) (ended : Bool) (replies : List (Reply R P T)) → Plain (frames most size agreed unread ended replies)
  are_frames zero size agreed unread ended replies = tt
  are_frames (suc most) size agreed unread ended replies =
      is_head size agreed (λ rest now later. frames most size now rest ended later) ended unread (head_of (limit_of size agreed) unread) replies
      (λ rest now later. are_frames most size now rest ended later)

  last_plain : (past : List (Need R P T)) (how : closing.Closing) → Plain (past ++ Close how ∷ []) → IsPlain how
  last_plain [] how p = p.0
  last_plain (Close other ∷ past) how p = last_plain past how p.1
  last_plain (Bytes ∷ past) how p = last_plain past how p
  last_plain (Look app ∷ past) how p = last_plain past how p
  last_plain (Enter key ∷ past) how p = last_plain past how p
  last_plain (Begin rules r ∷ past) how p = last_plain past how p
  last_plain (Park ticket life half ∷ past) how p = last_plain past how p
  last_plain (Leave ticket ∷ past) how p = last_plain past how p
  last_plain (Resume key ∷ past) how p = last_plain past how p
  last_plain (Finish half r ∷ past) how p = last_plain past how p
  last_plain (Retire half ∷ past) how p = last_plain past how p
  last_plain (Write bytes ∷ past) how p = last_plain past how p

  pub trace_plain : (size : ℕ) (input : List ℕ) (ended : Bool) (replies : List (Reply R P T)) (past : List (Need R P T)) (how : closing.Closing) → trace size input ended replies ≡ past ++ Close how ∷ [] → IsPlain how
  unfolding trace
  trace_plain size input ended replies past how e = last_plain past how (subst (λ (l : List (Need R P T)). Plain l) e (are_frames (suc (length input)) size None input ended replies))

  closed_plain : {Desk : Type 0} (serves : Step R P T Desk) (size : ℕ) (old new : Around Desk) (how : closing.Closing) → Serves (ends.Closed how) serves size old new → IsPlain how
  closed_plain serves size old new how (inl c) = trace_plain size c.taken c.ended c.heard.replies c.past how c.heard.trace_is
  closed_plain serves size old new how (inr b) = subst IsPlain (sym b.0) tt

  -- so a fault is the loop's own
  pub read_fails : {Desk : Type 0} (serves : Step R P T Desk) (size : ℕ) (old new : Around Desk) (end : over.ConnEnd) → Serves end serves size old new → closing_of end ≡ closings.ReadFault → end ≡ ends.ReadFault
  read_fails serves size old new (ends.Closed how) s e = absurd (subst IsPlain e (closed_plain serves size old new how s))
  read_fails serves size old new ends.Spent s e = absurd (let k : closings.Spent ≡ closings.ReadFault = e in cc)
  read_fails serves size old new ends.ReadFault s e = refl
  read_fails serves size old new ends.WriteFault s e = absurd (let k : closings.WriteFault ≡ closings.ReadFault = e in cc)
  read_fails serves size old new ends.NoMemory s e = absurd (let k : closings.Ended NO_MEMORY ≡ closings.ReadFault = e in cc)

  pub write_fails : {Desk : Type 0} (serves : Step R P T Desk) (size : ℕ) (old new : Around Desk) (end : over.ConnEnd) → Serves end serves size old new → closing_of end ≡ closings.WriteFault → end ≡ ends.WriteFault
  write_fails serves size old new (ends.Closed how) s e = absurd (subst IsPlain e (closed_plain serves size old new how s))
  write_fails serves size old new ends.Spent s e = absurd (let k : closings.Spent ≡ closings.WriteFault = e in cc)
  write_fails serves size old new ends.ReadFault s e = absurd (let k : closings.ReadFault ≡ closings.WriteFault = e in cc)
  write_fails serves size old new ends.WriteFault s e = refl
  write_fails serves size old new ends.NoMemory s e = absurd (let k : closings.Ended NO_MEMORY ≡ closings.WriteFault = e in cc)
