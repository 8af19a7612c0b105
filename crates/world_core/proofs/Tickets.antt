-- As many rows run as tickets are held.
use Rattle.std.proofs.Common.{◌≡◌, ◌≢◌, ℕ, zero, suc, ◌+◌, Bool, true, false, cond, nat_eq, List, [], ◌∷◌, ◌++◌, append-nil, set, slice_get, Some, None, refl, sym, ap, ◌∙◌, subst, arith, eq-eqb, ne_eqb}
use mathlib.Core.Logic.{dite}
use native.Mathlib.Decide.{ℕ_discrete}
use Rattle.sec_ast.specs.declared.listing.Listing.{Listing}
use Rattle.tx_core.specs.HalfView.{HalfView}
use Rattle.tx_core.specs.declared.half.Begun as beginning
use Rattle.tx_core.specs.declared.half.Begun.TheVariants as beginnings
use Rattle.shelf.specs.declared.calls.Look as looking
use Rattle.shelf.specs.declared.calls.Look.TheVariants as looks
use Rattle.hall_core.specs.declared.calls.Ticket.{Ticket}
use Rattle.hall_core.specs.declared.calls.Entry as entering
use Rattle.hall_core.specs.declared.calls.Entry.TheVariants as entries
use Rattle.hall_core.specs.declared.calls.Claim as claiming
use Rattle.hall_core.specs.declared.calls.Claim.TheVariants as claims
use Rattle.hall_core.specs.declared.calls.Call as calling
use Rattle.hall_core.specs.declared.calls.Call.TheVariants as calls
use Rattle.hall_core.specs.declared.calls.Reply as answering
use Rattle.hall_core.specs.declared.calls.Reply.TheVariants as answers
use Rattle.hall_core.specs.Kept.{one, running, total, spends, gives}
use Rattle.hall_core.specs.State as table
use Rattle.hall_core.specs.Step as turn
use Rattle.hall_core.specs.Moves.{moves}
use Rattle.hall_core.specs.Totals.{total_changed, total_snoc}
use Rattle.conn_core.specs.declared.seen.Seen.{Seen}
use Rattle.conn_core.specs.Stands.{opening, replied, served, spent_in, tickets_in}
use Rattle.conn_core.specs.Trace as needs
use Rattle.conn_core.proofs.Steps.{spent_append, tickets_append}
use Rattle.world_core.specs.declared.step.Step.{Step}
use Rattle.world_core.specs.declared.step.Step.TheVariants.{Open, Feed, End, Act, Tick, Expire, Reload, Stats}
use Rattle.world_core.specs.World.{Conn, Halls, Has, Need, Peer, World, is_close, is_peer, later, need_of, sent, shut, with_conn}
use Rattle.world_core.specs.Acts.{Acts, Called, IsBegun, Reply, claim_reply, entry_reply, looked, told_settings}
use Rattle.world_core.specs.Steps.{Steps}
use Rattle.world_core.specs.Standing.{TicketsRun, count_of, is_ticket, running_at}

abbrev pub Hall : Type 0
Hall = table.State HalfView

-- ---- sums over lists

total_both : {A : Type 0} (f : A → ℕ) (xs ys : List A) → total f (xs ++ ys) ≡ total f xs + total f ys
total_both f [] ys = omega arith
total_both f (x ∷ xs) ys = let h = total_both f xs ys in omega arith

pub count_both : (i n : ℕ) (a b : List Ticket) → count_of i n (a ++ b) ≡ count_of i n a + count_of i n b
count_both i n a b = total_both (λ ticket. one (is_ticket i n ticket)) a b

here : (k n : ℕ) (t : Ticket) → t.shard ≡ k → count_of k n (t ∷ []) ≡ one (nat_eq t.number n)
here k n t e = let h : one (is_ticket k n t) ≡ one (nat_eq t.number n) = ap (λ b. one (cond b (nat_eq t.number n) false)) (eq-eqb t.shard k e) in omega arith

elsewhere : (i k n : ℕ) (t : Ticket) → t.shard ≡ k → i ≢ k → count_of i n (t ∷ []) ≡ 0
elsewhere i k n t e ne =
    let other : nat_eq t.shard i ≡ false = ne_eqb t.shard i (λ same. ne (sym same ∙ e)) in
    let h : one (is_ticket i n t) ≡ 0 = ap (λ b. one (cond b (nat_eq t.number n) false)) other in omega arith

-- ---- a connection, with needs done and replies got

record Grows (s t : Conn) (done : List Need) (mine : List Reply) : Type 0 where
  past : t.past ≡ s.past ++ done
  replies : t.replies ≡ s.replies ++ mine

given_more : (i n : ℕ) (s t : Conn) (done : List Need) (mine : List Reply) → Grows s t done mine → count_of i n (tickets_in t.replies) ≡ count_of i n (tickets_in s.replies) + count_of i n (tickets_in mine)
given_more i n s t done mine g = ap (λ l. count_of i n (tickets_in l)) g.replies ∙ (ap (count_of i n) (tickets_append s.replies mine) ∙ count_both i n (tickets_in s.replies) (tickets_in mine))

spent_more : (i n : ℕ) (s t : Conn) (done : List Need) (mine : List Reply) → Grows s t done mine → count_of i n (spent_in t.past) ≡ count_of i n (spent_in s.past) + count_of i n (spent_in done)
spent_more i n s t done mine g = ap (λ l. count_of i n (spent_in l)) g.past ∙ (ap (count_of i n) (spent_append s.past done) ∙ count_both i n (spent_in s.past) (spent_in done))

stays : (s t : Conn) → t ≡ s → Grows s t [] []
stays s t e = record { past = ap (λ z. z.past) e ∙ sym (append-nil s.past); replies = ap (λ z. z.replies) e ∙ sym (append-nil s.replies) }

does : (s t : Conn) (need : Need) → t ≡ served need s → Grows s t (need ∷ []) []
does s t need e = record { past = ap (λ z. z.past) e; replies = ap (λ z. z.replies) e ∙ sym (append-nil s.replies) }

gets : (s t : Conn) (need : Need) (reply : Reply) → t ≡ replied reply (served need s) → Grows s t (need ∷ []) (reply ∷ [])
gets s t need reply e = record { past = ap (λ z. z.past) e; replies = ap (λ z. z.replies) e }

-- ---- the shards

record Moved (halls others : Halls) (done : List Need) (mine : List Reply) : Type 0 where
  shard : ((i : ℕ) (hall : Hall) → slice_get halls i ≡ Some hall → hall.shard ≡ i) → (i : ℕ) (hall : Hall) → slice_get others i ≡ Some hall → hall.shard ≡ i
  rows : (i n : ℕ) → running_at n (slice_get others i) + count_of i n (spent_in done) ≡ running_at n (slice_get halls i) + count_of i n (tickets_in mine)

still : (halls others : Halls) (done : List Need) (mine : List Reply) → others ≡ halls → ((i n : ℕ) → count_of i n (spent_in done) ≡ 0) → ((i n : ℕ) → count_of i n (tickets_in mine) ≡ 0) → Moved halls others done mine
still halls others done mine same none_spent none_given = record {
  shard = λ is. subst (λ z. (i : ℕ) (hall : Hall) → slice_get z i ≡ Some hall → hall.shard ≡ i) (sym same) is;
  rows = λ i n. (let a = none_spent i n in let b = none_given i n in let e : running_at n (slice_get others i) ≡ running_at n (slice_get halls i) = ap (λ z. running_at n (slice_get z i)) same in omega arith);
}

pub at_same : (xs : Halls) (k : ℕ) (x y : Hall) → slice_get xs k ≡ Some x → slice_get (set xs k y) k ≡ Some y
at_same [] k x y e = absurd (let h : None ≡ Some x = e in cc)
at_same (z ∷ zs) zero x y e = refl
at_same (z ∷ zs) (suc k) x y e = at_same zs k x y e

pub at_other : (xs : Halls) (k i : ℕ) (y : Hall) → i ≢ k → slice_get (set xs k y) i ≡ slice_get xs i
at_other [] k i y ne = refl
at_other (z ∷ zs) zero zero y ne = absurd (ne refl)
at_other (z ∷ zs) zero (suc i) y ne = refl
at_other (z ∷ zs) (suc k) zero y ne = refl
at_other (z ∷ zs) (suc k) (suc i) y ne = at_other zs k i y (λ e. ne (ap suc e))

pub shard_stays : (s : Hall) (c : calling.Call HalfView) (r : answering.Reply HalfView) → (turn.after s c r).shard ≡ s.shard
shard_stays s (calls.Enter key) (answers.OfEnter (entries.Entered t)) = refl
shard_stays s (calls.Enter key) (answers.OfEnter (entries.IdInUse n)) = refl
shard_stays s (calls.Enter key) (answers.OfEnter (entries.Full n)) = refl
shard_stays s (calls.Enter key) (answers.OfEnter (entries.Worn n)) = refl
shard_stays s (calls.Enter key) answers.OfPark = refl
shard_stays s (calls.Enter key) answers.OfLeave = refl
shard_stays s (calls.Enter key) (answers.OfResume claim) = refl
shard_stays s (calls.Enter key) (answers.OfExpire expiry) = refl
shard_stays s (calls.Enter key) (answers.OfCount counts) = refl
shard_stays s (calls.Park t deadline value) r = refl
shard_stays s (calls.Leave t) r = refl
shard_stays s (calls.Resume key) r = refl
shard_stays s (calls.Expire now) r = refl
shard_stays s calls.Count r = refl

-- a call of shard k, which spends and gives what was done and got
record Tells (k : ℕ) (c : calling.Call HalfView) (r : answering.Reply HalfView) (done : List Need) (mine : List Reply) : Type 0 where
  spent : (n : ℕ) → count_of k n (spent_in done) ≡ spends n c
  given : (n : ℕ) → count_of k n (tickets_in mine) ≡ gives n r
  spent_else : (i n : ℕ) → i ≢ k → count_of i n (spent_in done) ≡ 0
  given_else : (i n : ℕ) → i ≢ k → count_of i n (tickets_in mine) ≡ 0

called : (halls others : Halls) (k : ℕ) (c : calling.Call HalfView) (r : answering.Reply HalfView) (done : List Need) (mine : List Reply) → Called halls k c r others → Tells k c r done mine → Moved halls others done mine
called halls others k c r done mine h tells =
    let y = turn.after h.hall c r in
    let now : slice_get others k ≡ Some y = ap (λ z. slice_get z k) h.state ∙ at_same halls k h.hall y h.is in
    let other : (i : ℕ) → i ≢ k → slice_get others i ≡ slice_get halls i = λ i ne. ap (λ z. slice_get z i) h.state ∙ at_other halls k i y ne in
    record {
      shard = λ is i hall e. dite (ℕ_discrete i k)
          (λ same.
          let one_hall : Some y ≡ Some hall = sym now ∙ (sym (ap (slice_get others) same) ∙ e) in let is_it : y ≡ hall = cc in
          ap (λ z. z.shard) (sym is_it) ∙ (shard_stays h.hall c r ∙ (is k h.hall h.is ∙ sym same)))
          (λ ne. is i hall (sym (other i ne) ∙ e));
      rows = λ i n. dite (ℕ_discrete i k)
          (λ same. subst (λ z. running_at n (slice_get others z) + count_of z n (spent_in done) ≡ running_at n (slice_get halls z) + count_of z n (tickets_in mine)) (sym same)
          (let a : running_at n (slice_get others k) ≡ running n y.rows = ap (running_at n) now in
          let b : running_at n (slice_get halls k) ≡ running n h.hall.rows = ap (running_at n) h.is in
          let m : running n y.rows + spends n c ≡ running n h.hall.rows + gives n r = (moves h.hall c r h.may h.reply).runs_open n in
          let p = tells.spent n in let q = tells.given n in omega arith))
          (λ ne. let a : running_at n (slice_get others i) ≡ running_at n (slice_get halls i) = ap (running_at n) (other i ne) in
          let p = tells.spent_else i n ne in let q = tells.given_else i n ne in omega arith);
    }

-- ---- the act of a connection

record Acted (s t : Conn) (halls others : Halls) : Type 0 where
  done : List Need
  mine : List Reply
  grows : Grows s t done mine
  moved : Moved halls others done mine

quiet : (s t : Conn) (halls others : Halls) (done : List Need) (mine : List Reply) → Grows s t done mine → others ≡ halls → ((i n : ℕ) → count_of i n (spent_in done) ≡ 0) → ((i n : ℕ) → count_of i n (tickets_in mine) ≡ 0) → Acted s t halls others
quiet s t halls others done mine grows same a b = record { done = done; mine = mine; grows = grows; moved = still halls others done mine same a b }

-- where the call gives and spends no ticket
idle : (s t : Conn) (halls others : Halls) (k : ℕ) (c : calling.Call HalfView) (r : answering.Reply HalfView) (done : List Need) (mine : List Reply) → Grows s t done mine → Called halls k c r others
    → ((i n : ℕ) → count_of i n (spent_in done) ≡ 0) → ((i n : ℕ) → count_of i n (tickets_in mine) ≡ 0) → ((n : ℕ) → spends n c ≡ 0) → ((n : ℕ) → gives n r ≡ 0) → Acted s t halls others
idle s t halls others k c r done mine grows h a b no_spend no_give = record {
  done = done;
  mine = mine;
  grows = grows;
  moved = called halls others k c r done mine h (record { spent = λ n. a k n ∙ sym (no_spend n); given = λ n. b k n ∙ sym (no_give n); spent_else = λ i n ne. a i n; given_else = λ i n ne. b i n });
}

-- where it spends one
spending : (s t : Conn) (halls others : Halls) (ticket : Ticket) (c : calling.Call HalfView) (r : answering.Reply HalfView) (need : Need) → Grows s t (need ∷ []) [] → Called halls ticket.shard c r others
    → spent_in (need ∷ []) ≡ ticket ∷ [] → ((n : ℕ) → spends n c ≡ one (nat_eq ticket.number n)) → ((n : ℕ) → gives n r ≡ 0) → Acted s t halls others
spending s t halls others ticket c r need grows h spends_it no_more no_give = record {
  done = need ∷ [];
  mine = [];
  grows = grows;
  moved = called halls others ticket.shard c r (need ∷ []) [] h (record {
    spent = λ n. ap (count_of ticket.shard n) spends_it ∙ (here ticket.shard n ticket refl ∙ sym (no_more n));
    given = λ n. sym (no_give n);
    spent_else = λ i n ne. ap (count_of i n) spends_it ∙ elsewhere i ticket.shard n ticket refl ne;
    given_else = λ i n ne. refl;
  });
}

entering_acts : (s t : Conn) (halls others : Halls) (k : ℕ) (key : _) (entry : entering.Entry) → ((i : ℕ) (hall : Hall) → slice_get halls i ≡ Some hall → hall.shard ≡ i)
    → Called halls k (calls.Enter key) (answers.OfEnter entry) others → t ≡ replied (entry_reply entry) (served (needs.Enter key) s) → Acted s t halls others
entering_acts s t halls others k key (entries.Entered ticket) is h e =
    let at_k : ticket.shard ≡ k = h.reply.3 ∙ is k h.hall h.is in record {
      done = needs.Enter key ∷ [];
      mine = needs.Entered ticket ∷ [];
      grows = gets s t (needs.Enter key) (needs.Entered ticket) e;
      moved = called halls others k (calls.Enter key) (answers.OfEnter (entries.Entered ticket)) (needs.Enter key ∷ []) (needs.Entered ticket ∷ []) h (record {
        spent = λ n. refl;
        given = λ n. here k n ticket at_k;
        spent_else = λ i n ne. refl;
        given_else = λ i n ne. elsewhere i k n ticket at_k ne;
      });
    }
entering_acts s t halls others k key (entries.IdInUse m) is h e = idle s t halls others k (calls.Enter key) (answers.OfEnter (entries.IdInUse m)) _ _ (gets s t (needs.Enter key) _ e) h (λ i n. refl) (λ i n. refl) (λ n. refl) (λ n. refl)
entering_acts s t halls others k key (entries.Full m) is h e = idle s t halls others k (calls.Enter key) (answers.OfEnter (entries.Full m)) _ _ (gets s t (needs.Enter key) _ e) h (λ i n. refl) (λ i n. refl) (λ n. refl) (λ n. refl)
entering_acts s t halls others k key (entries.Worn m) is h e = idle s t halls others k (calls.Enter key) (answers.OfEnter (entries.Worn m)) _ _ (gets s t (needs.Enter key) _ e) h (λ i n. refl) (λ i n. refl) (λ n. refl) (λ n. refl)

claiming_acts : (s t : Conn) (halls others : Halls) (k : ℕ) (key : _) (claim : claiming.Claim HalfView)
    → Called halls k (calls.Resume key) (answers.OfResume claim) others → t ≡ replied (claim_reply claim) (served (needs.Resume key) s) → Acted s t halls others
claiming_acts s t halls others k key (claims.Resumed m half) h e = idle s t halls others k (calls.Resume key) (answers.OfResume (claims.Resumed m half)) _ _ (gets s t (needs.Resume key) _ e) h (λ i n. refl) (λ i n. refl) (λ n. refl) (λ n. refl)
claiming_acts s t halls others k key claims.NotParked h e = idle s t halls others k (calls.Resume key) (answers.OfResume claims.NotParked) _ _ (gets s t (needs.Resume key) _ e) h (λ i n. refl) (λ i n. refl) (λ n. refl) (λ n. refl)

some_same : (a b : Conn) → Some a ≡ Some b → a ≡ b
some_same a b e = cc

module _ {R : Type 0} (listing_of : R → Listing) where
  acted : (w : World R) (s : Conn) (need : Need) (halls : Halls) (t : Conn) (seen : Seen) → ((i : ℕ) (hall : Hall) → slice_get w.halls i ≡ Some hall → hall.shard ≡ i)
      → Acts listing_of w s need halls t seen → Acted s t w.halls halls
  acted w s needs.Bytes halls t seen is h = quiet s t w.halls halls [] [] (stays s t h.1) h.0 (λ i n. refl) (λ i n. refl)
  acted w s (needs.Close how) halls t seen is h = quiet s t w.halls halls [] [] (stays s t h.1) h.0 (λ i n. refl) (λ i n. refl)
  acted w s (needs.Write bytes) halls t seen is h = quiet s t w.halls halls (needs.Write bytes ∷ []) [] (does s t (needs.Write bytes) h.1) h.0 (λ i n. refl) (λ i n. refl)
  acted w s (needs.Look name) halls t seen is h = go h.1.0 h.1.2
    where
      go : (answer : looking.Look R) → looked listing_of answer (served (needs.Look name) s) ≡ Some t → Acted s t w.halls halls
      go (looks.Found m rules wants) e = quiet s t w.halls halls _ _ (gets s t (needs.Look name) (needs.Found (m, listing_of rules) (told_settings wants)) (sym (some_same _ _ e))) h.0 (λ i n. refl) (λ i n. refl)
      go (looks.UnknownApp m) e = quiet s t w.halls halls _ _ (gets s t (needs.Look name) needs.UnknownApp (sym (some_same _ _ e))) h.0 (λ i n. refl) (λ i n. refl)
      go looks.NoMemory e = absurd (let k : None ≡ Some t = e in cc)
  acted w s (needs.Begin rules request) halls t seen is h = go h.1.0 h.1.2
    where
      go : (b : beginning.Begun) → IsBegun b (served (needs.Begin rules request) s) t seen → Acted s t w.halls halls
      go (beginnings.Interrupted verdict lines) e = quiet s t w.halls halls _ _ (gets s t (needs.Begin rules request) (needs.Interrupted verdict) e.0) h.0 (λ i n. refl) (λ i n. refl)
      go (beginnings.Goes half lines) e = quiet s t w.halls halls _ _ (gets s t (needs.Begin rules request) (needs.Goes half) e.0) h.0 (λ i n. refl) (λ i n. refl)
  acted w s (needs.Finish half response) halls t seen is h = quiet s t w.halls halls _ _ (gets s t (needs.Finish half response) _ h.1.2) h.0 (λ i n. refl) (λ i n. refl)
  acted w s (needs.Retire half) halls t seen is h = quiet s t w.halls halls (needs.Retire half ∷ []) [] (does s t (needs.Retire half) h.1.2) h.0 (λ i n. refl) (λ i n. refl)
  acted w s (needs.Enter key) halls t seen is h = entering_acts s t w.halls halls _ key h.0.0 is h.0.1 h.0.2
  acted w s (needs.Park ticket life half) halls t seen is h =
      spending s t w.halls halls ticket (calls.Park ticket (later w.moment life) half) answers.OfPark (needs.Park ticket life half) (does s t (needs.Park ticket life half) h.0.1) h.0.0 refl (λ n. refl) (λ n. refl)
  acted w s (needs.Leave ticket) halls t seen is h =
      spending s t w.halls halls ticket (calls.Leave ticket) answers.OfLeave (needs.Leave ticket) (does s t (needs.Leave ticket) h.0.1) h.0.0 refl (λ n. refl) (λ n. refl)
  acted w s (needs.Resume key) halls t seen is h = claiming_acts s t w.halls halls _ key h.0.0 h.0.1 h.0.2

-- ---- all connections

moved_still : (halls others : Halls) (peers : List Peer) → TicketsRun halls peers → Moved halls others [] [] → TicketsRun others peers
moved_still halls others peers run m = record {
  shard = m.shard run.shard;
  held = λ i n. (let a = m.rows i n in let b = run.held i n in omega arith);
}

moved_on : (halls others : Halls) (peers : List Peer) (k : ℕ) (s t : Conn) (done : List Need) (mine : List Reply) → TicketsRun halls peers → Has peers k s → Grows s t done mine → Moved halls others done mine → TicketsRun others (with_conn k t peers)
moved_on halls others peers k s t done mine run has grows m = record {
  shard = m.shard run.shard;
  held = λ i n. (let a = m.rows i n in let b = run.held i n in
      let p = total_changed (λ peer. count_of i n (tickets_in peer.conn.replies)) (is_peer k) (λ peer. record { number = peer.number; conn = t }) peers has.peer has.found in
      let q = total_changed (λ peer. count_of i n (spent_in peer.conn.past)) (is_peer k) (λ peer. record { number = peer.number; conn = t }) peers has.peer has.found in
      let p' : count_of i n (tickets_in has.peer.conn.replies) ≡ count_of i n (tickets_in s.replies) = ap (λ z. count_of i n (tickets_in z.replies)) has.conn in
      let q' : count_of i n (spent_in has.peer.conn.past) ≡ count_of i n (spent_in s.past) = ap (λ z. count_of i n (spent_in z.past)) has.conn in
      let g = given_more i n s t done mine grows in let h = spent_more i n s t done mine grows in omega arith);
}

same_if : (b : Bool) (s t : Conn) → t.past ≡ s.past → t.replies ≡ s.replies → Grows s (cond b s t) [] []
same_if true s t past replies = stays s s refl
same_if false s t past replies = record { past = past ∙ sym (append-nil s.past); replies = replies ∙ sym (append-nil s.replies) }

nothing : (halls : Halls) → Moved halls halls [] []
nothing halls = still halls halls [] [] refl (λ i n. refl) (λ i n. refl)

opened_run : (halls : Halls) (peers : List Peer) (p : Peer) → p.conn.past ≡ [] → p.conn.replies ≡ [] → TicketsRun halls peers → TicketsRun halls (peers ++ p ∷ [])
opened_run halls peers p past replies run = record {
  shard = run.shard;
  held = λ i n. (let a = run.held i n in
      let b = total_snoc (λ peer. count_of i n (tickets_in peer.conn.replies)) peers p in let c = total_snoc (λ peer. count_of i n (spent_in peer.conn.past)) peers p in
      let d : count_of i n (tickets_in p.conn.replies) ≡ 0 = ap (λ l. count_of i n (tickets_in l)) replies in let e : count_of i n (spent_in p.conn.past) ≡ 0 = ap (λ l. count_of i n (spent_in l)) past in omega arith);
}

module _ {R : Type 0} (listing_of : R → Listing) where
  -- each step of the definition keeps it
  pub tickets_run : (w : World R) (step : Step R) (u : World R) (seen : Seen) → TicketsRun w.halls w.peers → Steps listing_of w step u seen → TicketsRun u.halls u.peers
  tickets_run w (Open m) u seen run h = subst (λ (z : World R). TicketsRun z.halls z.peers) (sym h.0) (opened_run w.halls w.peers (record { number = m; conn = opening w.size }) refl refl run)
  tickets_run w (Feed m bytes) u seen run h = subst (λ (z : World R). TicketsRun z.halls z.peers) (sym h.2)
      (moved_on w.halls w.halls w.peers m h.0 (sent bytes h.0) [] [] run h.1 (same_if (is_close (need_of h.0)) h.0 _ refl refl) (nothing w.halls))
  tickets_run w (End m) u seen run h = subst (λ (z : World R). TicketsRun z.halls z.peers) (sym h.2)
      (moved_on w.halls w.halls w.peers m h.0 (shut h.0) [] [] run h.1 (same_if (is_close (need_of h.0)) h.0 _ refl refl) (nothing w.halls))
  tickets_run w (Act m) u seen run h =
      let a = acted listing_of w h.before h.need h.halls h.next seen run.shard h.acts in
      subst (λ (z : World R). TicketsRun z.halls z.peers) (sym h.state) (moved_on w.halls h.halls w.peers m h.before h.next a.done a.mine run h.has a.grows a.moved)
  tickets_run w (Tick units) u seen run h = subst (λ (z : World R). TicketsRun z.halls z.peers) (sym h.0) run
  tickets_run w (Expire shard) u seen run h =
      let tells : Tells shard (calls.Expire w.moment) (answers.OfExpire h.0) [] [] = record { spent = λ n. refl; given = λ n. refl; spent_else = λ i n ne. refl; given_else = λ i n ne. refl } in
      subst (λ (z : World R). TicketsRun z.halls z.peers) (sym h.3) (moved_still w.halls h.1 w.peers run (called w.halls h.1 shard (calls.Expire w.moment) (answers.OfExpire h.0) [] [] h.2 tells))
  tickets_run w (Reload apps) u seen run h = subst (λ (z : World R). TicketsRun z.halls z.peers) (sym h.2) run
  tickets_run w Stats u seen run h = subst (λ (z : World R). TicketsRun z.halls z.peers) (sym h.0) run
