-- What is shown as written on a connection is what its needs wrote.
use Rattle.std.proofs.Common.{◌≡◌, ℕ, Bool, true, false, cond, nat_eq, List, [], ◌∷◌, ◌++◌, append-nil, append_assoc, find, Option, Some, None, refl, sym, ap, ◌∙◌, subst, eq-eqb, ne_eqb}
use mathlib.Core.Logic.{dite}
use native.Mathlib.Decide.{ℕ_discrete}
use Rattle.sec_ast.specs.declared.listing.Listing.{Listing}
use Rattle.tx_core.specs.declared.half.Begun as beginning
use Rattle.tx_core.specs.declared.half.Begun.TheVariants as beginnings
use Rattle.shelf.specs.declared.calls.Look as looking
use Rattle.shelf.specs.declared.calls.Look.TheVariants as looks
use Rattle.conn_core.specs.declared.seen.Seen.{Seen}
use Rattle.conn_core.specs.declared.seen.Seen.TheVariants as shown
use Rattle.conn_core.specs.Stands.{opening, replied, served}
use Rattle.conn_core.specs.Trace as needs
use Rattle.world_core.specs.declared.step.Step.{Step}
use Rattle.world_core.specs.declared.step.Step.TheVariants.{Open, Feed, End, Act, Tick, Expire, Reload, Stats}
use Rattle.world_core.specs.World.{Conn, Halls, Has, Need, Peer, World, is_close, is_peer, need_of, sent, shut, with_conn}
use Rattle.world_core.specs.Acts.{Acts, IsBegun, looked, told_settings}
use Rattle.world_core.specs.Steps.{Runs, Steps}
use Rattle.world_core.specs.Promised.{out_at, output_of, written}
use Rattle.world_core.proofs.Elsewhere.{found_changed, found_else}

abbrev of_found : Option Peer → List ℕ
of_found None = []
of_found (Some peer) = written peer.conn.past

-- what the needs of the connection of this number wrote, where it was opened
abbrev so_far : ℕ → List Peer → List ℕ
so_far n peers = of_found (find (is_peer n) peers)

written_both : (xs ys : List Need) → written (xs ++ ys) ≡ written xs ++ written ys
written_both [] ys = refl
written_both (needs.Write bytes ∷ xs) ys = ap (λ z. bytes ++ z) (written_both xs ys) ∙ sym (append_assoc bytes (written xs) (written ys))
written_both (needs.Bytes ∷ xs) ys = written_both xs ys
written_both ((needs.Look name) ∷ xs) ys = written_both xs ys
written_both ((needs.Enter key) ∷ xs) ys = written_both xs ys
written_both ((needs.Begin rules request) ∷ xs) ys = written_both xs ys
written_both ((needs.Park ticket life half) ∷ xs) ys = written_both xs ys
written_both ((needs.Leave ticket) ∷ xs) ys = written_both xs ys
written_both ((needs.Resume key) ∷ xs) ys = written_both xs ys
written_both ((needs.Finish half response) ∷ xs) ys = written_both xs ys
written_both ((needs.Retire half) ∷ xs) ys = written_both xs ys
written_both ((needs.Close how) ∷ xs) ys = written_both xs ys

-- of a connection s that becomes t, which shows this
record Writes (R : Type 0) (s t : Conn) (seen : Seen) : Type 0 where
  out : List ℕ
  past : written t.past ≡ written s.past ++ out
  shows : (n m : ℕ) → out_at {R = R} n (Act m) seen ≡ cond (nat_eq m n) out []

same_both : (b : Bool) → [] ≡ cond {A = List ℕ} b [] []
same_both true = refl
same_both false = refl

-- nothing is written, and what is shown is not shown as written
silent : (R : Type 0) (s t : Conn) (need : Need) (seen : Seen) → written (need ∷ []) ≡ [] → t.past ≡ s.past ++ need ∷ [] → ((n m : ℕ) → out_at {R = R} n (Act m) seen ≡ []) → Writes R s t seen
silent R s t need seen none is quiet = record {
  out = [];
  past = ap written is ∙ (written_both s.past (need ∷ []) ∙ ap (λ z. written s.past ++ z) none);
  shows = λ n m. quiet n m ∙ same_both (nat_eq m n);
}

some_same : (a b : Conn) → Some a ≡ Some b → a ≡ b
some_same a b e = cc

stays : (R : Type 0) (s t : Conn) (seen : Seen) → t ≡ s → ((n m : ℕ) → out_at {R = R} n (Act m) seen ≡ []) → Writes R s t seen
stays R s t seen is quiet = record {
  out = [];
  past = ap (λ z. written z.past) is ∙ sym (append-nil (written s.past));
  shows = λ n m. quiet n m ∙ same_both (nat_eq m n);
}

shown_by : (R : Type 0) (seen other : Seen) → seen ≡ other → ((n m : ℕ) → out_at {R = R} n (Act m) other ≡ []) → (n m : ℕ) → out_at {R = R} n (Act m) seen ≡ []
shown_by R seen other is quiet n m = ap (λ z. out_at {R = R} n (Act m) z) is ∙ quiet n m

module _ {R : Type 0} (listing_of : R → Listing) where
  acted : (w : World R) (s : Conn) (need : Need) (halls : Halls) (t : Conn) (seen : Seen) → Acts listing_of w s need halls t seen → Writes R s t seen
  acted w s needs.Bytes halls t seen h = stays R s t seen h.1 (shown_by R seen shown.Nothing h.2 (λ n m. refl))
  acted w s (needs.Close how) halls t seen h = stays R s t seen h.1 (shown_by R seen (shown.Closed how) h.2 (λ n m. refl))
  acted w s (needs.Write bytes) halls t seen h = record {
    out = bytes;
    past = ap (λ z. written z.past) h.1 ∙ (written_both s.past (needs.Write bytes ∷ []) ∙ ap (λ z. written s.past ++ z) (append-nil bytes));
    shows = λ n m. ap (λ z. out_at {R = R} n (Act m) z) h.2;
  }
  acted w s (needs.Look name) halls t seen h = go h.1.0 h.1.2
    where
      go : (answer : looking.Look R) → looked listing_of answer (served (needs.Look name) s) ≡ Some t → Writes R s t seen
      go (looks.Found n rules wants) e = let is = some_same (replied (needs.Found (n, listing_of rules) (told_settings wants)) (served (needs.Look name) s)) t e in silent R s t (needs.Look name) seen refl (ap (λ z. z.past) (sym is)) (shown_by R seen shown.Nothing h.2 (λ n m. refl))
      go (looks.UnknownApp n) e = let is = some_same (replied needs.UnknownApp (served (needs.Look name) s)) t e in silent R s t (needs.Look name) seen refl (ap (λ z. z.past) (sym is)) (shown_by R seen shown.Nothing h.2 (λ n m. refl))
      go looks.NoMemory e = absurd (let k : None ≡ Some t = e in cc)
  acted w s (needs.Begin rules request) halls t seen h = begun h.1.0 h.1.2
    where
      begun : (b : beginning.Begun) → IsBegun b (served (needs.Begin rules request) s) t seen → Writes R s t seen
      begun (beginnings.Interrupted verdict lines) e = silent R s t (needs.Begin rules request) seen refl (ap (λ z. z.past) e.0) (shown_by R seen (shown.Lines lines) e.1 (λ n m. refl))
      begun (beginnings.Goes half lines) e = silent R s t (needs.Begin rules request) seen refl (ap (λ z. z.past) e.0) (shown_by R seen (shown.Lines lines) e.1 (λ n m. refl))
  acted w s (needs.Finish half response) halls t seen h = silent R s t (needs.Finish half response) seen refl (ap (λ z. z.past) h.1.2) (shown_by R seen (shown.Lines h.1.0.lines) h.1.3 (λ n m. refl))
  acted w s (needs.Retire half) halls t seen h = silent R s t (needs.Retire half) seen refl (ap (λ z. z.past) h.1.2) (shown_by R seen (shown.Lines h.1.0) h.1.3 (λ n m. refl))
  acted w s (needs.Enter key) halls t seen h = silent R s t (needs.Enter key) seen refl (ap (λ z. z.past) h.0.2) (shown_by R seen shown.Nothing h.1 (λ n m. refl))
  acted w s (needs.Park ticket life half) halls t seen h = silent R s t (needs.Park ticket life half) seen refl (ap (λ z. z.past) h.0.1) (shown_by R seen shown.Nothing h.1 (λ n m. refl))
  acted w s (needs.Leave ticket) halls t seen h = silent R s t (needs.Leave ticket) seen refl (ap (λ z. z.past) h.0.1) (shown_by R seen shown.Nothing h.1 (λ n m. refl))
  acted w s (needs.Resume key) halls t seen h = silent R s t (needs.Resume key) seen refl (ap (λ z. z.past) h.0.2) (shown_by R seen shown.Nothing h.1 (λ n m. refl))

has_is : (peers : List Peer) (n : ℕ) (s : Conn) → Has peers n s → so_far n peers ≡ written s.past
has_is peers n s h = ap of_found h.found ∙ ap (λ z. written z.past) h.conn

wrote : (n m : ℕ) (s t : Conn) (peers : List Peer) (out : List ℕ) → Has peers m s → written t.past ≡ written s.past ++ out → so_far n (with_conn m t peers) ≡ so_far n peers ++ cond (nat_eq m n) out []
wrote n m s t peers out h past = dite (ℕ_discrete m n)
    (λ e. subst (λ k. so_far k (with_conn m t peers) ≡ so_far k peers ++ cond (nat_eq m k) out []) e
    (ap of_found (found_changed m t peers h.peer h.found) ∙ (past ∙ (ap (λ z. z ++ out) (sym (has_is peers m s h)) ∙ ap (λ (b : Bool). so_far m peers ++ cond b out []) (sym (eq-eqb m m refl))))))
    (λ ne. ap of_found (found_else m n t peers ne) ∙ (sym (append-nil (so_far n peers)) ∙ ap (λ (b : Bool). so_far n peers ++ cond b out []) (sym (ne_eqb m n ne))))

one_more : (n : ℕ) (peers : List Peer) (p : Peer) → p.conn.past ≡ [] → so_far n (peers ++ p ∷ []) ≡ so_far n peers
one_more n [] p e = go (is_peer n p)
  where
    go : (b : Bool) → of_found (cond b (Some p) None) ≡ []
    go true = ap written e
    go false = refl
one_more n (x ∷ xs) p e = go (is_peer n x) (one_more n xs p e)
  where
    go : (b : Bool) → so_far n (xs ++ p ∷ []) ≡ so_far n xs → of_found (cond b (Some x) (find (is_peer n) (xs ++ p ∷ []))) ≡ of_found (cond b (Some x) (find (is_peer n) xs))
    go true same = refl
    go false same = same

sent_past : (bytes : List ℕ) (s : Conn) → (sent bytes s).past ≡ s.past
sent_past bytes s = go (is_close (need_of s))
  where
    go : (b : Bool) → (cond b s (record { size = s.size; input = s.input ++ bytes; ended = s.ended; replies = s.replies; past = s.past })).past ≡ s.past
    go true = refl
    go false = refl

shut_past : (s : Conn) → (shut s).past ≡ s.past
shut_past s = go (is_close (need_of s))
  where
    go : (b : Bool) → (cond b s (record { size = s.size; input = s.input; ended = true; replies = s.replies; past = s.past })).past ≡ s.past
    go true = refl
    go false = refl

wrote_none : (n m : ℕ) (s t : Conn) (peers : List Peer) → Has peers m s → t.past ≡ s.past → so_far n (with_conn m t peers) ≡ so_far n peers ++ []
wrote_none n m s t peers h same = wrote n m s t peers [] h (ap written same ∙ sym (append-nil (written s.past))) ∙ ap (λ z. so_far n peers ++ z) (sym (same_both (nat_eq m n)))

module _ {R : Type 0} (listing_of : R → Listing) where
  stepped : (w : World R) (step : Step R) (u : World R) (seen : Seen) (n : ℕ) → Steps listing_of w step u seen → so_far n u.peers ≡ so_far n w.peers ++ out_at n step seen
  stepped w (Open m) u seen n h = ap (λ z. so_far n z.peers) h.0 ∙ (one_more n w.peers (record { number = m; conn = opening w.size }) refl ∙ sym (append-nil (so_far n w.peers)))
  stepped w (Feed m bytes) u seen n h = ap (λ z. so_far n z.peers) h.2 ∙ wrote_none n m h.0 (sent bytes h.0) w.peers h.1 (sent_past bytes h.0)
  stepped w (End m) u seen n h = ap (λ z. so_far n z.peers) h.2 ∙ wrote_none n m h.0 (shut h.0) w.peers h.1 (shut_past h.0)
  stepped w (Act m) u seen n h =
      let a = acted listing_of w h.before h.need h.halls h.next seen h.acts in
      ap (λ z. so_far n z.peers) h.state ∙ (wrote n m h.before h.next w.peers a.out h.has a.past ∙ ap (λ z. so_far n w.peers ++ z) (sym (a.shows n m)))
  stepped w (Tick units) u seen n h = ap (λ z. so_far n z.peers) h.0 ∙ sym (append-nil (so_far n w.peers))
  stepped w (Expire shard) u seen n h = ap (λ z. so_far n z.peers) h.3 ∙ sym (append-nil (so_far n w.peers))
  stepped w (Reload apps) u seen n h = ap (λ z. so_far n z.peers) h.2 ∙ sym (append-nil (so_far n w.peers))
  stepped w Stats u seen n h = ap (λ z. so_far n z.peers) h.0 ∙ sym (append-nil (so_far n w.peers))

  ran : (w : World R) (log : List (Step R × Seen)) (u : World R) (n : ℕ) → Runs listing_of w log u → so_far n u.peers ≡ so_far n w.peers ++ output_of n log
  ran w [] u n h = ap (λ z. so_far n z.peers) h ∙ sym (append-nil (so_far n w.peers))
  ran w (x ∷ xs) u n h = ran h.0 xs u n h.3 ∙ (ap (λ z. z ++ output_of n xs) (stepped w x.0 h.0 x.1 n h.2) ∙ append_assoc (so_far n w.peers) (out_at n x.0 x.1) (output_of n xs))

  pub output_is_of_needs : (w : World R) (log : List (Step R × Seen)) (u : World R) (n : ℕ) (s : Conn) → w.peers ≡ [] → Runs listing_of w log u → Has u.peers n s → output_of n log ≡ written s.past
  output_is_of_needs w log u n s none h has =
      ap (λ z. so_far n z ++ output_of n log) (sym none) ∙ (sym (ran w log u n h) ∙ has_is u.peers n s has)
