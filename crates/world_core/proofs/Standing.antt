-- Several connections, and the one of a number among them.
use Rattle.std.proofs.Common.{◌≡◌, ℕ, ◌+◌, ◌≤◌, Bool, true, false, cond, nat_eq, List, [], ◌∷◌, ◌++◌, slice_get, Option, Some, None, find, refl, sym, ap, ◌∙◌, subst, arith, eq-eqb}
use Rattle.tx_core.specs.HalfView.{HalfView}
use Rattle.hall_core.specs.declared.calls.Ticket.{Ticket}
use Rattle.hall_core.specs.declared.row.Row.{Row}
use Rattle.hall_core.specs.Kept.{one, running, total}
use Rattle.hall_core.specs.Rows.{changed}
use Rattle.hall_core.specs.State as table
use Rattle.hall_core.specs.Step.{IsRunning}
use Rattle.hall_core.specs.Totals.{none_counted, total_without}
use Rattle.conn_core.specs.Stands.{Stands, spent_in, tickets_in}
use Rattle.conn_core.specs.Trace.{held_by}
use Rattle.conn_core.proofs.Served.{plain_when}
use Rattle.world_core.specs.World.{Conn, Halls, Peer, is_peer, with_conn}
use Rattle.world_core.specs.Standing.{Connection, StandAll, StandsAt, Runs, TicketsRun, count_of, given_to, is_numbered, is_ticket, running_at, spent_by}
use Rattle.world_core.proofs.Tickets.{count_both}

abbrev Hall : Type 0
Hall = table.State HalfView

-- the connection of a number stands for that of the number
pub peer_found : (n : ℕ) (vs : List Connection) (peers : List Peer) (v : Connection) → StandAll vs peers → find (is_numbered n) vs ≡ Some v → (peer : Peer) × (find (is_peer n) peers ≡ Some peer) × StandsAt v peer
peer_found n [] [] v all e = absurd (let k : None ≡ Some v = e in cc)
peer_found n [] (p ∷ ps) v all e = absurd all
peer_found n (x ∷ xs) [] v all e = absurd all
peer_found n (x ∷ xs) (p ∷ ps) v all e = go (is_numbered n x) refl (peer_found n xs ps v all.1)
  where
    go : (b : Bool) → is_numbered n x ≡ b → (find (is_numbered n) xs ≡ Some v → (peer : Peer) × (find (is_peer n) ps ≡ Some peer) × StandsAt v peer)
        → (peer : Peer) × (find (is_peer n) (p ∷ ps) ≡ Some peer) × StandsAt v peer
    go true t rest =
        let same : Some x ≡ Some v = sym (ap (λ b. cond b (Some x) (find (is_numbered n) xs)) t) ∙ e in let is : x ≡ v = cc in
        (p, ap (λ b. cond b (Some p) (find (is_peer n) ps)) (ap (λ k. nat_eq k n) (sym all.0.number) ∙ t), subst (λ z. StandsAt z p) is all.0)
    go false t rest =
        let r = rest (sym (ap (λ b. cond b (Some x) (find (is_numbered n) xs)) t) ∙ e) in
        (r.0, ap (λ b. cond b (Some p) (find (is_peer n) ps)) (ap (λ k. nat_eq k n) (sym all.0.number) ∙ t) ∙ r.1, r.2)

-- where there is one of the number, there is a connection of it
pub numbered_found : (n : ℕ) (vs : List Connection) (peers : List Peer) (peer : Peer) → StandAll vs peers → find (is_peer n) peers ≡ Some peer → (v : Connection) × (find (is_numbered n) vs ≡ Some v)
numbered_found n [] [] peer all e = absurd (let k : None ≡ Some peer = e in cc)
numbered_found n [] (p ∷ ps) peer all e = absurd all
numbered_found n (x ∷ xs) [] peer all e = absurd all
numbered_found n (x ∷ xs) (p ∷ ps) peer all e = go (is_numbered n x) refl (numbered_found n xs ps peer all.1)
  where
    go : (b : Bool) → is_numbered n x ≡ b → (find (is_peer n) ps ≡ Some peer → (v : Connection) × (find (is_numbered n) xs ≡ Some v)) → (v : Connection) × (find (is_numbered n) (x ∷ xs) ≡ Some v)
    go true t rest = (x, ap (λ b. cond b (Some x) (find (is_numbered n) xs)) t)
    go false t rest =
        let r = rest (sym (ap (λ b. cond b (Some p) (find (is_peer n) ps)) (ap (λ k. nat_eq k n) (sym all.0.number) ∙ t)) ∙ e) in
        (r.0, ap (λ b. cond b (Some x) (find (is_numbered n) xs)) t ∙ r.1)

pick : (a b : Bool) (xs ys : List Connection) (ps qs : List Peer) → a ≡ b → (a ≡ true → StandAll xs ps) → (a ≡ false → StandAll ys qs) → StandAll (cond a xs ys) (cond b ps qs)
pick true true xs ys ps qs e t f = t refl
pick false false xs ys ps qs e t f = f refl
pick true false xs ys ps qs e t f = absurd (let k : true ≡ false = e in cc)
pick false true xs ys ps qs e t f = absurd (let k : false ≡ true = e in cc)

-- one of them goes on at another state
pub changed_stands : (n : ℕ) (vs : List Connection) (peers : List Peer) (v t : Connection) (s : Conn) → StandAll vs peers → find (is_numbered n) vs ≡ Some v → t.number ≡ v.number → t.conn.broken ≡ false → Stands t.conn s
    → StandAll (changed (is_numbered n) (λ z. t) vs) (with_conn n s peers)
changed_stands n [] [] v t s all e number whole stands = all
changed_stands n [] (p ∷ ps) v t s all e number whole stands = absurd all
changed_stands n (x ∷ xs) [] v t s all e number whole stands = absurd all
changed_stands n (x ∷ xs) (p ∷ ps) v t s all e number whole stands =
    pick (is_numbered n x) (is_peer n p) (t ∷ xs) (x ∷ changed (is_numbered n) (λ z. t) xs) (record { number = p.number; conn = s } ∷ ps) (p ∷ with_conn n s ps) (ap (λ k. nat_eq k n) all.0.number)
    (λ yes.
    let same : Some x ≡ Some v = sym (ap (λ b. cond b (Some x) (find (is_numbered n) xs)) yes) ∙ e in let is : x ≡ v = cc in
    (record { number = number ∙ (ap (λ z. z.number) (sym is) ∙ all.0.number); whole = whole; stands = stands }, all.1))
    (λ no. (all.0, changed_stands n xs ps v t s all.1 (sym (ap (λ b. cond b (Some x) (find (is_numbered n) xs)) no) ∙ e) number whole stands))

pub appended : (vs : List Connection) (peers : List Peer) (v : Connection) (p : Peer) → StandAll vs peers → StandsAt v p → StandAll (vs ++ v ∷ []) (peers ++ p ∷ [])
appended [] [] v p all h = (h, tt)
appended [] (q ∷ qs) v p all h = absurd all
appended (x ∷ xs) [] v p all h = absurd all
appended (x ∷ xs) (q ∷ qs) v p all h = (all.0, appended xs qs v p all.1 h)

-- ---- a ticket that one of them holds

found_le : {A : Type 0} (f : A → ℕ) (test : A → Bool) (xs : List A) (x : A) → find test xs ≡ Some x → f x ≤ total f xs
found_le f test xs x e = let h = total_without f test xs x e in omega arith

-- what is given is spent, or held
held_total : (i n : ℕ) (vs : List Connection) (peers : List Peer) → StandAll vs peers → spent_by i n peers + total (λ v. count_of i n (held_by v.conn.hold)) vs ≡ given_to i n peers
held_total i n [] [] all = refl
held_total i n [] (p ∷ ps) all = absurd all
held_total i n (x ∷ xs) [] all = absurd all
held_total i n (x ∷ xs) (p ∷ ps) all =
    let one_of : count_of i n (tickets_in p.conn.replies) ≡ count_of i n (spent_in p.conn.past) + count_of i n (held_by x.conn.hold) =
    ap (count_of i n) (plain_when x.conn p.conn all.0.whole all.0.stands).tickets ∙ count_both i n (spent_in p.conn.past) (held_by x.conn.hold) in
    let rest = held_total i n xs ps all.1 in omega arith

counted_runs : (n : ℕ) (rows : List (Row HalfView)) → 1 ≤ running n rows → IsRunning rows n
counted_runs n rows h = go (find (table.runs n) rows) refl
  where
    go : (o : Option (Row HalfView)) → find (table.runs n) rows ≡ o → IsRunning rows n
    go None e = absurd (let none : running n rows ≡ 0 = none_counted (table.runs n) rows e in omega arith)
    go (Some row) e = (row, e)

pub held_runs : (halls : Halls) (vs : List Connection) (peers : List Peer) (k : ℕ) (v : Connection) (ticket : Ticket) → TicketsRun halls peers → StandAll vs peers → find (is_numbered k) vs ≡ Some v → held_by v.conn.hold ≡ ticket ∷ [] → Runs halls ticket
held_runs halls vs peers k v ticket run all found held = go (slice_get halls ticket.shard) refl
  where
    itself : one (is_ticket ticket.shard ticket.number ticket) ≡ 1
    itself = ap (λ b. one (cond b (nat_eq ticket.number ticket.number) false)) (eq-eqb ticket.shard ticket.shard refl) ∙ ap one (eq-eqb ticket.number ticket.number refl)

    runs : 1 ≤ running_at ticket.number (slice_get halls ticket.shard)
    runs =
        let a : count_of ticket.shard ticket.number (held_by v.conn.hold) ≡ one (is_ticket ticket.shard ticket.number ticket) + 0 = ap (count_of ticket.shard ticket.number) held in
        let b = itself in
        let c = found_le (λ z. count_of ticket.shard ticket.number (held_by z.conn.hold)) (is_numbered k) vs v found in
        let d = held_total ticket.shard ticket.number vs peers all in
        let e = run.held ticket.shard ticket.number in omega arith

    go : (o : Option Hall) → slice_get halls ticket.shard ≡ o → Runs halls ticket
    go None e = absurd (let a : running_at ticket.number (slice_get halls ticket.shard) ≡ 0 = ap (running_at ticket.number) e in let b = runs in omega arith)
    go (Some hall) e = (hall, e, counted_runs ticket.number hall.rows (let a : running_at ticket.number (slice_get halls ticket.shard) ≡ running ticket.number hall.rows = ap (running_at ticket.number) e in let b = runs in omega arith))
