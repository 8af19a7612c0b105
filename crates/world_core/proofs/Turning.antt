-- From what a connection became to the state after the step.
use Rattle.std.proofs.Common.{Result, Ok, Err, ◌++◌, ◌+◌, ◌≡◌, ℕ, Bool, true, false, cond, List, [], ◌∷◌, set, slice_get, arith, Option, Some, None, find, refl, sym, ap, ◌∙◌, subst}
use Rattle.std.specs.Arc.{arc_value}
use Rattle.std.specs.Prelude.{IfOk, IfSome}
use Rattle.waf_plain.specs.declared.NoMemory.{NoMemory}
use Rattle.tx_core.specs.HalfView.{HalfView}
use Rattle.hall_core.specs.declared.calls.Ticket.{Ticket}
use Rattle.hall_core.specs.declared.calls.Expiry as expiring
use Rattle.hall_core.specs.declared.calls.Call.TheVariants as calls
use Rattle.hall_core.specs.declared.calls.Reply.TheVariants as answers
use Rattle.shelf.specs.declared.apps.Apps.{Apps}
use Rattle.shelf.specs.declared.calls.Published as publishing
use Rattle.shelf.specs.Step.{IsNew, IsPublished, published}
use Rattle.conn_core.specs.declared.stage.Hold.{Hold}
use Rattle.conn_core.specs.declared.need.Need as kind
use Rattle.conn_core.specs.Calls.{kind_at}
use Rattle.conn_core.specs.Trace.{held_by}
use Rattle.hall_core.specs.Kept.{running}
use Rattle.hall_core.specs.State as table
use Rattle.world_core.proofs.Places.{IsAt}
use Rattle.conn_core.specs.declared.seen.Seen.{Seen}
use Rattle.conn_core.specs.declared.seen.Seen.TheVariants as shown
use Rattle.conn_core.specs.Stands.{Holds, Stands, is_open, listens, opening}
use Rattle.world_core.specs.declared.step.Step.{Step}
use Rattle.world_core.specs.declared.step.Step.TheVariants.{Open, Feed, End, Act, Tick, Expire, Reload, Stats}
use Rattle.world_core.specs.World.{Conn, Halls, Has, Peer, World, later, sent, shut, with_conn}
use Rattle.world_core.specs.Acts.{Called}
use Rattle.world_core.specs.Steps.{IsOver, Steps, counts_of, opened, told}
use Rattle.world_core.specs.Standing.{Connection, AreNew, Becomes, Opens, running_at, IsWhole, May, Moves, NeedsA, Shared, Runs, SharedView, StandAll, StandsAt, StandsFor, Stepped, Talk, TicketsRun, is_numbered}
use Rattle.world_core.specs.Serving.{Acted, ActsAs, SharedDesk}
use Rattle.world_core.proofs.Standing.{appended, changed_stands, held_runs, numbered_found, peer_found}
use Rattle.world_core.proofs.Tickets.{tickets_run}
use Rattle.world_core.proofs.Meeting.{acts_in}
use Rattle.world_core.proofs.Waiting.{waiting}

-- the connection at the place of a number stands for the state of the number
pub has_stands : (v : SharedView) (w : World Shared) (n i : ℕ) (x : Connection) (s : Conn) → StandsFor v w → IsAt (is_numbered n) v.peers i x → Has w.peers n s → (x.conn.broken ≡ false) × Stands x.conn s
has_stands v w n i x s h at has =
    let p = peer_found n v.peers w.peers x h.peers at.found in
    let same : Some p.0 ≡ Some has.peer = sym p.1 ∙ has.found in let is : p.0 ≡ has.peer = cc in
    (p.2.whole, subst (λ (z : Conn). Stands x.conn z) (ap (λ (z : Peer). z.conn) is ∙ has.conn) p.2.stands)

-- one connection goes on, with other shards
pub goes_on : (v new : SharedView) (w : World Shared) (n i : ℕ) (x y : Connection) (halls : Halls) (next : Conn) → StandsFor v w → IsAt (is_numbered n) v.peers i x
    → y.number ≡ x.number → y.conn.broken ≡ false → Stands y.conn next
    → new.size ≡ v.size → new.shelf ≡ v.shelf → new.moment ≡ v.moment → new.halls ≡ halls → new.peers ≡ set v.peers i y → TicketsRun halls (with_conn n next w.peers)
    → StandsFor new (record w { halls = halls; peers = with_conn n next w.peers })
goes_on v new w n i x y halls next h at number whole stands size shelf moment is_halls is_peers run = record {
  size = size ∙ h.size;
  shelf = shelf ∙ h.shelf;
  halls = is_halls;
  moment = moment ∙ h.moment;
  peers = subst (λ (z : List Connection). StandAll z (with_conn n next w.peers)) (at.change (λ z. y) ∙ sym is_peers) (changed_stands n v.peers w.peers x y next h.peers at.found number whole stands);
  tickets = run;
}

-- from the fields to the view
over : (V v new : SharedView) (step : Step Shared) (r : Result Seen NoMemory) → V ≡ v → Stepped arc_value V step r new → Stepped arc_value v step r new
over V v new step r same h = subst (λ (z : SharedView). Stepped arc_value z step r new) same h

-- where it has an answer
answered : (V new : SharedView) (step : Step Shared) (r : Result Seen NoMemory) (P : Seen → Type 0) → IfOk r P → ((seen : Seen) → P seen → Moves arc_value V step seen new) → Stepped arc_value V step r new
answered V new step (Ok seen) P h f = f seen h
answered V new step (Err e) P h f = tt

-- what a step of one connection leaves
pub record Leaves (V new : SharedView) (halls : Halls) (i : ℕ) (y : Connection) : Type 0 where
  pub size : new.size ≡ V.size
  pub shelf : new.shelf ≡ V.shelf
  pub moment : new.moment ≡ V.moment
  pub is_halls : new.halls ≡ halls
  pub is_peers : new.peers ≡ set V.peers i y

module _ (V v new : SharedView) (n i : ℕ) (x y : Connection) (same : V ≡ v) (at : IsAt (is_numbered n) V.peers i x) where
  pub whole_at : (w : World Shared) (s : Conn) → StandsFor v w → Has w.peers n s → IsWhole x.conn
  whole_at w s h has = let p = has_stands V w n i x s (subst (λ (z : SharedView). StandsFor z w) (sym same) h) at has in (p.0, s, p.1)

  pub keeps_at : (m : May v (Act n)) → IfSome x.conn.hold (λ hold. Runs V.halls hold.ticket)
  keeps_at m = go x.conn.hold refl
    where
      go : (o : Option (Hold Ticket)) → x.conn.hold ≡ o → IfSome x.conn.hold (λ hold. Runs V.halls hold.ticket)
      go None e = subst (λ o. IfSome o (λ hold. Runs V.halls hold.ticket)) (sym e) tt
      go (Some hold) e =
          let h = subst (λ (z : SharedView). StandsFor z m.state) (sym same) m.stands in
          let runs : Runs m.state.halls hold.ticket = held_runs m.state.halls V.peers m.state.peers n x hold.ticket h.tickets h.peers at.found (ap held_by e) in
          subst (λ o. IfSome o (λ hold. Runs V.halls hold.ticket)) (sym e) (subst (λ z. Runs z hold.ticket) (sym h.halls) runs)

  pub needs_at : (found : kind.Need) → found ≡ kind_at x.conn.stage → Holds x.conn.stage x.conn.hold → NeedsA v n found
  needs_at found is holds w s h has =
      let p = has_stands V w n i x s (subst (λ (z : SharedView). StandsFor z w) (sym same) h) at has in
      let waits = waiting x.conn s holds p.0 p.1 in
      (waits.0, waits.1.now, is ∙ waits.1.kind)

  pub feeds : (bytes piece : List ℕ) (r : Result Seen NoMemory) → y.number ≡ x.number → piece ≡ bytes → IfOk r (λ seen. (seen ≡ shown.Nothing) × Becomes x.conn y.conn (sent piece)) → Leaves V new V.halls i y
      → Stepped arc_value v (Feed n bytes) r new
  feeds bytes piece r number is h l = over V v new (Feed n bytes) r same (answered V new (Feed n bytes) r (λ seen. (seen ≡ shown.Nothing) × Becomes x.conn y.conn (sent piece)) h
      (λ seen k w stands may.
      let s = may.0 in let p = has_stands V w n i x s stands at may.1 in
      let b = subst (λ (l : List ℕ). Becomes x.conn y.conn (sent l)) is k.1 s p.1 in
      let u : World Shared = record w { peers = with_conn n (sent bytes s) w.peers } in
      let steps : Steps arc_value w (Feed n bytes) u seen = (s, may.1, refl, k.0) in
      (u, steps, goes_on V new w n i x y w.halls (sent bytes s) stands at number b.0 b.1 l.size l.shelf l.moment (l.is_halls ∙ stands.halls) l.is_peers (tickets_run arc_value w (Feed n bytes) u seen stands.tickets steps))))

  pub ends : (r : Result Seen NoMemory) → y.number ≡ x.number → IfOk r (λ seen. (seen ≡ shown.Nothing) × Becomes x.conn y.conn shut) → Leaves V new V.halls i y → Stepped arc_value v (End n) r new
  ends r number h l = over V v new (End n) r same (answered V new (End n) r (λ seen. (seen ≡ shown.Nothing) × Becomes x.conn y.conn shut) h
      (λ seen k w stands may.
      let s = may.0 in let p = has_stands V w n i x s stands at may.1 in
      let b = k.1 s p.1 in
      let u : World Shared = record w { peers = with_conn n (shut s) w.peers } in
      let steps : Steps arc_value w (End n) u seen = (s, may.1, refl, k.0) in
      (u, steps, goes_on V new w n i x y w.halls (shut s) stands at number b.0 b.1 l.size l.shelf l.moment (l.is_halls ∙ stands.halls) l.is_peers (tickets_run arc_value w (End n) u seen stands.tickets steps))))

  pub acts : (r : Result Seen NoMemory) (old desk : SharedDesk) → y.number ≡ x.number → IfOk r (λ seen. Acted old desk x.conn y.conn seen)
      → old.shelf ≡ V.shelf → old.halls ≡ V.halls → old.moment ≡ V.moment → new.shelf ≡ desk.shelf → new.halls ≡ desk.halls → new.moment ≡ desk.moment → new.size ≡ V.size → new.peers ≡ set V.peers i y
      → Stepped arc_value v (Act n) r new
  acts r old desk number h shelf halls moment shelf' halls' moment' size peers = over V v new (Act n) r same (answered V new (Act n) r (λ seen. Acted old desk x.conn y.conn seen) h
      (λ seen k w stands may.
      let s = may.0 in let p = has_stands V w n i x s stands at may.1 in
      let a : ActsAs old desk y.conn s seen = k s p.1 in
      let u : World Shared = record w { halls = desk.halls; peers = with_conn n a.next w.peers } in
      let steps : Steps arc_value w (Act n) u seen = record {
        before = s;
        has = may.1;
        need = a.need;
        waits = a.waits;
        halls = desk.halls;
        next = a.next;
        acts = acts_in arc_value w old s a.need desk.halls a.next seen (shelf ∙ stands.shelf) (halls ∙ stands.halls) (moment ∙ stands.moment) a.acts;
        state = refl;
      } in
      (u, steps, goes_on V new w n i x y desk.halls a.next stands at number a.whole a.stands size (shelf' ∙ (a.shelf ∙ shelf)) (moment' ∙ (a.moment ∙ moment)) halls' peers (tickets_run arc_value w (Act n) u seen stands.tickets steps))))

-- one that was opened is there
pub is_there : (V v : SharedView) (w : World Shared) (n : ℕ) (s : Conn) → V ≡ v → StandsFor v w → Has w.peers n s → find (is_numbered n) V.peers ≡ None → ⊥
is_there V v w n s same h has none =
    let k = subst (λ (z : SharedView). StandsFor z w) (sym same) h in
    let f = numbered_found n V.peers w.peers has.peer k.peers has.found in
    let e : Some f.0 ≡ None = sym f.1 ∙ none in absurd cc

-- ---- steps of no connection

whole_now : (c : Talk) → listens c ≡ true → c.broken ≡ false
whole_now c e = go c.broken refl
  where
    go : (b : Bool) → c.broken ≡ b → c.broken ≡ false
    go true is = absurd (let k : false ≡ true = sym (ap (λ (b : Bool). cond b false (is_open c.stage)) is) ∙ e in cc)
    go false is = is

pub opens : (V v new : SharedView) (n : ℕ) (y : Connection) → V ≡ v → y.number ≡ n → listens y.conn ≡ true → Stands y.conn (opening V.size)
    → new.size ≡ V.size → new.shelf ≡ V.shelf → new.moment ≡ V.moment → new.halls ≡ V.halls → new.peers ≡ V.peers ++ y ∷ [] → Moves arc_value v (Open n) shown.Nothing new
opens V v new n y same number hears stands size shelf moment halls peers w h may =
    let k = subst (λ (z : SharedView). StandsFor z w) (sym same) h in
    let u : World Shared = record w { peers = opened w n } in
    let steps : Steps arc_value w (Open n) u shown.Nothing = (refl, refl) in
    let at : StandsAt y (record { number = n; conn = opening w.size }) = record { number = number; whole = whole_now y.conn hears; stands = subst (λ (z : ℕ). Stands y.conn (opening z)) k.size stands } in (
      u,
      steps,
      record {
        size = size ∙ k.size;
        shelf = shelf ∙ k.shelf;
        halls = halls ∙ k.halls;
        moment = moment ∙ k.moment;
        peers = subst (λ (z : List Connection). StandAll z (opened w n)) (sym peers) (appended V.peers w.peers y (record { number = n; conn = opening w.size }) k.peers at);
        tickets = tickets_run arc_value w (Open n) u shown.Nothing k.tickets steps;
      },
    )

pub ticks : (V v new : SharedView) (units : ℕ) → V ≡ v → new.moment ≡ later V.moment units → new.size ≡ V.size → new.shelf ≡ V.shelf → new.halls ≡ V.halls → new.peers ≡ V.peers → Moves arc_value v (Tick units) shown.Nothing new
ticks V v new units same moment size shelf halls peers w h may =
    let k = subst (λ (z : SharedView). StandsFor z w) (sym same) h in
    let u : World Shared = record w { moment = later w.moment units } in
    let steps : Steps arc_value w (Tick units) u shown.Nothing = (refl, refl) in (
      u,
      steps,
      record {
        size = size ∙ k.size;
        shelf = shelf ∙ k.shelf;
        halls = halls ∙ k.halls;
        moment = moment ∙ ap (λ z. later z units) k.moment;
        peers = subst (λ (z : List Connection). StandAll z w.peers) (sym peers) k.peers;
        tickets = k.tickets;
      },
    )

pub reloads : (V v new : SharedView) (apps : Apps Shared) (answer : publishing.Published) (seen : Seen) → V ≡ v → IsPublished V.shelf answer → new.shelf ≡ published apps answer V.shelf → seen ≡ told answer
    → new.size ≡ V.size → new.moment ≡ V.moment → new.halls ≡ V.halls → new.peers ≡ V.peers → Moves arc_value v (Reload apps) seen new
reloads V v new apps answer seen same is shelf tells size moment halls peers w h may =
    let k = subst (λ (z : SharedView). StandsFor z w) (sym same) h in
    let u : World Shared = record w { shelf = published apps answer w.shelf } in
    let steps : Steps arc_value w (Reload apps) u seen = (answer, subst (λ z. IsPublished z answer) k.shelf is, refl, tells) in (
      u,
      steps,
      record {
        size = size ∙ k.size;
        shelf = shelf ∙ ap (λ z. published apps answer z) k.shelf;
        halls = halls ∙ k.halls;
        moment = moment ∙ k.moment;
        peers = subst (λ (z : List Connection). StandAll z w.peers) (sym peers) k.peers;
        tickets = k.tickets;
      },
    )

pub expires : (V v new : SharedView) (shard : ℕ) (expiry : expiring.Expiry HalfView) (seen : Seen) (others : Halls) → V ≡ v → Called V.halls shard (calls.Expire V.moment) (answers.OfExpire expiry) others → IsOver expiry seen
    → new.halls ≡ others → new.size ≡ V.size → new.moment ≡ V.moment → new.shelf ≡ V.shelf → new.peers ≡ V.peers → Moves arc_value v (Expire shard) seen new
expires V v new shard expiry seen others same called over_it halls size moment shelf peers w h may =
    let k = subst (λ (z : SharedView). StandsFor z w) (sym same) h in
    let u : World Shared = record w { halls = others } in
    let called2 : Called w.halls shard (calls.Expire w.moment) (answers.OfExpire expiry) others = subst (λ (z : Halls). Called z shard (calls.Expire w.moment) (answers.OfExpire expiry) others) k.halls (subst (λ (z : ℕ). Called V.halls shard (calls.Expire z) (answers.OfExpire expiry) others) k.moment called) in
    let steps : Steps arc_value w (Expire shard) u seen = (expiry, others, called2, refl, over_it) in (
      u,
      steps,
      record {
        size = size ∙ k.size;
        shelf = shelf ∙ k.shelf;
        halls = halls;
        moment = moment ∙ k.moment;
        peers = subst (λ (z : List Connection). StandAll z w.peers) (sym peers) k.peers;
        tickets = tickets_run arc_value w (Expire shard) u seen k.tickets steps;
      },
    )

pub counts : (V v : SharedView) (seen : Seen) → V ≡ v → seen ≡ shown.Counts (counts_of V.halls) → Moves arc_value v Stats seen v
counts V v seen same is w h may =
    let k = subst (λ (z : SharedView). StandsFor z w) (sym same) h in
    (w, (refl, is ∙ ap (λ z. shown.Counts (counts_of z)) k.halls), h)

pub reloaded : (V v new : SharedView) (apps : Apps Shared) (answer : publishing.Published) (r : Result Seen NoMemory) (seen : Seen) → V ≡ v → IsPublished V.shelf answer → new.shelf ≡ published apps answer V.shelf → r ≡ Ok seen → told answer ≡ seen
    → new.size ≡ V.size → new.moment ≡ V.moment → new.halls ≡ V.halls → new.peers ≡ V.peers → Stepped arc_value v (Reload apps) r new
reloaded V v new apps answer r seen same is shelf result tells size moment halls peers =
    subst (λ z. Stepped arc_value v (Reload apps) z new) (sym result) (reloads V v new apps answer seen same is shelf (sym tells) size moment halls peers)

-- ---- before the first step

none_run : (shards capacity : ℕ) (halls : Halls) → AreNew shards capacity halls → TicketsRun halls []
none_run shards capacity halls new = record {
  shard = λ i hall e. (new.each i hall e).shard_is;
  held = λ i n. go i n (slice_get halls i) refl;
}
  where
    go : (i n : ℕ) (o : Option (table.State HalfView)) → slice_get halls i ≡ o → running_at n (slice_get halls i) + 0 ≡ 0
    go i n None e = let a : running_at n (slice_get halls i) ≡ 0 = ap (running_at n) e in omega arith
    go i n (Some hall) e = let a : running_at n (slice_get halls i) ≡ 0 = ap (running_at n) e ∙ ap (running n) (new.each i hall e).rows in omega arith

pub begins : (v : SharedView) (size shards capacity : ℕ) (apps : Apps Shared) → v.size ≡ size → IsNew apps v.shelf → AreNew shards capacity v.halls → v.moment ≡ 0 → v.peers ≡ [] → Opens size shards capacity apps v
begins v size shards capacity apps size_is shelf halls moment peers =
    let w : World Shared = record { size = v.size; shelf = v.shelf; halls = v.halls; moment = v.moment; peers = [] } in (
      w,
      record { size_is = size_is; shelf = shelf; halls = halls; moment = moment; peers = refl },
      record {
        size = refl;
        shelf = refl;
        halls = refl;
        moment = refl;
        peers = subst (λ (z : List Connection). StandAll z []) (sym peers) tt;
        tickets = none_run shards capacity v.halls halls;
      },
    )
