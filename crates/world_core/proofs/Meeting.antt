-- From a need that the tables met to an act of the definition.
use Rattle.std.proofs.Common.{Result, Ok, Err, ◌≡◌, ◌⊎◌, inl, inr, ℕ, Bool, true, false, List, [], ◌∷◌, ◌++◌, append-nil, append_assoc, length, slice_get, Some, refl, sym, ap, ◌∙◌, subst, arith}
use Rattle.std.specs.Prelude.{IfOk}
use Rattle.std.specs.Arc.{arc_value}
use Rattle.waf_plain.specs.declared.NoMemory.{NoMemory}
use Rattle.sec_ast.specs.declared.listing.Listing.{Listing}
use Rattle.conn_core.specs.declared.seen.Seen.{Seen}
use Rattle.conn_core.specs.declared.seen.Seen.TheVariants as shown
use Rattle.conn_core.specs.declared.need.Need.TheVariants as kinds
use Rattle.conn_core.specs.Calls.{At, kind_at, out_of}
use Rattle.conn_core.specs.Stands.{Holds, Stands, left_of, replied, served}
use Rattle.conn_core.specs.Trace as needs
use Rattle.conn_core.specs.Trace.{trace}
use Rattle.conn_core.proofs.Inner.{trace_now}
use Rattle.conn_core.proofs.Served.{plain_when}
use Rattle.conn_core.proofs.Standing.{IsNext, next_write}
use Rattle.conn_loop.specs.Answered.{due}
use Rattle.conn_loop.specs.Met.{IsMet, Met, asks_host, met}
use Rattle.world_core.specs.World.{Conn, Halls, Need, World, need_of}
use Rattle.world_core.specs.Acts.{Acts, Reply}
use Rattle.world_core.specs.Standing.{Talk}
use Rattle.world_core.specs.Serving.{Acted, ActsAs, Desk, Serves, SharedDesk, Writes, state_at, with_replies}
use Rattle.world_core.proofs.Waiting.{at_past, begins, first_is, now_is}

-- ---- the replies one after another

got : (mine : List Reply) (s : Conn) → record { size = s.size; input = s.input; ended = s.ended; replies = s.replies ++ mine; past = s.past } ≡ with_replies mine s
got [] s = ap (λ (l : List Reply). record { size = s.size; input = s.input; ended = s.ended; replies = l; past = s.past }) (append-nil s.replies)
got (reply ∷ mine) s = ap (λ (l : List Reply). record { size = s.size; input = s.input; ended = s.ended; replies = l; past = s.past }) (sym (append_assoc s.replies (reply ∷ []) mine)) ∙ got mine (replied reply s)

abbrev after : Need → List Reply → Conn → Conn
after need mine s = record { size = s.size; input = s.input; ended = s.ended; replies = s.replies ++ mine; past = s.past ++ need ∷ [] }

met_after : (need : Need) (mine : List Reply) (s : Conn) → length mine ≡ due need → met need mine s ≡ after need mine s
met_after (needs.Look app) [] s e = absurd (omega arith)
met_after (needs.Look app) (reply ∷ mine) s e = refl
met_after needs.Bytes mine s e = refl
met_after (needs.Enter key) mine s e = refl
met_after (needs.Begin rules request) mine s e = refl
met_after (needs.Park ticket life half) mine s e = refl
met_after (needs.Leave ticket) mine s e = refl
met_after (needs.Resume key) mine s e = refl
met_after (needs.Finish half response) mine s e = refl
met_after (needs.Retire half) mine s e = refl
met_after (needs.Write bytes) mine s e = refl
met_after (needs.Close how) mine s e = refl

met_is : (need : Need) (mine : List Reply) (s : Conn) → length mine ≡ due need → met need mine s ≡ with_replies mine (served need s)
met_is need mine s e = met_after need mine s e ∙ got mine (served need s)

-- ---- the need that was met is the one that it waited with

asked : (c d : Talk) (s : Conn) (need : Need) (mine : List Reply) → Holds c.stage c.hold → c.broken ≡ false → Stands c s → asks_host (kind_at c.stage) ≡ true → d.broken ≡ false → Stands d (after need mine s) → need_of s ≡ Some need
asked c d s need mine h whole stands asks left next = elim (begins c.stage c.hold c h stands.waits whole) [
  | inl e ↦ absurd (let k : false ≡ true = sym (ap (λ stage. asks_host (kind_at stage)) e) ∙ asks in cc)
  | inr b ↦
      let p = plain_when c s whole stands in
      let found : slice_get (trace s.size s.input s.ended (s.replies ++ mine)) (length s.past) ≡ Some b.0 = first_is c s b.0 mine p b.1 in
      let then : trace s.size s.input s.ended (s.replies ++ mine) ≡ s.past ++ need ∷ left_of d [] d.ended [] =
      trace_now d (after need mine s) (plain_when d (after need mine s) left next).going ∙ append_assoc s.past (need ∷ []) (left_of d [] d.ended []) in
      let other : slice_get (trace s.size s.input s.ended (s.replies ++ mine)) (length s.past) ≡ Some need = ap (λ l. slice_get l (length s.past)) then ∙ at_past s.past need (left_of d [] d.ended []) in
      let same : Some b.0 ≡ Some need = sym found ∙ other in
      now_is c s b.0 p b.1 ∙ same
]

in_full : (b : Bool) (need : Need) (mine : List Reply) → b ≡ false → (length mine ≡ due need) ⊎ ((mine ≡ []) × (b ≡ true)) → length mine ≡ due need
in_full b need mine whole (inl e) = e
in_full b need mine whole (inr e) = absurd (let k : false ≡ true = sym whole ∙ e.1 in cc)

-- what the tables did for a connection is its act
abbrev quiet : SharedDesk → SharedDesk
quiet desk = record { shelf = desk.shelf; halls = desk.halls; moment = desk.moment; seen = shown.Nothing; starved = desk.starved }

acts_met : (old new last : SharedDesk) (c d : Talk) (s : Conn) (seen : Seen) → Holds c.stage c.hold → c.broken ≡ false → Stands c s → asks_host (kind_at c.stage) ≡ true → d.broken ≡ false → new.starved ≡ false
    → last.shelf ≡ new.shelf → last.halls ≡ new.halls → last.moment ≡ new.moment → seen ≡ new.seen → Met (Serves arc_value) c d (quiet old) new s → ActsAs old last d s seen
acts_met old new last c d s seen h whole stands asks left fed shelf halls moment shows m =
    let full = in_full d.broken m.need m.mine left m.replied in
    let now : Stands d (after m.need m.mine s) = subst (λ (z : Conn). Stands d z) (met_after m.need m.mine s full) m.stands in
    let next : Conn = with_replies m.mine (served m.need s) in
    record {
      shelf = shelf ∙ m.step.shelf;
      moment = moment ∙ m.step.moment;
      need = m.need;
      waits = asked c d s m.need m.mine h whole stands asks left now;
      next = next;
      acts = subst (λ (z : Seen). Acts arc_value (state_at old) s m.need last.halls next z) (sym shows) (subst (λ (z : Halls). Acts arc_value (state_at old) s m.need z next new.seen) (sym halls) (m.step.acts fed refl s));
      whole = left;
      stands = subst (λ (z : Conn). Stands d z) (got m.mine (served m.need s)) now;
    }

-- where there was no memory to end a request it is out of memory
pub acts_as : (old new last : SharedDesk) (c d : Talk) (s : Conn) (seen : Seen) → Holds c.stage c.hold → c.broken ≡ false → Stands c s → asks_host (kind_at c.stage) ≡ true → d.broken ≡ false → new.starved ≡ false
    → last.shelf ≡ new.shelf → last.halls ≡ new.halls → last.moment ≡ new.moment → seen ≡ new.seen → IsMet (Serves arc_value) c d (quiet old) new s → ActsAs old last d s seen
acts_as old new last c d s seen h whole stands asks left fed shelf halls moment shows (inl m) = acts_met old new last c d s seen h whole stands asks left fed shelf halls moment shows m
acts_as old new last c d s seen h whole stands asks left fed shelf halls moment shows (inr none) = absurd (let k : true ≡ false = sym none.broken ∙ left in cc)

-- what was written was to be written
next_of : (b : Bool) (s : Conn) (bytes : List ℕ) (later : List Need) → b ≡ false → IsNext b s bytes later → need_of s ≡ Some (needs.Write bytes)
next_of false s bytes later e h = ap (λ l. slice_get l (length s.past)) h ∙ at_past s.past (needs.Write bytes) later
next_of true s bytes later e h = absurd (let k : true ≡ false = e in cc)

writes_as : (desk : SharedDesk) (c d : Talk) (seen : Seen) → c.broken ≡ false → At kinds.Write c.broken c.stage → Writes c d seen → Acted desk desk c d seen
writes_as desk c d seen whole is w s stands =
    let next = next_write c s stands is in
    record {
      shelf = refl;
      moment = refl;
      need = needs.Write (out_of c.stage);
      waits = next_of c.broken s (out_of c.stage) next.0 whole next.1;
      next = served (needs.Write (out_of c.stage)) s;
      acts = (refl, refl, w.shows);
      whole = w.whole;
      stands = w.stands s stands;
    }

pub wrote : (desk : SharedDesk) (c d : Talk) (r : Result Seen NoMemory) → c.broken ≡ false → At kinds.Write c.broken c.stage → IfOk r (λ seen. Writes c d seen) → IfOk r (λ seen. Acted desk desk c d seen)
wrote desk c d (Ok seen) whole is h = writes_as desk c d seen whole is h
wrote desk c d (Err e) whole is h = tt

-- ---- an act of the definition says nothing of other connections

abbrev with_desk : {R : Type 0} → World R → Desk R → World R
with_desk w desk = record { size = w.size; shelf = desk.shelf; halls = desk.halls; moment = desk.moment; peers = w.peers }

module _ {R : Type 0} (listing_of : R → Listing) where
  beside : (w : World R) (desk : Desk R) (s : Conn) (need : Need) (halls : Halls) (t : Conn) (seen : Seen) → Acts listing_of (state_at desk) s need halls t seen → Acts listing_of (with_desk w desk) s need halls t seen
  beside w desk s needs.Bytes halls t seen h = h
  beside w desk s (needs.Look app) halls t seen h = h
  beside w desk s (needs.Enter key) halls t seen h = h
  beside w desk s (needs.Begin rules request) halls t seen h = h
  beside w desk s (needs.Park ticket life half) halls t seen h = h
  beside w desk s (needs.Leave ticket) halls t seen h = h
  beside w desk s (needs.Resume key) halls t seen h = h
  beside w desk s (needs.Finish half response) halls t seen h = h
  beside w desk s (needs.Retire half) halls t seen h = h
  beside w desk s (needs.Write bytes) halls t seen h = h
  beside w desk s (needs.Close how) halls t seen h = h

  pub acts_in : (w : World R) (desk : Desk R) (s : Conn) (need : Need) (halls : Halls) (t : Conn) (seen : Seen) → desk.shelf ≡ w.shelf → desk.halls ≡ w.halls → desk.moment ≡ w.moment
      → Acts listing_of (state_at desk) s need halls t seen → Acts listing_of w s need halls t seen
  acts_in w desk s need halls t seen es eh em h =
      let same : with_desk w desk ≡ w = λ i. record { size = w.size; shelf = es i; halls = eh i; moment = em i; peers = w.peers } in
      subst (λ (z : World R). Acts listing_of z s need halls t seen) same (beside w desk s need halls t seen h)
