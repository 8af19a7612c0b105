-- What a connection hears is what its state is sent.
use Rattle.std.proofs.Common.{◌≡◌, ℕ, Bool, true, false, cond, List, ◌++◌, Some, refl, sym, ap, ◌∙◌, subst}
use Rattle.conn_core.specs.declared.need.Need.TheVariants as kinds
use Rattle.conn_core.specs.Calls.{kind_at}
use Rattle.conn_core.specs.Stands.{Holds, Stands, fed, is_open, listens}
use Rattle.conn_core.specs.Stands as connection
use Rattle.conn_core.specs.Trace as needs
use Rattle.conn_core.proofs.Served.{open_at}
use Rattle.conn_loop.specs.Met.{kind_of}
use Rattle.world_core.specs.World.{Conn, Need, is_close, need_of, sent, shut}
use Rattle.world_core.specs.Standing.{Becomes, Talk}
use Rattle.world_core.proofs.Waiting.{waiting}

closed_kind : (need : Need) → kind_of need ≡ kinds.Close → is_close (Some need) ≡ true
closed_kind (needs.Close how) e = refl
closed_kind needs.Bytes e = absurd cc
closed_kind (needs.Look app) e = absurd cc
closed_kind (needs.Enter key) e = absurd cc
closed_kind (needs.Begin rules request) e = absurd cc
closed_kind (needs.Park ticket life half) e = absurd cc
closed_kind (needs.Leave ticket) e = absurd cc
closed_kind (needs.Resume key) e = absurd cc
closed_kind (needs.Finish half response) e = absurd cc
closed_kind (needs.Retire half) e = absurd cc
closed_kind (needs.Write bytes) e = absurd cc

other_kind : (need : Need) → (kind_of need ≡ kinds.Close → ⊥) → is_close (Some need) ≡ false
other_kind (needs.Close how) e = absurd (e refl)
other_kind needs.Bytes e = refl
other_kind (needs.Look app) e = refl
other_kind (needs.Enter key) e = refl
other_kind (needs.Begin rules request) e = refl
other_kind (needs.Park ticket life half) e = refl
other_kind (needs.Leave ticket) e = refl
other_kind (needs.Resume key) e = refl
other_kind (needs.Finish half response) e = refl
other_kind (needs.Retire half) e = refl
other_kind (needs.Write bytes) e = refl

closes_at : (c : Talk) (s : Conn) → Holds c.stage c.hold → c.broken ≡ false → Stands c s → kind_at c.stage ≡ kinds.Close → is_close (need_of s) ≡ true
closes_at c s h whole stands e = let w = waiting c s h whole stands in ap is_close w.1.now ∙ closed_kind w.0 (sym w.1.kind ∙ e)

goes_at : (c : Talk) (s : Conn) → Holds c.stage c.hold → c.broken ≡ false → Stands c s → (kind_at c.stage ≡ kinds.Close → ⊥) → is_close (need_of s) ≡ false
goes_at c s h whole stands ne = let w = waiting c s h whole stands in ap is_close w.1.now ∙ other_kind w.0 (λ e. ne (w.1.kind ∙ e))

listens_at : (c : Talk) → c.broken ≡ false → (kind_at c.stage ≡ kinds.Close → ⊥) → listens c ≡ true
listens_at c whole ne = ap (λ (b : Bool). cond b false (is_open c.stage)) whole ∙ open_at c.stage (λ how e. ne (ap kind_at e))

-- where it has closed, nothing changes
pub deaf : (c : Talk) (piece : List ℕ) → Holds c.stage c.hold → c.broken ≡ false → kind_at c.stage ≡ kinds.Close → Becomes c c (sent piece)
deaf c piece h whole e s stands =
    let same : sent piece s ≡ s = ap (λ (b : Bool). cond b s (record { size = s.size; input = s.input ++ piece; ended = s.ended; replies = s.replies; past = s.past })) (closes_at c s h whole stands e) in
    (whole, subst (λ (z : Conn). Stands c z) (sym same) stands)

pub deaf_end : (c : Talk) → Holds c.stage c.hold → c.broken ≡ false → kind_at c.stage ≡ kinds.Close → Becomes c c shut
deaf_end c h whole e s stands =
    let same : shut s ≡ s = ap (λ (b : Bool). cond b s (record { size = s.size; input = s.input; ended = true; replies = s.replies; past = s.past })) (closes_at c s h whole stands e) in
    (whole, subst (λ (z : Conn). Stands c z) (sym same) stands)

pub hears : (c d : Talk) (piece : List ℕ) → Holds c.stage c.hold → c.broken ≡ false → d.broken ≡ false → (kind_at c.stage ≡ kinds.Close → ⊥) → ((s : Conn) → Stands c s → Stands d (fed c piece s)) → Becomes c d (sent piece)
hears c d piece h whole left ne next s stands =
    let more : Conn = record { size = s.size; input = s.input ++ piece; ended = s.ended; replies = s.replies; past = s.past } in
    let a : fed c piece s ≡ more = ap (λ (b : Bool). cond b more s) (listens_at c whole ne) in
    let b : sent piece s ≡ more = ap (λ (b : Bool). cond b s more) (goes_at c s h whole stands ne) in
    (left, subst (λ (z : Conn). Stands d z) (a ∙ sym b) (next s stands))

pub hears_end : (c d : Talk) → Holds c.stage c.hold → c.broken ≡ false → d.broken ≡ false → (kind_at c.stage ≡ kinds.Close → ⊥) → ((s : Conn) → Stands c s → Stands d (connection.shut c s)) → Becomes c d shut
hears_end c d h whole left ne next s stands =
    let more : Conn = record { size = s.size; input = s.input; ended = true; replies = s.replies; past = s.past } in
    let a : connection.shut c s ≡ more = ap (λ (b : Bool). cond b more s) (listens_at c whole ne) in
    let b : shut s ≡ more = ap (λ (b : Bool). cond b s more) (goes_at c s h whole stands ne) in
    (left, subst (λ (z : Conn). Stands d z) (a ∙ sym b) (next s stands))
