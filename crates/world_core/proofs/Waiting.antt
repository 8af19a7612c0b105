-- The need that a connection waits with is that of its state.
use Rattle.std.proofs.Common.{◌≡◌, ◌⊎◌, inl, inr, ℕ, Bool, true, false, cond, ◌||◌, List, [], ◌∷◌, ◌++◌, append-nil, length, slice_get, Option, Some, None, refl, sym, ap, ◌∙◌}
use Rattle.tx_core.specs.HalfView.{HalfView}
use Rattle.hall_core.specs.declared.calls.Ticket.{Ticket}
use Rattle.conn_core.specs.declared.stage.Hold.{Hold}
use Rattle.conn_core.specs.declared.stage.Stage.{Stage}
use Rattle.conn_core.specs.declared.stage.Stage.TheVariants as at
use Rattle.conn_core.specs.Calls.{kind_at}
use Rattle.conn_core.specs.Stands.{Going, Holds, Plain, Stands, Waits, hears, left_of}
use Rattle.conn_core.specs.Trace as needs
use Rattle.conn_core.specs.Trace.{trace}
use Rattle.conn_core.proofs.Served.{plain_when, waits_for_bytes}
use Rattle.conn_loop.specs.Met.{kind_of}
use Rattle.world_core.specs.World.{Conn, Need, Rules, need_of}
use Rattle.world_core.specs.Acts.{Reply}
use Rattle.world_core.specs.Standing.{Talk}

same_cond : {A : Type 0} (b : Bool) (x : A) → cond b x x ≡ x
same_cond true x = refl
same_cond false x = refl

-- with nothing more of the input, and replies that come yet
pub trace_with : (c : Talk) (s : Conn) (later : List Reply) → Going c s → trace s.size s.input s.ended (s.replies ++ later) ≡ s.past ++ left_of c [] c.ended later
trace_with c s later g =
    let input : s.input ++ cond (hears c.stage c.ended) [] [] ≡ s.input = ap (λ (l : List ℕ). s.input ++ l) (same_cond (hears c.stage c.ended) []) ∙ append-nil s.input in
    let ended : (cond (hears c.stage c.ended) false false || s.ended) ≡ s.ended = ap (λ (b : Bool). b || s.ended) (same_cond (hears c.stage c.ended) false) in
    sym (λ i. trace s.size (input i) (ended i) (s.replies ++ later)) ∙ g.is [] false later

pub at_past : {A : Type 0} (past : List A) (x : A) (rest : List A) → slice_get (past ++ x ∷ rest) (length past) ≡ Some x
at_past [] x rest = refl
at_past (y ∷ past) x rest = at_past past x rest

-- the first of what is left, whatever is replied to it
pub record Begins (c : Talk) (need : Need) : Type 0 where
  pub kind : kind_at c.stage ≡ kind_of need
  pub first : (later : List Reply) → (rest : List Need) × (left_of c [] c.ended later ≡ need ∷ rest)

pub begins : (stage : Stage Rules HalfView) (hold : Option (Hold Ticket)) (c : Talk) → Holds stage hold → Waits stage (record c { stage = stage; hold = hold }) → c.broken ≡ false
    → (stage ≡ at.Bytes) ⊎ ((need : Need) × Begins (record c { stage = stage; hold = hold }) need)
begins at.Bytes hold c h w whole = inl refl
begins at.Ready hold c h w whole = absurd w
begins (at.Look id key request) hold c h w whole = inr (needs.Look key.app, record { kind = refl; first = λ later. (_, refl) })
begins (at.Enter id key request rules life) hold c h w whole = inr (needs.Enter key, record { kind = refl; first = λ later. (_, refl) })
begins (at.Entering id request rules life) hold c h w whole = absurd w
begins (at.Begin id request rules) hold c h w whole = inr (needs.Begin rules request, record { kind = refl; first = λ later. (_, refl) })
begins (at.Begun id) hold c h w whole = absurd w
begins (at.Park id half) None c h w whole = absurd (let k : false ≡ true = h in cc)
begins (at.Park id half) (Some hold) c h w whole = inr (needs.Park hold.ticket hold.life half, record { kind = refl; first = λ later. (_, refl) })
begins (at.Leave id verdict) None c h w whole = absurd (let k : false ≡ true = h in cc)
begins (at.Leave id verdict) (Some hold) c h w whole = inr (needs.Leave hold.ticket, record { kind = refl; first = λ later. (_, refl) })
begins (at.Retire id half) hold c h w whole = inr (needs.Retire half, record { kind = refl; first = λ later. (_, refl) })
begins (at.Retiring id) hold c h w whole = absurd w
begins (at.Resume id key response) hold c h w whole = inr (needs.Resume key, record { kind = refl; first = λ later. (_, refl) })
begins (at.Resuming id response) hold c h w whole = absurd w
begins (at.Finish id half response) hold c h w whole = inr (needs.Finish half response, record { kind = refl; first = λ later. (_, refl) })
begins (at.Finishing id) hold c h w whole = absurd w
begins at.LastLeave hold c h w whole = absurd (let k : true ≡ false = sym w ∙ whole in cc)
begins (at.Write bytes None) hold c h w whole = inr (needs.Write bytes, record { kind = refl; first = λ later. (_, refl) })
begins (at.Write bytes (Some how)) hold c h w whole = inr (needs.Write bytes, record { kind = refl; first = λ later. (_, refl) })
begins at.LastWrite hold c h w whole = absurd (let k : true ≡ false = sym w ∙ whole in cc)
begins (at.Close how) hold c h w whole = inr (needs.Close how, record { kind = refl; first = λ later. (_, refl) })

pub first_is : (c : Talk) (s : Conn) (need : Need) (later : List Reply) → Plain c s → Begins c need → slice_get (trace s.size s.input s.ended (s.replies ++ later)) (length s.past) ≡ Some need
first_is c s need later p b =
    let f = b.first later in
    ap (λ l. slice_get l (length s.past)) (trace_with c s later p.going ∙ ap (λ l. s.past ++ l) f.1) ∙ at_past s.past need f.0

pub now_is : (c : Talk) (s : Conn) (need : Need) → Plain c s → Begins c need → need_of s ≡ Some need
now_is c s need p b = ap (λ l. slice_get (trace s.size s.input s.ended l) (length s.past)) (sym (append-nil s.replies)) ∙ first_is c s need [] p b

pub record Waiting (c : Talk) (s : Conn) (need : Need) : Type 0 where
  pub now : need_of s ≡ Some need
  pub kind : kind_at c.stage ≡ kind_of need

pub waiting : (c : Talk) (s : Conn) → Holds c.stage c.hold → c.broken ≡ false → Stands c s → (need : Need) × Waiting c s need
waiting c s h whole stands = elim (begins c.stage c.hold c h stands.waits whole) [
  | inl e ↦
      let w = waits_for_bytes c s stands (ap kind_at e) in
      (needs.Bytes, record { now = ap (λ l. slice_get l (length s.past)) w.trace_is ∙ at_past s.past needs.Bytes []; kind = ap kind_at e })
  | inr b ↦ (b.0, record { now = now_is c s b.0 (plain_when c s whole stands) b.1; kind = b.1.kind })
]
