-- A call of one shard among all.
use Rattle.std.proofs.Common.{◌≡◌, ℕ, ◌<◌, length, get_or, set, slice_get, Some, refl, sym, ap, ◌∙◌, subst}
use Rattle.std.proofs.lemmas.Option.{slice_get-get_or, slice_get_within}
use Rattle.std.proofs.lemmas.List.{length-set}
use mathlib.Core.Logic.{dite}
use native.Mathlib.Decide.{ℕ_discrete}
use Rattle.tx_core.specs.HalfView.{HalfView}
use Rattle.hall_core.specs.declared.Key.{Key}
use Rattle.hall_core.specs.declared.calls.Ticket.{Ticket}
use Rattle.hall_core.specs.declared.calls.Entry as entering
use Rattle.hall_core.specs.declared.calls.Entry.TheVariants as entries
use Rattle.hall_core.specs.declared.calls.Call as calling
use Rattle.hall_core.specs.declared.calls.Call.TheVariants as calls
use Rattle.hall_core.specs.declared.calls.Reply as answering
use Rattle.hall_core.specs.declared.calls.Reply.TheVariants as answers
use Rattle.hall_core.specs.Step as turn
use Rattle.hall_core.specs.Keeping.{entered_runs}
use Rattle.world_core.specs.World.{Halls}
use Rattle.world_core.specs.Acts.{Called}
use Rattle.world_core.specs.Standing.{AreNumbered, Runs}
use Rattle.world_core.proofs.Tickets.{Hall, at_other, at_same, shard_stays}

pub at_place : (halls : Halls) (k : ℕ) (x : Hall) → k < length halls → x ≡ get_or halls k x → slice_get halls k ≡ Some x
at_place halls k x within is = slice_get-get_or halls k x within ∙ ap Some (sym is)

pub within : (halls : Halls) (k : ℕ) (x : Hall) → slice_get halls k ≡ Some x → k < length halls
within halls k x e = slice_get_within halls k x e

pub calls_at : (halls others : Halls) (k : ℕ) (x : Hall) (c : calling.Call HalfView) (r : answering.Reply HalfView) → k < length halls → x ≡ get_or halls k x → turn.may x c → turn.allows x c r → others ≡ set halls k (turn.after x c r)
    → Called halls k c r others
calls_at halls others k x c r lt is may reply state = record { hall = x; is = at_place halls k x lt is; may = may; reply = reply; state = state }

pub numbered : (halls others : Halls) (k : ℕ) (c : calling.Call HalfView) (r : answering.Reply HalfView) → Called halls k c r others → AreNumbered halls → AreNumbered others
numbered halls others k c r h is i hall e =
    let y = turn.after h.hall c r in
    let now : slice_get others k ≡ Some y = ap (λ z. slice_get z k) h.state ∙ at_same halls k h.hall y h.is in
    dite (ℕ_discrete i k)
    (λ same.
    let one_hall : Some y ≡ Some hall = sym now ∙ (sym (ap (slice_get others) same) ∙ e) in let is_it : y ≡ hall = cc in
    ap (λ z. z.shard) (sym is_it) ∙ (shard_stays h.hall c r ∙ (is k h.hall h.is ∙ sym same)))
    (λ ne. is i hall (sym (ap (λ z. slice_get z i) h.state ∙ at_other halls k i y ne) ∙ e))

pub as_many : (halls others : Halls) (k : ℕ) (c : calling.Call HalfView) (r : answering.Reply HalfView) → Called halls k c r others → length others ≡ length halls
as_many halls others k c r h = ap length h.state ∙ length-set halls k (turn.after h.hall c r)

-- who entered has a ticket that may be parked
pub entered : (halls others : Halls) (k : ℕ) (key : Key) (entry : entering.Entry) (ticket : Ticket) → AreNumbered halls → Called halls k (calls.Enter key) (answers.OfEnter entry) others → entry ≡ entries.Entered ticket → Runs others ticket
entered halls others k key entry ticket is h e =
    let h2 = subst (λ z. Called halls k (calls.Enter key) (answers.OfEnter z) others) e h in
    let y = turn.after h2.hall (calls.Enter key) (answers.OfEnter (entries.Entered ticket)) in
    let shard : ticket.shard ≡ k = h2.reply.3 ∙ is k h2.hall h2.is in
    (y, ap (slice_get others) shard ∙ (ap (λ z. slice_get z k) h2.state ∙ at_same halls k h2.hall y h2.is), entered_runs h2.hall y key ticket h2.reply refl)

pub made_at : (halls : Halls) (k : ℕ) (x y : Hall) (c : calling.Call HalfView) (r : answering.Reply HalfView) → k < length halls → x ≡ get_or halls k x → turn.may x c → turn.allows x c r → y ≡ turn.after x c r
    → Called halls k c r (set halls k y)
made_at halls k x y c r lt is may reply state = record { hall = x; is = at_place halls k x lt is; may = may; reply = reply; state = ap (set halls k) state }

-- what a list of shards is
abbrev IsKept : Halls → Type 0
IsKept halls = (0 < length halls) × (length halls < 4294967296) × AreNumbered halls

pub kept : (halls others : Halls) (k : ℕ) (c : calling.Call HalfView) (r : answering.Reply HalfView) → IsKept halls → Called halls k c r others → IsKept others
kept halls others k c r h called =
    let n = as_many halls others k c r called in
    (subst (λ z. 0 < z) (sym n) h.0, subst (λ z. z < 4294967296) (sym n) h.1, numbered halls others k c r called h.2)

-- the shard of a ticket that runs
pub its_hall : (halls now : Halls) (k : ℕ) (x : Hall) (ticket : Ticket) → halls ≡ now → Runs now ticket → k ≡ ticket.shard → x ≡ get_or halls k x → (k < length halls) × turn.IsRunning x.rows ticket.number
its_hall halls now k x ticket same runs e is =
    let found : slice_get halls k ≡ Some runs.0 = ap (slice_get halls) e ∙ (ap (λ z. slice_get z ticket.shard) same ∙ runs.1) in
    let lt = within halls k runs.0 found in
    let one : Some x ≡ Some runs.0 = sym (at_place halls k x lt is) ∙ found in let is_it : x ≡ runs.0 = cc in
    (lt, subst (λ z. turn.IsRunning z.rows ticket.number) (sym is_it) runs.2)

pub seen_as : (halls now : Halls) (k j : ℕ) (c : calling.Call HalfView) (r : answering.Reply HalfView) (others : Halls) → halls ≡ now → k ≡ j → Called halls k c r others → Called now j c r others
seen_as halls now k j c r others same e h = subst (λ (z : ℕ). Called now z c r others) e (subst (λ (z : Halls). Called z k c r others) same h)
