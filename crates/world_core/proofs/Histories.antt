-- What a shard goes through is a legal history of it.
use Rattle.std.proofs.Common.{◌≡◌, ◌≢◌, ℕ, ◌<◌, List, [], ◌∷◌, ◌++◌, length, set, slice_get, Some, refl, sym, ap, ◌∙◌, subst}
use Rattle.std.proofs.lemmas.Option.{slice_get_within, slice_get-get_or, get_or_from_slice_get}
use Rattle.std.proofs.lemmas.List.{get_or-set_same, get_or-set_other, length-set}
use mathlib.Core.Logic.{dite}
use native.Mathlib.Decide.{ℕ_discrete}
use Rattle.sec_ast.specs.declared.listing.Listing.{Listing}
use Rattle.tx_core.specs.HalfView.{HalfView}
use Rattle.hall_core.specs.declared.calls.Call as calling
use Rattle.hall_core.specs.declared.calls.Call.TheVariants as calls
use Rattle.hall_core.specs.declared.calls.Reply as answering
use Rattle.hall_core.specs.declared.calls.Reply.TheVariants as answers
use Rattle.hall_core.specs.Shard.{shard_of}
use Rattle.hall_core.specs.State as table
use Rattle.hall_core.specs.Step as turn
use Rattle.hall_core.specs.Kept.{left_by}
use Rattle.hall_core.specs.Promised.{Made, Legal, call_of, reply_of}
use Rattle.conn_core.specs.declared.seen.Seen.{Seen}
use Rattle.conn_core.specs.Trace as needs
use Rattle.world_core.specs.declared.step.Step.{Step}
use Rattle.world_core.specs.declared.step.Step.TheVariants.{Open, Feed, End, Act, Tick, Expire, Reload, Stats}
use Rattle.world_core.specs.World.{Conn, Halls, Need, World, later}
use Rattle.world_core.specs.Acts.{Acts, Called}
use Rattle.world_core.specs.Steps.{Runs, Steps}

abbrev Hall : Type 0
Hall = table.State HalfView

-- the shard came from one state to the other by a legal history
record Came (halls : Halls) (i : ℕ) (hall : Hall) : Type 0 where
  made : List (Made HalfView)
  legal : Legal hall made
  is : slice_get halls i ≡ Some (left_by call_of reply_of hall made)

at_same : (xs : Halls) (k : ℕ) (x y : Hall) → slice_get xs k ≡ Some x → slice_get (set xs k y) k ≡ Some y
at_same xs k x y e = let lt = slice_get_within xs k x e in
    slice_get-get_or (set xs k y) k y (subst (λ n. k < n) (sym (length-set xs k y)) lt) ∙ ap Some (get_or-set_same xs k y y lt)

at_other : (xs : Halls) (k j : ℕ) (x y : Hall) → j ≢ k → slice_get xs j ≡ Some x → slice_get (set xs k y) j ≡ Some x
at_other xs k j x y ne e = let lt = slice_get_within xs j x e in
    slice_get-get_or (set xs k y) j x (subst (λ n. j < n) (sym (length-set xs k y)) lt) ∙ ap Some (get_or-set_other xs k j y x ne ∙ get_or_from_slice_get xs j x x e)

stays : (halls others : Halls) (i : ℕ) (hall : Hall) → others ≡ halls → slice_get halls i ≡ Some hall → Came others i hall
stays halls others i hall same e = record { made = []; legal = tt; is = ap (λ z. slice_get z i) same ∙ e }

called : (halls others : Halls) (k : ℕ) (c : calling.Call HalfView) (r : answering.Reply HalfView) (i : ℕ) (hall : Hall) → Called halls k c r others → slice_get halls i ≡ Some hall → Came others i hall
called halls others k c r i hall h e = dite (ℕ_discrete i k)
    (λ same.
    let one : Some h.hall ≡ Some hall = sym h.is ∙ (sym (ap (slice_get halls) same) ∙ e) in let is : h.hall ≡ hall = cc in
    subst (λ z. Came others i z) is (record {
      made = (c, r) ∷ [];
      legal = (h.may, h.reply, tt);
      is = ap (λ z. slice_get z i) h.state ∙ (ap (slice_get (set halls k (turn.after h.hall c r))) same ∙ at_same halls k h.hall (turn.after h.hall c r) h.is);
    }))
    (λ ne. record { made = []; legal = tt; is = ap (λ z. slice_get z i) h.state ∙ at_other halls k i hall (turn.after h.hall c r) ne e })

module _ {R : Type 0} (listing_of : R → Listing) where
  acted : (w : World R) (s : Conn) (need : Need) (halls : Halls) (t : Conn) (seen : Seen) (i : ℕ) (hall : Hall) → Acts listing_of w s need halls t seen → slice_get w.halls i ≡ Some hall → Came halls i hall
  acted w s needs.Bytes halls t seen i hall h e = stays w.halls halls i hall h.0 e
  acted w s (needs.Look name) halls t seen i hall h e = stays w.halls halls i hall h.0 e
  acted w s (needs.Enter key) halls t seen i hall h e = called w.halls halls (shard_of (length w.halls) key) (calls.Enter key) (answers.OfEnter h.0.0) i hall h.0.1 e
  acted w s (needs.Begin rules request) halls t seen i hall h e = stays w.halls halls i hall h.0 e
  acted w s (needs.Park ticket life half) halls t seen i hall h e = called w.halls halls ticket.shard (calls.Park ticket (later w.moment life) half) answers.OfPark i hall h.0.0 e
  acted w s (needs.Leave ticket) halls t seen i hall h e = called w.halls halls ticket.shard (calls.Leave ticket) answers.OfLeave i hall h.0.0 e
  acted w s (needs.Resume key) halls t seen i hall h e = called w.halls halls (shard_of (length w.halls) key) (calls.Resume key) (answers.OfResume h.0.0) i hall h.0.1 e
  acted w s (needs.Finish half response) halls t seen i hall h e = stays w.halls halls i hall h.0 e
  acted w s (needs.Retire half) halls t seen i hall h e = stays w.halls halls i hall h.0 e
  acted w s (needs.Write bytes) halls t seen i hall h e = stays w.halls halls i hall h.0 e
  acted w s (needs.Close how) halls t seen i hall h e = stays w.halls halls i hall h.0 e

  stepped : (w : World R) (step : Step R) (u : World R) (seen : Seen) (i : ℕ) (hall : Hall) → Steps listing_of w step u seen → slice_get w.halls i ≡ Some hall → Came u.halls i hall
  stepped w (Open m) u seen i hall h e = stays w.halls u.halls i hall (ap (λ z. z.halls) h.0) e
  stepped w (Feed m bytes) u seen i hall h e = stays w.halls u.halls i hall (ap (λ z. z.halls) h.2) e
  stepped w (End m) u seen i hall h e = stays w.halls u.halls i hall (ap (λ z. z.halls) h.2) e
  stepped w (Act m) u seen i hall h e = subst (λ (z : World R). Came z.halls i hall) (sym h.state) (acted w h.before h.need h.halls h.next seen i hall h.acts e)
  stepped w (Tick units) u seen i hall h e = stays w.halls u.halls i hall (ap (λ z. z.halls) h.0) e
  stepped w (Expire shard) u seen i hall h e = subst (λ (z : World R). Came z.halls i hall) (sym h.3) (called w.halls h.1 shard (calls.Expire w.moment) (answers.OfExpire h.0) i hall h.2 e)
  stepped w (Reload apps) u seen i hall h e = stays w.halls u.halls i hall (ap (λ z. z.halls) h.2) e
  stepped w Stats u seen i hall h e = stays w.halls u.halls i hall (ap (λ z. z.halls) h.0) e

legal_both : (s : Hall) (xs ys : List (Made HalfView)) → Legal s xs → Legal (left_by call_of reply_of s xs) ys → Legal s (xs ++ ys)
legal_both s [] ys a b = b
legal_both s (x ∷ xs) ys a b = (a.0, a.1, legal_both (turn.after s x.0 x.1) xs ys a.2 b)

left_both : (s : Hall) (xs ys : List (Made HalfView)) → left_by call_of reply_of s (xs ++ ys) ≡ left_by call_of reply_of (left_by call_of reply_of s xs) ys
left_both s [] ys = refl
left_both s (x ∷ xs) ys = left_both (turn.after s x.0 x.1) xs ys

module _ {R : Type 0} (listing_of : R → Listing) where
  pub shards_are_legal : (w : World R) (log : List (Step R × Seen)) (u : World R) (i : ℕ) (hall : Hall) → Runs listing_of w log u → slice_get w.halls i ≡ Some hall
      → (made : List (Made HalfView)) × Legal hall made × (slice_get u.halls i ≡ Some (left_by call_of reply_of hall made))
  shards_are_legal w [] u i hall h e = ([], tt, ap (λ z. slice_get z.halls i) h ∙ e)
  shards_are_legal w (x ∷ xs) u i hall h e =
      let one = stepped listing_of w x.0 h.0 x.1 i hall h.2 e in let rest = shards_are_legal h.0 xs u i (left_by call_of reply_of hall one.made) h.3 one.is in
      (one.made ++ rest.0, legal_both hall one.made rest.0 one.legal rest.1, rest.2 ∙ ap Some (sym (left_both hall one.made rest.0)))
