-- What a pass owns after calls on one shard.
use Rattle.std.proofs.Common.{◌≡◌, ℕ, zero, suc, ◌<◌, List, [], ◌∷◌, ◌++◌, append_assoc, length, map, set, slice_get, Some, refl, sym, ap, ◌∙◌, subst, arith}
use Rattle.std.proofs.lemmas.List.{length-map}
use Rattle.std.proofs.lemmas.Option.{slice_get_within}
use Rattle.turn_lock.specs.History.{entry}
use Rattle.turn_lock.specs.Lock.{own_of, share_of}
use Rattle.hall_core.specs.declared.calls.Call.{Call}
use Rattle.hall_core.specs.declared.calls.Entry as entering
use Rattle.hall_core.specs.declared.calls.Entry.TheVariants.{Entered}
use Rattle.hall_core.specs.declared.calls.Reply.{Reply}
use Rattle.hall_core.specs.declared.calls.Ticket.{Ticket}
use Rattle.hall_core.specs.Shared.{IsOpen}
use Rattle.hall.specs.Passes.{Holds, HoldsEntered, IsPassOfHall, Seat, Turned, passes_of, shards_of}
use Rattle.tx_core.specs.HalfView.{HalfView}
use Rattle.conn_worker.specs.Entries.{Adds, After, Hall, HallEntry, HallPass, Held, lists_of, shares_of}
use Rattle.conn_worker.proofs.Lists.{at_map, got, map_at, map_set, set_again, unseen}

pub turned : (h : Hall) (shard : ℕ) (p q : HallPass) (call : Call HalfView) (reply : Reply HalfView) → IsPassOfHall h q
    → Turned h shard p call reply q → After h shard (entry call reply ∷ []) p q
turned h shard p q call reply is t = record {
  of_hall = is;
  adds = record {
    own = own_of t.old;
    at = map_at own_of (passes_of p) shard t.old t.had;
    is = ap (map own_of) t.has ∙ map_set own_of (passes_of p) shard t.new ∙ ap (set (lists_of p) shard) t.extends.listed;
  };
  shares = ap (map share_of) t.has ∙ unseen share_of (passes_of p) shard t.old t.new t.had t.extends.share;
}

same_item : {A : Type 0} (xs : List A) (i : ℕ) (x y : A) → slice_get xs i ≡ Some x → slice_get xs i ≡ Some y → x ≡ y
same_item xs i x y a b = let k : Some x ≡ Some y = sym a ∙ b in cc

added_both : (shard : ℕ) (es fs : List HallEntry) (a b c : List (List HallEntry)) → Adds shard es a b → Adds shard fs b c → Adds shard (es ++ fs) a c
added_both shard es fs a b c x y =
    let here : slice_get b shard ≡ Some (x.own ++ es) = ap (λ l. slice_get l shard) x.is ∙ got a shard x.own (x.own ++ es) x.at in
    let own : y.own ≡ x.own ++ es = same_item b shard y.own (x.own ++ es) y.at here in
    record {
      own = x.own;
      at = x.at;
      is = y.is ∙ ap (λ (l : List (List HallEntry)). set l shard (y.own ++ fs)) x.is ∙ set_again a shard (x.own ++ es) (y.own ++ fs)
          ∙ ap (λ (l : List HallEntry). set a shard (l ++ fs)) own ∙ ap (set a shard) (append_assoc x.own es fs);
    }

pub both : (h : Hall) (shard : ℕ) (es fs : List HallEntry) (p q r : HallPass) → After h shard es p q → After h shard fs q r → After h shard (es ++ fs) p r
both h shard es fs p q r a b = record {
  of_hall = b.of_hall;
  adds = added_both shard es fs (lists_of p) (lists_of q) (lists_of r) a.adds b.adds;
  shares = b.shares ∙ a.shares;
}

pub as_many : (h : Hall) (p : HallPass) → IsPassOfHall h p → length (lists_of p) ≡ shards_of h
as_many h p is = length-map (passes_of p) own_of ∙ is.count

pub held : (p : HallPass) (t : Ticket) → Held (lists_of p) t → Holds p t
held p t h =
    let x = at_map own_of (passes_of p) t.shard h.own h.at in
    record {
      shard = slice_get_within (passes_of p) t.shard x.0 x.1;
      is_open = λ q has. subst (λ (l : List HallEntry). IsOpen t.number l) (sym x.2 ∙ ap own_of (same_item (passes_of p) t.shard x.0 q x.1 has)) h.is_open;
    }

there : {A : Type 0} (xs : List A) (i : ℕ) → i < length xs → (x : A) × (slice_get xs i ≡ Some x)
there [] i h = absurd (omega arith)
there (x ∷ xs) zero h = (x, refl)
there (x ∷ xs) (suc i) h = there xs i (omega arith)

pub holds : (p : HallPass) (t : Ticket) → Holds p t → Held (lists_of p) t
holds p t h =
    let x = there (passes_of p) t.shard h.shard in
    record { own = own_of x.0; at = map_at own_of (passes_of p) t.shard x.0 x.1; is_open = h.is_open x.0 x.1 }

pub entered : (p : HallPass) (answer : entering.Entry) (t : Ticket) → answer ≡ Entered t → HoldsEntered p answer → Held (lists_of p) t
entered p answer t is h = holds p t (subst (λ (e : entering.Entry). HoldsEntered p e) is h)
