-- The table as an object behind a lock: an entry of its history is a call with its reply.
use Rattle.std.proofs.Common.{◌≡◌, ◌≢◌, ℕ, ◌+◌, List, [], ◌∷◌, ◌++◌, slice_set, ap, ⊎_elim, arith}
use mathlib.Core.Option.{some}
use lib.ListN.{get_elem?}
use Rattle.turn_lock.specs.declared.history.Entry.{Entry}
use Rattle.turn_lock.specs.History.{entry, Interleaves}
use Rattle.hall_core.specs.declared.calls.Call.{Call}
use Rattle.hall_core.specs.declared.calls.Reply.{Reply}
use Rattle.hall_core.specs.State.{State}
use Rattle.hall_core.specs.Step.{may, allows, after, starts}
use Rattle.hall_core.specs.Kept as kept
use Rattle.hall_core.specs.Keeping as keeping

-- a list into which two were woven has what both have
pub total_interleaves : {A : Type 0} (f : A → ℕ) (xs ys zs : List A) → Interleaves xs ys zs
    → kept.total f zs ≡ kept.total f xs + kept.total f ys
total_interleaves f xs ys [] h = let a : kept.total f xs ≡ 0 = ap (kept.total f) h.0 in let b : kept.total f ys ≡ 0 = ap (kept.total f) h.1 in omega arith
total_interleaves f xs ys (z ∷ zs) h = ⊎_elim
    (λ k. let a : kept.total f xs ≡ f z + kept.total f k.0 = ap (kept.total f) k.1 in let r = total_interleaves f k.0 ys zs k.2 in omega arith)
    (λ k. let a : kept.total f ys ≡ f z + kept.total f k.0 = ap (kept.total f) k.1 in let r = total_interleaves f xs k.0 zs k.2 in omega arith) h

module _ {P : Type 0} where
  abbrev pub call_of : Entry (Call P) (Reply P) → Call P
  call_of e = e.call

  abbrev pub reply_of : Entry (Call P) (Reply P) → Reply P
  reply_of e = e.reply

  -- who has made just these calls may make this one, whatever others do meanwhile
  abbrev pub fits : List (Entry (Call P) (Reply P)) → Call P → Type 0
  fits own call = kept.fits call_of reply_of own call

  -- what holds of the table and the lists of all its callers
  abbrev pub Kept : State P → List (List (Entry (Call P) (Reply P))) → Type 0
  Kept s lists = kept.Kept call_of reply_of s lists

  -- the ticket was given in this list and not spent there
  abbrev pub IsOpen : ℕ → List (Entry (Call P) (Reply P)) → Type 0
  IsOpen n own = kept.IsOpen call_of reply_of n own

  pub kept_first : (s : State P) → starts s → Kept s ([] ∷ [])
  kept_first s z = keeping.kept_first call_of reply_of s z

  pub kept_call : (s : State P) (lists : List (List (Entry (Call P) (Reply P)))) (i : ℕ)
      (own : List (Entry (Call P) (Reply P))) (c : Call P) (r : Reply P)
      → Kept s lists → get_elem? lists i ≡ some own → fits own c → may s c → allows s c r
      → Kept (after s c r) (slice_set lists i (own ++ entry c r ∷ []))
  kept_call s lists i own c r k at f m a = keeping.kept_call call_of reply_of s lists i own (entry c r) k at f m a

  pub kept_new : (s : State P) (lists : List (List (Entry (Call P) (Reply P)))) → Kept s lists → Kept s (lists ++ [] ∷ [])
  kept_new s lists k = keeping.kept_new call_of reply_of s lists k

  pub kept_join : (s : State P) (lists : List (List (Entry (Call P) (Reply P)))) (i j : ℕ)
      (xs ys zs : List (Entry (Call P) (Reply P)))
      → Kept s lists → get_elem? lists i ≡ some xs → j ≢ i → get_elem? lists j ≡ some ys
      → Interleaves xs ys zs → Kept s (slice_set (slice_set lists i zs) j [])
  kept_join s lists i j xs ys zs k at ne at' both =
      keeping.kept_join call_of reply_of s lists i j xs ys zs k at ne at' (λ g. total_interleaves g xs ys zs both)

  pub may_fitting : (s : State P) (lists : List (List (Entry (Call P) (Reply P)))) (i : ℕ)
      (own : List (Entry (Call P) (Reply P))) (c : Call P)
      → Kept s lists → get_elem? lists i ≡ some own → fits own c → may s c
  may_fitting s lists i own c k at f = keeping.may_fitting call_of reply_of s lists i own c k at f
