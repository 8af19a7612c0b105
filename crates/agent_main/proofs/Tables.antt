-- The table of `once`, and what a run over it comes to.
use Rattle.std.proofs.Common.{◌≡◌, ◌⊎◌, inl, ℕ, Bool, true, false, List, [], ◌∷◌, ◌++◌, ◌+◌, Option, Some, None, cond, refl, sym, ◌∙◌, ap, subst}
use Rattle.std.specs.Option.{IfSome}
use Rattle.std.specs.List.{find}
use Rattle.std.proofs.lemmas.Bool.{eq-eqb}
use Rattle.sec_ast.specs.declared.listing.Listing.{Listing}
use Rattle.tx_core.specs.HalfView.{HalfView}
use Rattle.hall_core.specs.declared.Key.{Key}
use Rattle.hall_core.specs.declared.row.Row.{Row}
use Rattle.hall_core.specs.declared.row.Stage.TheVariants.{Running}
use Rattle.hall_core.specs.declared.calls.Call.TheVariants as calls
use Rattle.hall_core.specs.declared.calls.Entry as entries
use Rattle.hall_core.specs.declared.calls.Entry.TheVariants as entry
use Rattle.hall_core.specs.declared.calls.Reply.TheVariants as replies
use Rattle.hall_core.specs.declared.calls.Ticket.{Ticket}
use Rattle.hall_core.specs.State.{runs}
use Rattle.hall_core.specs.Step.{IsNew, IsRunning, after, allows}
use Rattle.conn_loop.specs.declared.connection.ConnEnd as end
use Rattle.conn_loop.specs.declared.connection.ConnEnd.TheVariants as ends
use Rattle.conn_loop.specs.Ends.{around, Serves}
use Rattle.agent_main.specs.declared.judge.TheConstants.{CAPACITY, SHARD}
use Rattle.agent_main.specs.declared.once.TheConstants.{OWN_SIZE}
use Rattle.agent_main.specs.Judge.{Desk, Table, opening, serves}
use Rattle.agent_main.specs.Run.{Exits, status_of}

-- ---- the ticket of a row that entered

module _ {A : Type 0} where
  found_last : (test : A → Bool) (xs : List A) (x : A) → test x ≡ true → (y : A) × (find test (xs ++ x ∷ []) ≡ Some y)
  found_last test [] x e = (x, ap (λ (b : Bool). cond b (Some x) None) e)
  found_last test (y ∷ ys) x e = found_or (test y) y (found_last test ys x e) where
    found_or : (b : Bool) (y : A) → (z : A) × (find test (ys ++ x ∷ []) ≡ Some z) → (z : A) × (cond b (Some y) (find test (ys ++ x ∷ [])) ≡ Some z)
    found_or true y z = (y, refl)
    found_or false y z = z

-- runs
pub entered_runs : (s t : Table) (key : Key) (e : entries.Entry) (ticket : Ticket) → e ≡ entry.Entered ticket → allows s (calls.Enter key) (replies.OfEnter e)
    → t ≡ after s (calls.Enter key) (replies.OfEnter e) → IsRunning t.rows ticket.number
entered_runs s t key e ticket is reply state =
    let allowed = subst (λ (e : entries.Entry). allows s (calls.Enter key) (replies.OfEnter e)) is reply in
    let now = subst (λ (e : entries.Entry). t ≡ after s (calls.Enter key) (replies.OfEnter e)) is state in
    let row : Row HalfView = record { key = key; number = s.given + 1; stage = Running } in
    let found = found_last (runs ticket.number) s.rows row (eq-eqb (s.given + 1) ticket.number (sym allowed.4)) in
    (found.0, ap (λ (t : Table). find (runs ticket.number) t.rows) now ∙ found.1)

-- ---- the run

new_table : (s : Table) → IsNew SHARD CAPACITY s → s ≡ record { shard = SHARD; capacity = CAPACITY; given = 0; rows = [] }
new_table s n = λ i. record { shard = n.shard_is i; capacity = n.capacity_is i; given = n.given i; rows = n.rows i }

pub exits : (status : ℕ) (how : end.ConnEnd) (rules listing : Listing) (table : Table) (last : Desk) (from left : Option (List ℕ)) (before now : ℕ) (old new : Option (List ℕ))
    → status ≡ status_of how → listing ≡ rules → IsNew SHARD CAPACITY table
    → Serves how serves OWN_SIZE (around (record { rules = listing; table = table }) from before old) (around last left now new)
    → Exits status rules from left before now old new
exits status how rules listing table last from left before now old new is same fresh h = (
  how,
  last,
  is,
  subst (λ (d : Desk). Serves how serves OWN_SIZE (around d from before old) (around last left now new)) (λ i. record { rules = same i; table = new_table table fresh i }) h,
)

-- nothing was read and written
pub exits_at_once : (rules : Listing) (from : Option (List ℕ)) (count : ℕ) (old : Option (List ℕ)) → Exits 6 rules from from count count old old
exits_at_once rules from count old = (ends.NoMemory, opening rules, refl, refl)

-- nor where there was no memory for the rules
pub exits_before : {A : Type 0} (content : Option A) (tells : A → Listing → Type 0) (other : Type 0) (from : Option (List ℕ)) (count : ℕ) (old : Option (List ℕ))
    → IfSome content (λ told. (rules : Listing) → tells told rules → Exits 6 rules from from count count old old ⊎ other)
exits_before None tells other from count old = tt
exits_before (Some told) tells other from count old = λ rules is. inl (exits_at_once rules from count old)

-- whatever words ask for it
pub exits_unread : {A : Type 0} (content : Option A) (asks : List ℕ → Type 0) (tells : A → List ℕ → Listing → Type 0) (other : Type 0) (from : Option (List ℕ)) (count : ℕ) (old : Option (List ℕ))
    → IfSome content (λ told. (name : List ℕ) (rules : Listing) → asks name → tells told name rules → Exits 6 rules from from count count old old ⊎ other)
exits_unread None asks tells other from count old = tt
exits_unread (Some told) asks tells other from count old = λ name rules asked is. inl (exits_at_once rules from count old)
