-- Orders that are done one after the other.
use Rattle.std.proofs.Common.{◌≡◌, ◌≤◌, ℕ, List, [], ◌∷◌, ◌++◌, Option, refl, subst, arith}
use Rattle.waf_io.specs.Counts.{Rose}
use Rattle.waf_io.specs.declared.sink.Wrote as wrote
use Rattle.sec_read.specs.FileWords.{Named}
use Rattle.console.specs.Orders as console
use Rattle.console.specs.Orders.{Asks}
use Rattle.console.specs.declared.order.Order as order
use Rattle.console.specs.declared.next.Asked.TheVariants as asked
use Rattle.conn_worker.specs.Desk.{Passes}
use Rattle.control.specs.Controlled.{Around, Did, Runs, Turned, around}
use Rattle.control.specs.Turns.{ComesTo, Turn, text_of}
use Rattle.control.specs.Written.{IsWritten, Obeyed}

pub runs_more : (content : Option Named) (name : List ℕ) (log : List (order.Order × Turn)) (o : order.Order) (t : Turn) (a b c : Around) → Runs content name log a b → Turned content name o t b c
    → Runs content name (log ++ (o, t) ∷ []) a c
runs_more content name [] o t a b c same turned = (c, subst (λ (x : Around). Turned content name o t x c) same turned, refl)
runs_more content name (e ∷ log) o t a b c runs turned = (runs.0, runs.1, runs_more content name log o t runs.0 b c runs.2 turned)

-- what an order came to, over files that tell the same
pub obeyed_is : (content told : Option Named) (name : List ℕ) (o : order.Order) (how : wrote.Wrote) (x y : console.Around) (p q : Passes) (held now : Option (List ℕ)) (before after : ℕ)
    → told ≡ content → Asks (asked.Order o) x y → Obeyed told name o how p q held now before after
    → (t : Turn) × Did content name o t (around x p held before) (around y q now after) × IsWritten how (text_of name t) held now
obeyed_is content told name o how x y p q held now before after same asks obeyed = (
  obeyed.turn,
  record {
    asked = asks;
    comes = subst (λ (k : Option Named). ComesTo k name o obeyed.turn) same obeyed.comes;
    made = obeyed.made;
    reads = obeyed.reads;
  },
  obeyed.written,
)

-- a count that rose later rose
pub rose_since : (first before now : ℕ) → first ≤ before → Rose before now → Rose first now
rose_since first before now le rose = omega (arith, le, rose)
