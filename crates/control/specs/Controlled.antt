-- What a running agent does for the lines of its input.
use Rattle.std.specs.Prelude.{◌≡◌, ℕ, List, [], ◌∷◌, ◌++◌, Option}
use Rattle.waf_io.specs.Sink.{Adds}
use Rattle.sec_read.specs.FileWords.{Named}
use Rattle.console.specs.Orders as console
use Rattle.console.specs.Orders.{Asks, IsLine, Takes}
use Rattle.console.specs.declared.order.Order as order
use Rattle.console.specs.declared.order.Order.TheVariants as orders
use Rattle.console.specs.declared.next.Asked as asking
use Rattle.console.specs.declared.next.Asked.TheVariants as asked
use Rattle.conn_worker.specs.Desk.{Passes}
use Rattle.reports.specs.Report.{AddsPrefix}
use Rattle.control.specs.declared.obeying.ControlEnd as end
use Rattle.control.specs.declared.obeying.ControlEnd.TheVariants as ends
use Rattle.control.specs.Turns.{ComesTo, Makes, RoseBy, Turn, failed_reads, text_of}

-- what stands around the loop: the input, its passes, what the output holds, and how often a file could not be read
pub record Around : Type 0 where
  pub input : console.Around
  pub passes : Passes
  pub held : Option (List ℕ)
  pub faults : ℕ

abbrev pub around : console.Around → Passes → Option (List ℕ) → ℕ → Around
around input passes held faults = record { input = input; passes = passes; held = held; faults = faults }

module _ (content : Option Named) (name : List ℕ) where
  -- the order was taken, and came to this
  pub record Did (o : order.Order) (t : Turn) (a b : Around) : Type 0 where
    pub asked : Asks (asked.Order o) a.input b.input
    pub comes : ComesTo content name o t
    pub made : Makes t a.passes b.passes
    pub reads : RoseBy (failed_reads t) a.faults b.faults

  -- and its line was printed
  abbrev pub Turned : order.Order → Turn → Around → Around → Type 0
  Turned o t a b = Did o t a b × Adds a.held (text_of name t) b.held

  -- orders, each with what it came to, one after the other
  abbrev pub Runs : List (order.Order × Turn) → Around → Around → Type 0
  Runs [] a b = b ≡ a
  Runs (e ∷ log) a c = (b : Around) × Turned e.0 e.1 a b × Runs log b c

  -- nothing but input was taken
  abbrev pub Heard : asking.Asked → Around → Around → Type 0
  Heard what a b = Asks what a.input b.input × (b ≡ record a { input = b.input })

  -- how it ended, after these orders
  abbrev pub EndsSo : end.ControlEnd → Around → Around → Type 0
  EndsSo ends.Stopped a b = Heard (asked.Order orders.Stop) a b
  EndsSo ends.Ended a b = Heard asked.End a b
  EndsSo ends.ReadFault a b = Heard asked.ReadFault a b
  EndsSo ends.WriteFault a b = (o : order.Order) × (t : Turn) × Did o t a b × AddsPrefix a.held (text_of name t) b.held

  -- the loop was run from a to b
  pub record Controlled (how : end.ControlEnd) (a b : Around) : Type 0 where
    pub log : List (order.Order × Turn)
    pub mid : Around
    pub runs : Runs log a mid
    pub over : EndsSo how mid b
