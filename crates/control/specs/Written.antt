-- What the parts of the loop owe one another.
use Rattle.std.specs.Prelude.{◌≡◌, ◌≢◌, ◌⊎◌, ℕ, List, [], ◌∷◌, ◌++◌, Option}
use Rattle.waf_io.specs.Sink.{Adds}
use Rattle.waf_io.specs.declared.sink.Wrote as wrote
use Rattle.waf_io.specs.declared.sink.Wrote.TheVariants as wrotes
use Rattle.turn_lock.specs.History.{entry}
use Rattle.turn_lock.specs.Lock.{own_of}
use Rattle.shelf.specs.declared.apps.Apps.{Apps}
use Rattle.shelf.specs.declared.calls.Published as publishing
use Rattle.shelf.specs.declared.calls.Call.TheVariants as asked
use Rattle.shelf.specs.declared.calls.Reply.TheVariants as told
use Rattle.agent_conf.specs.declared.load_fault.LoadFault.{LoadFault}
use Rattle.agent_conf.specs.declared.load_fault.LoadFault.TheVariants as faults
use Rattle.sec_read.specs.FileWords.{Named}
use Rattle.console.specs.declared.order.Order as order
use Rattle.conn_worker.specs.Desk.{Passes}
use Rattle.conn_worker.specs.Entries.{Shared, ShelfPass}
use Rattle.reports.specs.Report.{AddsPrefix}
use Rattle.control.specs.Turns.{ComesTo, Makes, RoseBy, Turn, failed_reads, kept, publish_text, starved, text_of}

-- the text was written, or a prefix of it before a write failed
abbrev pub IsWritten : wrote.Wrote → List ℕ → Option (List ℕ) → Option (List ℕ) → Type 0
IsWritten wrotes.All text old new = Adds old text new
IsWritten wrotes.Failed text old new = AddsPrefix old text new

-- the order came to this, by passes that were p and are q, and its line was written
pub record Obeyed (content : Option Named) (name : List ℕ) (o : order.Order) (how : wrote.Wrote) (p q : Passes)
    (held now : Option (List ℕ)) (before after : ℕ) : Type 0 where
  pub turn : Turn
  pub comes : ComesTo content name o turn
  pub made : Makes turn p q
  pub written : IsWritten how (text_of name turn) held now
  pub reads : RoseBy (failed_reads turn) before after

-- the applications were published, and the line of the answer was written
pub record Publishes (apps : Apps Shared) (how : wrote.Wrote) (p q : ShelfPass) (held now : Option (List ℕ))
    : Type 0 where
  pub answer : publishing.Published
  pub own : own_of q ≡ own_of p ++ entry (asked.Publish apps) (told.OfPublish answer) ∷ []
  pub written : IsWritten how (publish_text answer) held now

-- the line of a fault was written, or that there was no memory
abbrev pub IsKept : List ℕ → LoadFault → wrote.Wrote → Option (List ℕ) → Option (List ℕ) → Type 0
IsKept name fault how held now =
    ((fault ≢ faults.NoMemory) × IsWritten how (text_of name (kept fault)) held now)
    ⊎ IsWritten how (text_of name starved) held now
