-- What a running agent does for an order, and the line that it prints.
use Rattle.std.specs.Prelude.{◌≡◌, ◌≢◌, ℕ, ◌+◌, ◌-◌, ◌^◌, ◌≤◌, min, List, [], ◌∷◌, ◌++◌, codes, decimal, Option, Result, Ok, Err, IfSome, if◌then◌else◌}
use Rattle.std.specs.Arc.{arc_value}
use Rattle.turn_lock.specs.History.{entry, total}
use Rattle.turn_lock.specs.Lock.{own_of}
use Rattle.hall_core.specs.declared.Counts.{Counts}
use Rattle.hall_core.specs.declared.calls.Call.TheVariants as calls
use Rattle.hall_core.specs.declared.calls.Reply.TheVariants as replies
use Rattle.shelf.specs.declared.apps.Apps.{Apps}
use Rattle.shelf.specs.declared.calls.Published as publishing
use Rattle.shelf.specs.declared.calls.Published.TheVariants as publications
use Rattle.shelf.specs.declared.calls.Call.TheVariants as asked
use Rattle.shelf.specs.declared.calls.Reply.TheVariants as told
use Rattle.sec_read.specs.FileWords.{Named}
use Rattle.agent_conf.specs.declared.conf.Conf.{Conf}
use Rattle.agent_conf.specs.declared.load_fault.LoadFault.{LoadFault}
use Rattle.agent_conf.specs.declared.load_fault.LoadFault.TheVariants as faults
use Rattle.agent_conf.specs.LoadFaults.{Tells, is_read_fault}
use Rattle.agent_conf.specs.Loading.{loaded}
use Rattle.agent_conf.specs.Seen.{seen}
use Rattle.console.specs.declared.order.Order as order
use Rattle.console.specs.declared.order.Order.TheVariants as orders
use Rattle.conn_worker.specs.Entries.{Adds, HallEntry, Shared, lists_of}
use Rattle.conn_worker.specs.Desk.{Passes}
use Rattle.reports.specs.FaultLines.{fault_line}

-- what an order came to
pub data Turn : Type 0 where
  published : Apps Shared → publishing.Published → Turn  -- what was loaded was published, with this answer
  kept : LoadFault → Turn  -- what was to be loaded was refused
  starved : Turn  -- there was no memory to load, or to say why it was refused
  counted : List Counts → Turn  -- the rows of each shard
  nothing : Turn
  unknown : Turn

-- loading under a name answers this, where files tell their content, and may answer any where they don't
abbrev pub Loads : Option Named → List ℕ → Result (Conf × Apps Shared) LoadFault → Type 0
Loads content name answer = IfSome content (λ told. Tells (seen arc_value) answer (loaded told name))

-- the order may come to this
abbrev pub ComesTo : Option Named → List ℕ → order.Order → Turn → Type 0
ComesTo content name orders.Reload (published apps answer) = (conf : Conf) × Loads content name (Ok (conf, apps))
ComesTo content name orders.Reload (kept fault) = (fault ≢ faults.NoMemory) × Loads content name (Err fault)
ComesTo content name orders.Reload starved = Unit {0}
ComesTo content name orders.Stats (counted counts) = Unit {0}
ComesTo content name orders.Nothing nothing = Unit {0}
ComesTo content name orders.Unknown unknown = Unit {0}
ComesTo content name other turn = ⊥

-- from this shard on each was counted, once
abbrev pub Counted : ℕ → List Counts → List (List HallEntry) → List (List HallEntry) → Type 0
Counted shard [] old new = new ≡ old
Counted shard (c ∷ counts) old new = (mid : List (List HallEntry))
    × Adds shard (entry calls.Count (replies.OfCount c) ∷ []) old mid × Counted (shard + 1) counts mid new

-- a publish is one entry of the list of applications, a count one of each shard, and nothing else is an entry
abbrev pub Makes : Turn → Passes → Passes → Type 0
Makes (published apps answer) p q = (lists_of q.desk ≡ lists_of p.desk)
    × (own_of q.rules ≡ own_of p.rules ++ entry (asked.Publish apps) (told.OfPublish answer) ∷ [])
Makes (counted counts) p q = (own_of q.rules ≡ own_of p.rules) × Counted 0 counts (lists_of p.desk) (lists_of q.desk)
Makes other p q = q ≡ p

-- a count stands still at the end of u64
abbrev pub last_count : ℕ
last_count = 18446744073709551615

abbrev pub running : List Counts → ℕ
running counts = min (total (λ c. c.running) counts) last_count

abbrev pub parked : List Counts → ℕ
parked counts = min (total (λ c. c.parked) counts) last_count

abbrev pub publish_text : publishing.Published → List ℕ
publish_text (publications.Generation n) = codes "published " ++ decimal n ++ codes "\n"
publish_text publications.Worn = codes "worn\n"

abbrev pub stats_text : ℕ → ℕ → List ℕ
stats_text running parked =
    codes "stats running " ++ decimal running ++ (codes " parked " ++ decimal parked ++ codes "\n")

-- what is printed of it, where the configuration has that name
abbrev pub text_of : List ℕ → Turn → List ℕ
text_of name (published apps answer) = publish_text answer
text_of name (kept fault) = codes "kept " ++ fault_line name fault
text_of name starved = codes "kept NoMemory\n"
text_of name (counted counts) = stats_text (running counts) (parked counts)
text_of name nothing = []
text_of name unknown = codes "unknown\n"

-- 1 for a reload for which a file could not be read
abbrev pub failed_reads : Turn → ℕ
failed_reads (kept fault) = if is_read_fault fault then 1 else 0
failed_reads other = 0

-- a count rose so often at least; it stands still at the end of u64
abbrev pub RoseBy : ℕ → ℕ → ℕ → Type 0
RoseBy times before now = min (times + before) (2 ^ 64 - 1) ≤ now
