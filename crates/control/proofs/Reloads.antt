-- What a reload came to.
use Rattle.std.proofs.Common.{◌≡◌, ◌≢◌, ◌≤◌, ◌⊎◌, inl, inr, ℕ, ◌+◌, ◌-◌, ◌^◌, Bool, true, false, cond, min, List, Option, Ok, Err, refl, arith}
use Rattle.waf_io.specs.Counts.{Rose}
use Rattle.waf_io.specs.declared.sink.Wrote as wrote
use Rattle.shelf.specs.declared.apps.Apps.{Apps}
use Rattle.sec_read.specs.FileWords.{Named}
use Rattle.agent_conf.specs.declared.conf.Conf.{Conf}
use Rattle.agent_conf.specs.declared.load_fault.LoadFault.{LoadFault}
use Rattle.agent_conf.specs.LoadFaults.{is_read_fault}
use Rattle.console.specs.declared.order.Order.TheVariants as orders
use Rattle.conn_worker.specs.Desk.{passes}
use Rattle.conn_worker.specs.Entries.{HallPass, Shared, ShelfPass}
use Rattle.control.specs.Turns.{Loads, RoseBy, failed_reads, kept, published, starved}
use Rattle.control.specs.Written.{IsKept, Obeyed, Publishes}

-- no read failed
pub rose_none : (before now : ℕ) → before ≤ now → RoseBy 0 before now
rose_none before now le = omega (arith, le)

pub rose_one : (fault : LoadFault) (before now : ℕ) → (is_read_fault fault ≡ true → Rose before now) → before ≤ now → RoseBy (failed_reads (kept fault)) before now
rose_one fault before now rose le = go (is_read_fault fault) refl
  where
    go : (b : Bool) → is_read_fault fault ≡ b → RoseBy (cond b 1 0) before now
    go true is = (let more = rose is in omega (arith, more))
    go false is = rose_none before now le

pub publishes : (content : Option Named) (name : List ℕ) (conf : Conf) (apps : Apps Shared) (how : wrote.Wrote) (p q : ShelfPass) (held since : Option (List ℕ)) (before now : ℕ)
    → Loads content name (Ok (conf, apps)) → Publishes apps how p q held since → before ≤ now
    → (desk : HallPass) → Obeyed content name orders.Reload how (passes desk p) (passes desk q) held since before now
publishes content name conf apps how p q held since before now loads made le desk = record {
  turn = published apps made.answer;
  comes = (conf, loads);
  made = (refl, made.own);
  written = made.written;
  reads = rose_none before now le;
}

pub keeps : (content : Option Named) (name : List ℕ) (fault : LoadFault) (how : wrote.Wrote) (p : ShelfPass) (held since : Option (List ℕ)) (before now : ℕ)
    → Loads content name (Err fault) → IsKept name fault how held since → (is_read_fault fault ≡ true → Rose before now) → before ≤ now
    → (desk : HallPass) → Obeyed content name orders.Reload how (passes desk p) (passes desk p) held since before now
keeps content name fault how p held since before now loads (inl told) rose le desk = record {
  turn = kept fault;
  comes = (told.0, loads);
  made = refl;
  written = told.1;
  reads = rose_one fault before now rose le;
}
keeps content name fault how p held since before now loads (inr written) rose le desk = record {
  turn = starved;
  comes = tt;
  made = refl;
  written = written;
  reads = rose_none before now le;
}
