-- The text of a run, under what files and input tell, and what the command comes to that prints it.
use Rattle.std.proofs.Common.{◌≡◌, ◌⊎◌, ◌≤◌, inl, ℕ, List, Option, Some, None, Result, Ok, Err, refl, sym, ap, subst, arith}
use Rattle.std.specs.Option.{IfSome}
use Rattle.agent_conf.specs.declared.conf.Conf.{Conf}
use Rattle.agent_conf.specs.declared.load_fault.LoadFault.{LoadFault}
use Rattle.sec_read.specs.FileWords.{Named}
use Rattle.shelf.specs.declared.apps.Apps.{Apps}
use Rattle.world_core.specs.Standing.{Shared}
use Rattle.reports.specs.declared.faults.CommandFault as command
use Rattle.reports.specs.declared.faults.CommandFault.TheVariants as faults
use Rattle.agent_main.specs.declared.entry.Entry.{Entry}
use Rattle.agent_main.specs.declared.playing.Limits.{Limits}
use Rattle.reports.specs.CommandFaults.{IsFaultOf, Tells}
use Rattle.agent_main.specs.Playing.{TellsText}
use Rattle.agent_main.specs.Replay.{IsReplay, IsRun, Replayed, Told, in_script, script_in}
use Rattle.reports.specs.Report.{Reported}
use Rattle.agent_main.specs.Turns.{Command, Loads, Plays, entries_text, limits_of}

-- a run whose files told the same before, and failed no more often
pub plays_since : (content before_content : Option Named) (name : List ℕ) (before then now : ℕ) (limits : Limits) (apps : Apps Shared) (played : List Command) (entries : List Entry) → before_content ≡ content → before ≤ then → Plays before_content name then now limits apps played entries
    → Plays content name before now limits apps played entries
plays_since content before_content name before then now limits apps played entries same later p =
    let q = subst (λ (c : Option Named). Plays c name then now limits apps played entries) same p in
    record {
      first = q.first;
      opens = q.opens;
      log = q.log;
      commands_are = q.commands_are;
      turns = q.turns;
      last = q.last;
      runs = q.runs;
      entries_are = q.entries_are;
      reads = let count = q.reads in omega (arith, count, later);
    }

module _ (content : Option Named) (left : Option (List ℕ)) (name : List ℕ) (before now : ℕ) where
  pub whole : (conf : Conf) (apps : Apps Shared) (played : List Command) (entries : List Entry) (out : List ℕ) → Loads content name (Ok (conf, apps)) → IfSome left (λ text. in_script (script_in conf.shards text) ≡ Ok played)
      → Plays content name before now (limits_of conf) apps played entries → out ≡ entries_text name entries → IfSome left (λ text. TellsText content name before now text (Ok out))
  whole conf apps played entries out loads script plays is = go left script
    where
      go : (l : Option (List ℕ)) → IfSome l (λ text. in_script (script_in conf.shards text) ≡ Ok played) → IfSome l (λ text. TellsText content name before now text (Ok out))
      go None s = tt
      go (Some text) s = (Ok (conf, apps), loads, subst (λ (r : Result (List Command) (List ℕ)). IsRun content name before now conf apps r (Ok out)) (sym s) (entries, plays, ap Ok is))

  -- the script is refused, or was not read
  pub bad_script : (conf : Conf) (apps : Apps Shared) (e : command.CommandFault) → Loads content name (Ok (conf, apps)) → IfSome left (λ text. Tells {A = List Command} (Err e) (in_script (script_in conf.shards text)))
      → IfSome left (λ text. TellsText content name before now text (Err e))
  bad_script conf apps e loads script = go left script
    where
      one : (text : List ℕ) (e : command.CommandFault) → Tells {A = List Command} (Err e) (in_script (script_in conf.shards text)) → TellsText content name before now text (Err e)
      one text (faults.Line line) s = (Ok (conf, apps), loads, subst (λ (r : Result (List Command) (List ℕ)). IsRun content name before now conf apps r (Err line)) (sym s) refl)
      one text faults.ReadFault s = tt
      one text faults.NoMemory s = tt

      go : (l : Option (List ℕ)) → IfSome l (λ text. Tells {A = List Command} (Err e) (in_script (script_in conf.shards text))) → IfSome l (λ text. TellsText content name before now text (Err e))
      go None s = tt
      go (Some text) s = one text e s

  -- nothing was loaded
  pub not_loaded : (fault : LoadFault) (e : command.CommandFault) → Loads content name (Err fault) → IsFaultOf e name fault → IfSome left (λ text. TellsText content name before now text (Err e))
  not_loaded fault e loads is = go left
    where
      one : (text : List ℕ) (e : command.CommandFault) → IsFaultOf e name fault → TellsText content name before now text (Err e)
      one text (faults.Line line) h = (Err fault, loads, (h.0, ap Err h.1))
      one text faults.ReadFault h = tt
      one text faults.NoMemory h = tt

      go : (l : Option (List ℕ)) → IfSome l (λ text. TellsText content name before now text (Err e))
      go None = tt
      go (Some text) = one text e is

  -- no memory, after whatever
  pub none_left : IfSome left (λ text. TellsText content name before now text (Err faults.NoMemory))
  none_left = go left
    where
      go : (l : Option (List ℕ)) → IfSome l (λ text. TellsText content name before now text (Err faults.NoMemory))
      go None = tt
      go (Some text) = tt

  -- it was reported, where a read might have failed
  pub printed : (told : Told) (status : ℕ) (old new : Option (List ℕ)) (Fails : Type 0) → IfSome left (λ text. IsReplay content name before now text told) → Reported status told old new
      → IfSome left (λ text. Replayed content name before now status text old new ⊎ Fails)
  printed told status old new Fails tells reports = go left tells
    where
      go : (l : Option (List ℕ)) → IfSome l (λ text. IsReplay content name before now text told) → IfSome l (λ text. Replayed content name before now status text old new ⊎ Fails)
      go None h = tt
      go (Some text) h = inl (inl (told, h, reports))
