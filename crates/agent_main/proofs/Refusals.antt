-- What the input tells, or the line of its first fault.
use Rattle.std.proofs.Common.{◌≡◌, ◌≤◌, ℕ, List, length, Option, Some, None, Result, Ok, Err, sym, ap, ◌∙◌, subst}
use Rattle.std.specs.Prelude.{cond}
use Rattle.std.specs.Option.{IfSome}
use Rattle.std.proofs.lemmas.Bool.{le-ltb, lt-ltb}
use Rattle.reports.specs.declared.faults.CommandFault as command
use Rattle.reports.specs.declared.faults.CommandFault.TheVariants as faults
use Rattle.agent_main.specs.declared.script.TheConstants.{SCRIPT_LIMIT}
use Rattle.reports.specs.CommandFaults.{Tells}
use Rattle.agent_main.specs.Playing.{IsBadLine, Takes}
use Rattle.agent_main.specs.Turns.{Command}
use Rattle.agent_main.specs.Replay.{for_shards, in_script, script_in}

pub bad : (r : command.CommandFault) (line : ℕ) (z : Result (List Command) ℕ) → IsBadLine r line → z ≡ Err line → Tells {A = List Command} (Err r) (in_script z)
bad (faults.Line text) line z is h = ap in_script h ∙ ap Err (sym is)
bad faults.ReadFault line z is h = absurd is
bad faults.NoMemory line z is h = tt

pub within : (shards : ℕ) (left : Option (List ℕ)) (taken : List ℕ) (r : Result (List Command) command.CommandFault) → length taken ≤ SCRIPT_LIMIT → Tells r (in_script (for_shards shards taken)) → IfSome left (λ text. Takes (Ok (Some taken)) text)
    → IfSome left (λ text. Tells r (in_script (script_in shards text)))
within shards None taken r few h is = tt
within shards (Some text) taken r few h is =
    let fits : script_in shards taken ≡ for_shards shards taken = ap (λ b. cond b (Err 1) (for_shards shards taken)) (le-ltb SCRIPT_LIMIT (length taken) few) in
    subst (λ z. Tells r (in_script z)) (sym fits ∙ ap (script_in shards) is) h

pub beyond : (shards : ℕ) (left : Option (List ℕ)) (r : command.CommandFault) → IsBadLine r 1 → IfSome left (λ text. Takes (Ok None) text) → IfSome left (λ text. Tells {A = List Command} (Err r) (in_script (script_in shards text)))
beyond shards None r is long = tt
beyond shards (Some text) r is long = bad r 1 (script_in shards text) is (ap (λ b. cond b (Err 1) (for_shards shards text)) (lt-ltb SCRIPT_LIMIT (length text) long))

pub not_taken : (shards : ℕ) (left : Option (List ℕ)) (r : command.CommandFault) → IfSome left (λ text. Takes (Err r) text) → IfSome left (λ text. Tells {A = List Command} (Err r) (in_script (script_in shards text)))
not_taken shards None r h = tt
not_taken shards (Some text) (faults.Line line) h = absurd h
not_taken shards (Some text) faults.ReadFault h = tt
not_taken shards (Some text) faults.NoMemory h = tt
