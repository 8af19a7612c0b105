-- The applications that were loaded so far, and those that are left; faults of rules.
use Rattle.std.proofs.Common.{◌≡◌, ◌≢◌, ℕ, not, true, List, ◌++◌, Option, Result, Ok, Err, refl}
use Rattle.std.specs.Option.{IfSome}
use Rattle.std.proofs.lemmas.Bool.{false≢true}
use Rattle.sec_ast.specs.declared.listing.Listing.{Listing}
use Rattle.sec_read.specs.declared.faults.Fault.{Fault}
use Rattle.sec_read.specs.declared.faults.Found.{Found}
use Rattle.sec_read.specs.declared.faults.Kind.{Kind}
use Rattle.sec_read.specs.declared.faults.Kind.TheVariants as kinds
use Rattle.sec_read.specs.Faults.{fault_of}
use Rattle.sec_read.specs.FileWords.{Named}
use Rattle.sec_read.specs.Listing.{IsFirstFault}
use Rattle.shelf.specs.declared.apps.App.{App}
use Rattle.agent_conf.specs.declared.conf.AppConf.{AppConf}
use Rattle.agent_conf.specs.declared.load_fault.LoadFault.{LoadFault}
use Rattle.agent_conf.specs.declared.load_fault.LoadFault.TheVariants as faults
use Rattle.agent_conf.specs.LoadFaults.{is_read_kind}
use Rattle.agent_conf.specs.Loading.{apps_in, compiled}

abbrev pub after : {A : Type 0} → List A → Result (List A) LoadFault → Result (List A) LoadFault
after before (Ok rest) = Ok (before ++ rest)
after before (Err fault) = Err fault

-- those so far, and those that are left, are those of all
abbrev pub Keeps : Option Named → List ℕ → List AppConf → List AppConf → List (App Listing) → Type 0
Keeps content conf apps left list = IfSome content (λ told. after list (apps_in told conf left) ≡ apps_in told conf apps)

told : (read : Result Listing Found) (fault : Fault) → (found : Found) × (read ≡ Err found) × (fault ≡ fault_of found) → compiled read ≡ Err (faults.Rules fault)
told read fault first = rw (first.1, first.2) refl

at_kind : (kind : Kind) (read : Result Listing Found) (fault : Fault) → IsFirstFault read fault kind → not (is_read_kind kind) ≡ true → kind ≢ kinds.NoMemory
    → compiled read ≡ Err (faults.Rules fault)
at_kind kinds.UnknownDirective read fault first is other = told read fault first
at_kind kinds.RefusedByName read fault first is other = told read fault first
at_kind kinds.BadWord read fault first is other = told read fault first
at_kind kinds.NoId read fault first is other = told read fault first
at_kind kinds.DoubleId read fault first is other = told read fault first
at_kind kinds.OpenChain read fault first is other = told read fault first
at_kind kinds.OpenQuote read fault first is other = told read fault first
at_kind kinds.NotText read fault first is other = told read fault first
at_kind kinds.NoFile read fault first is other = told read fault first
at_kind kinds.IncludeDepth read fault first is other = told read fault first
at_kind kinds.TooLong read fault first is other = told read fault first
at_kind kinds.ReadFault read fault first is other = absurd (false≢true is)
at_kind kinds.NoMemory read fault first is other = absurd (other refl)

pub refused : (read : Result Listing Found) (fault : Fault) → IsFirstFault read fault fault.kind → not (is_read_kind fault.kind) ≡ true → fault.kind ≢ kinds.NoMemory
    → compiled read ≡ Err (faults.Rules fault)
refused read fault = at_kind fault.kind read fault
