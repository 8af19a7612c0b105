-- Where a rule file that could not be read stands.
use Rattle.std.specs.Prelude.{◌≡◌, ◌⊎◌, ℕ, List, [], ◌∷◌, Result, Ok, Err}
use Rattle.sec_read.specs.declared.faults.Fault.{Fault}
use Rattle.sec_read.specs.declared.faults.Kind.TheVariants as kinds
use Rattle.sec_read.specs.FileWords.{Named}
use Rattle.sec_read.specs.Places.{IsPlaceOf}
use Rattle.agent_conf.specs.declared.conf.AppConf.{AppConf}
use Rattle.agent_conf.specs.declared.load_fault.LoadFault.{LoadFault}
use Rattle.agent_conf.specs.declared.load_fault.LoadFault.TheVariants as faults
use Rattle.agent_conf.specs.Loading.{app_in, conf_in, rule_files}

-- where this is loaded, that holds of it
abbrev pub After : {A : Type 0} → Result A LoadFault → (A → Type 0) → Type 0
After (Ok value) holds = holds value
After (Err fault) holds = ⊥

-- it is in a file that the reading of an application opens, once those before it are loaded
abbrev pub AppsOpen : Named → List ℕ → List AppConf → Fault → Type 0
AppsOpen told conf [] fault = ⊥
AppsOpen told conf (app ∷ apps) fault =
    IsPlaceOf told (rule_files conf app) fault
    ⊎ After (app_in told conf app) (λ first. AppsOpen told conf apps fault)

abbrev pub LoadOpens : Named → List ℕ → Fault → Type 0
LoadOpens told name fault = After (conf_in (told name)) (λ conf. AppsOpen told name conf.apps fault)

-- where rules could not be read, this holds of the fault
abbrev pub WhereUnread : {A : Type 0} → Result A LoadFault → (Fault → Type 0) → Type 0
WhereUnread result holds =
    (fault : Fault) → result ≡ Err (faults.Rules fault) → fault.kind ≡ kinds.ReadFault → holds fault
