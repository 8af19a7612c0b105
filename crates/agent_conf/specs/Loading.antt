-- A configuration and the rules of its applications, as files tell them.
use Rattle.std.specs.Prelude.{ℕ, List, [], ◌∷◌, length, map, nat_lt, bytes_eq, position, Option, Some, None, Result, Ok, Err, if◌then◌else◌}
use Rattle.sec_ast.specs.declared.listing.Listing.{Listing}
use Rattle.sec_compile.specs.declared.fault.CompileFault.{CompileFault}
use Rattle.sec_compile.specs.Unread.{first_fault}
use Rattle.sec_parts.specs.Results.{◌>>=◌}
use Rattle.sec_read.specs.declared.faults.Found.{Found}
use Rattle.sec_read.specs.Faults.{fault_of}
use Rattle.sec_read.specs.FileWords.{Named}
use Rattle.sec_read.specs.Listing.{listing}
use Rattle.sec_read.specs.Names.{beside}
use Rattle.shelf.specs.declared.apps.App.{App}
use Rattle.shelf.specs.declared.apps.Settings.{Settings}
use Rattle.agent_conf.specs.declared.conf.AppConf.{AppConf}
use Rattle.agent_conf.specs.declared.conf.Conf.{Conf}
use Rattle.agent_conf.specs.declared.fault.ConfFault.{ConfFault}
use Rattle.agent_conf.specs.declared.limits.TheConstants.{CONF_LIMIT}
use Rattle.agent_conf.specs.declared.load_fault.LoadFault.{LoadFault}
use Rattle.agent_conf.specs.declared.load_fault.LoadFault.TheVariants as faults
use Rattle.agent_conf.specs.Faults.{reading}

-- ---- the configuration

abbrev pub text_in : Option (List ℕ) → Result (List ℕ) LoadFault
text_in None = Err faults.NoFile
text_in (Some text) = if nat_lt CONF_LIMIT (length text) then Err faults.TooLong else Ok text

abbrev pub admitted : Result Conf ConfFault → Result Conf LoadFault
admitted (Ok conf) = Ok conf
admitted (Err fault) = Err (faults.Conf fault)

-- the configuration that a file tells
abbrev pub conf_in : Option (List ℕ) → Result Conf LoadFault
conf_in content = text_in content >>= λ text. admitted (reading text)

-- ---- rules

-- a listing, unless one of its patterns has no reading
abbrev pub unless : Option CompileFault → Listing → Result Listing LoadFault
unless None rules = Ok rules
unless (Some fault) rules = Err (faults.Compile fault)

abbrev pub compiled : Result Listing Found → Result Listing LoadFault
compiled (Ok rules) = unless (first_fault rules.items) rules
compiled (Err found) = Err (faults.Rules (fault_of found))

-- the rules of these files, read as one
abbrev pub rules_in : Named → List (List ℕ) → Result Listing LoadFault
rules_in told names = compiled (listing told names)

-- ---- applications

abbrev pub settings_of : AppConf → Settings
settings_of app = record { responses = app.responses; life = app.life }

-- the rule files of an application, which are named beside the configuration
unfoldable pub rule_files : List ℕ → AppConf → List (List ℕ)
rule_files conf app = map (beside conf) app.rules

-- an application with its rules
abbrev pub app_in : Named → List ℕ → AppConf → Result (App Listing) LoadFault
app_in told conf app = rules_in told (rule_files conf app) >>= λ rules.
    Ok (record { name = app.name; rules = rules; settings = settings_of app })

-- in their order, up to the first fault
abbrev pub apps_in : Named → List ℕ → List AppConf → Result (List (App Listing)) LoadFault
apps_in told conf [] = Ok []
apps_in told conf (app ∷ apps) = do
  first ← app_in told conf app
  rest ← apps_in told conf apps
  Ok (first ∷ rest)

-- the place of the application that serves for unknown names, where a default is named
abbrev pub place_of_default : Option (List ℕ) → List AppConf → Option ℕ
place_of_default None apps = None
place_of_default (Some name) apps = position (λ app. bytes_eq app.name name) apps

-- ---- all of it

pub record Loaded : Type 0 where
  pub conf : Conf
  pub apps : List (App Listing)
  pub fallback : Option ℕ

-- the configuration under a name, with the rules of its applications, or the first fault
unfoldable pub loaded : Named → List ℕ → Result Loaded LoadFault
loaded told name = do
  conf ← conf_in (told name)
  apps ← apps_in told name conf.apps
  Ok (record { conf = conf; apps = apps; fallback = place_of_default conf.fallback conf.apps })
