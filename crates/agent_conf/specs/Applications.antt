-- What must hold of the applications together.
use Rattle.std.specs.Prelude.{ℕ, List, [], ◌∷◌, ◌++◌, map, cond, Option, Some, None}
use Rattle.agent_conf.specs.declared.conf.AppConf.{AppConf}
use Rattle.agent_conf.specs.declared.conf.Conf.{Conf}
use Rattle.agent_conf.specs.declared.fault.ConfFault.{ConfFault}
use Rattle.agent_conf.specs.declared.fault.ConfFault.TheVariants as faults
use Rattle.agent_conf.specs.Keys.{is_among}

abbrev pub names : List AppConf → List (List ℕ)
names apps = map (λ app. app.name) apps

-- the names that one before has, those of `before` among them
abbrev pub doubled : List (List ℕ) → List (List ℕ) → List (List ℕ)
doubled before [] = []
doubled before (name ∷ rest) = cond (is_among before name) (name ∷ []) [] ++ doubled (before ++ name ∷ []) rest

abbrev pub no_application : List AppConf → List ConfFault
no_application [] = faults.NoApp ∷ []
no_application (app ∷ rest) = []

abbrev pub unknown_default : Option (List ℕ) → List (List ℕ) → List (List ℕ)
unknown_default None known = []
unknown_default (Some name) known = cond (is_among known name) [] (name ∷ [])

unfoldable pub application_faults : Conf → List ConfFault
application_faults conf =
    no_application conf.apps
    ++ map (λ name. faults.DoubleApp name) (doubled [] (names conf.apps))
    ++ map (λ name. faults.UnknownDefault name) (unknown_default conf.fallback (names conf.apps))
