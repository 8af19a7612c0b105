-- The faults of a configuration, in the order in which they count.
use Rattle.std.specs.Prelude.{ℕ, ◌*◌, List, [], ◌∷◌, ◌++◌, Bool, is_some, map, flat_map, nat_le, codes, Option, Some, None, Result, Ok, Err}
use Rattle.toml.specs.Data.{Data, Members, get_member}
use Rattle.agent_conf.specs.declared.conf.Conf.{Conf}
use Rattle.agent_conf.specs.declared.fault.ConfFault.{ConfFault}
use Rattle.agent_conf.specs.declared.fault.ConfFault.TheVariants as faults
use Rattle.agent_conf.specs.declared.limits.TheConstants.{ROW_LIMIT}
use Rattle.agent_conf.specs.Applications.{application_faults}
use Rattle.agent_conf.specs.Configuration.{capacity_of, conf_of, shards_of}
use Rattle.agent_conf.specs.Document.{applications, document}
use Rattle.agent_conf.specs.Keys.{application_keys, missing_keys, top_keys, unknown_keys}
use Rattle.agent_conf.specs.Reading.{unless}
use Rattle.agent_conf.specs.Values.{app_is_good, capacity_in, default_in, life_in, listen_in, name_in, responses_in, rules_in, shards_in, size_in, workers_in}

-- a key, and which values of it are good
pub record Row : Type 0 where
  pub key : List ℕ
  pub good : Option Data → Bool

abbrev pub row : List ℕ → (Option Data → Bool) → Row
row key good = record { key = key; good = good }

abbrev pub bad_keys : List Row → Members → List (List ℕ)
bad_keys rows table = flat_map (λ r. unless (r.good (get_member r.key table)) r.key) rows

abbrev pub top_rows : List Row
top_rows =
    row (codes "size") (λ v. is_some (size_in v))
    ∷ row (codes "capacity") (λ v. is_some (capacity_in v))
    ∷ row (codes "shards") (λ v. is_some (shards_in v))
    ∷ row (codes "workers") (λ v. is_some (workers_in v))
    ∷ row (codes "listen") (λ v. is_some (listen_in v))
    ∷ row (codes "default") (λ v. is_some (default_in v))
    ∷ row (codes "app") app_is_good
    ∷ []

abbrev pub application_rows : List Row
application_rows =
    row (codes "name") (λ v. is_some (name_in v))
    ∷ row (codes "rules") (λ v. is_some (rules_in v))
    ∷ row (codes "responses") (λ v. is_some (responses_in v))
    ∷ row (codes "life") (λ v. is_some (life_in v))
    ∷ []

-- all shards together hold so many rows
abbrev pub crowded : Members → List (List ℕ)
crowded top = unless (nat_le (capacity_of top * shards_of top) ROW_LIMIT) (codes "capacity")

unfoldable pub bad_values : Members → List (List ℕ)
bad_values top = bad_keys top_rows top ++ crowded top ++ flat_map (bad_keys application_rows) (applications top)

abbrev pub unknown : Members → List (List ℕ)
unknown top = unknown_keys top_keys top ++ flat_map (unknown_keys application_keys) (applications top)

abbrev pub missing : Members → List (List ℕ)
missing top = flat_map missing_keys (applications top)

unfoldable pub faults_of : Members → List ConfFault
faults_of top =
    map (λ key. faults.UnknownKey key) (unknown top)
    ++ map (λ key. faults.MissingKey key) (missing top)
    ++ map (λ key. faults.BadValue key) (bad_values top)
    ++ application_faults (conf_of top)

-- the first fault, if there is one
abbrev pub unless_faulty : List ConfFault → Conf → Result Conf ConfFault
unless_faulty [] conf = Ok conf
unless_faulty (fault ∷ rest) conf = Err fault

abbrev pub of_document : Option Members → Result Conf ConfFault
of_document None = Err faults.Syntax
of_document (Some top) = unless_faulty (faults_of top) (conf_of top)

-- the configuration that a text tells, or its first fault
unfoldable pub reading : List ℕ → Result Conf ConfFault
reading text = of_document (document text)
