-- The value of each key, and what stands for it where the key is absent. `None` is a value that is bad.
use Rattle.std.specs.Prelude.{ℕ, suc, pos, Bool, true, false, ◌&&◌, cond, nat_le, List, [], ◌∷◌, length, codes, Option, Some, None, option_and_then, option_map}
use Rattle.std.specs.List.{list_all}
use Rattle.agent_conf.specs.declared.limits.TheConstants.{APP_LIMIT, DEFAULT_LIFE, DEFAULT_SHARDS, DEFAULT_SIZE, DEFAULT_WORKERS, FILE_NAME_LIMIT, LISTEN_LIMIT, MAX_LIFE, MAX_SIZE, MIN_NAME_BYTE, MIN_SIZE, NAME_LIMIT, ROW_LIMIT, SHARD_LIMIT, WORKER_LIMIT}
use Rattle.toml.specs.Data.{Data, string, integer, array, table, Items, no_items, item, as_bool}

-- a whole number from the one to the other
abbrev pub number_in : ℕ → ℕ → Data → Option ℕ
number_in least most (integer (pos n)) = cond (nat_le least n && nat_le n most) (Some n) None
number_in least most other = None

-- a text of so many bytes
abbrev pub text_in : ℕ → ℕ → Data → Option (List ℕ)
text_in least most (string text) = cond (nat_le least (length text) && nat_le (length text) most) (Some text) None
text_in least most other = None

abbrev pub is_plain_byte : ℕ → Bool
is_plain_byte b = nat_le MIN_NAME_BYTE b

-- a name of an application
abbrev pub plain_text : Data → Option (List ℕ)
plain_text value =
    option_and_then (λ text. cond (list_all is_plain_byte text) (Some text) None) (text_in 0 NAME_LIMIT value)

abbrev pub texts_in : Items → Option (List (List ℕ))
texts_in no_items = Some []
texts_in (item value rest) =
    option_and_then (λ text. option_map (λ texts. text ∷ texts) (texts_in rest)) (text_in 1 FILE_NAME_LIMIT value)

-- what is read, or else what stands where the key is absent
abbrev pub where_absent : {A : Type 0} → A → (Data → Option A) → Option Data → Option A
where_absent absent read None = Some absent
where_absent absent read (Some value) = read value

-- what is read, if there is a value
abbrev pub maybe : {A : Type 0} → (Data → Option A) → Option Data → Option (Option A)
maybe read value = where_absent None (λ v. option_map (λ a. Some a) (read v)) value

-- the top's keys

abbrev pub size_in : Option Data → Option ℕ
size_in value = where_absent DEFAULT_SIZE (number_in MIN_SIZE MAX_SIZE) value

-- none: the limit of all shards, divided by their count
abbrev pub capacity_in : Option Data → Option (Option ℕ)
capacity_in value = maybe (number_in 1 ROW_LIMIT) value

abbrev pub shards_in : Option Data → Option ℕ
shards_in value = where_absent DEFAULT_SHARDS (number_in 1 SHARD_LIMIT) value

abbrev pub workers_in : Option Data → Option ℕ
workers_in value = where_absent DEFAULT_WORKERS (number_in 1 WORKER_LIMIT) value

abbrev pub listen_in : Option Data → Option (List ℕ)
listen_in value = where_absent (codes "127.0.0.1:9000") (text_in 1 LISTEN_LIMIT) value

abbrev pub default_in : Option Data → Option (Option (List ℕ))
default_in value = maybe plain_text value

abbrev pub are_tables : Items → Bool
are_tables no_items = true
are_tables (item (table app) rest) = are_tables rest
are_tables (item other rest) = false

abbrev pub count : Items → ℕ
count no_items = 0
count (item value rest) = suc (count rest)

-- tables, as many as there may be applications
abbrev pub app_is_good : Option Data → Bool
app_is_good None = true
app_is_good (Some (array items)) = are_tables items && nat_le (count items) APP_LIMIT
app_is_good (Some other) = false

-- the keys of an application

abbrev pub name_in : Option Data → Option (List ℕ)
name_in value = option_and_then plain_text value

abbrev pub rules_in : Option Data → Option (List (List ℕ))
rules_in (Some (array items)) = texts_in items
rules_in other = None

abbrev pub responses_in : Option Data → Option Bool
responses_in value = where_absent false as_bool value

-- in milliseconds
abbrev pub life_in : Option Data → Option ℕ
life_in value = where_absent DEFAULT_LIFE (number_in 1 MAX_LIFE) value
