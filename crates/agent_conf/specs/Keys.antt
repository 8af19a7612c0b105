-- The keys that there may be, and those that there must be.
use Rattle.std.specs.Prelude.{ℕ, Bool, List, [], ◌∷◌, not, is_none, bytes_eq, codes, filter}
use Rattle.std.specs.List.{list_any}
use Rattle.toml.specs.Data.{Members, get_member}
use Rattle.agent_conf.specs.Document.{keys}

abbrev pub top_keys : List (List ℕ)
top_keys = codes "size" ∷ codes "capacity" ∷ codes "shards" ∷ codes "workers" ∷ codes "listen" ∷ codes "default"
    ∷ codes "app" ∷ []

abbrev pub application_keys : List (List ℕ)
application_keys = codes "name" ∷ codes "rules" ∷ codes "responses" ∷ codes "life" ∷ []

abbrev pub is_among : List (List ℕ) → List ℕ → Bool
is_among known key = list_any (λ other. bytes_eq other key) known

abbrev pub unknown_keys : List (List ℕ) → Members → List (List ℕ)
unknown_keys known table = filter (λ key. not (is_among known key)) (keys table)

-- `name`, then `rules`, where the application lacks it
abbrev pub missing_keys : Members → List (List ℕ)
missing_keys app = filter (λ key. is_none (get_member key app)) (codes "name" ∷ codes "rules" ∷ [])
