-- A configuration has no more applications than its limit, and one shard and one worker at least, and no more than theirs.
use Rattle.std.proofs.Common.{◌≡◌, ◌<◌, ◌≤◌, ◌&&◌, cond, pos, negsuc, ◌⊎◌, inl, inr, zero, suc, ℕ, List, [], ◌∷◌, ◌++◌, Bool, true, false, map, flat_map, drop, length, refl, sym, subst, arith, length-append, Option, Some, None, Ok, Err}
use Rattle.std.proofs.lemmas.Bool.{and_parts, false≢true, leb-true}
use Rattle.std.proofs.lemmas.List.{length-map}
use Rattle.toml.specs.Data.{Data, string, integer, float, boolean, datetime, array, table, Items, no_items, item, Members, get_member}
use Rattle.std.specs.Prelude.{codes, is_some, nat_le, unwrap_or}
use Rattle.agent_conf.specs.declared.conf.Conf.{Conf}
use Rattle.agent_conf.specs.declared.limits.TheConstants.{APP_LIMIT, DEFAULT_SHARDS, DEFAULT_WORKERS, SHARD_LIMIT, WORKER_LIMIT}
use Rattle.agent_conf.specs.declared.fault.ConfFault.{ConfFault}
use Rattle.agent_conf.specs.declared.fault.ConfFault.TheVariants as faults
use Rattle.agent_conf.specs.Applications.{application_faults}
use Rattle.agent_conf.specs.Configuration.{application_of, conf_of}
use Rattle.agent_conf.specs.Document.{applications, document, tables, tables_in, tables_of}
use Rattle.agent_conf.specs.Faults.{Row, application_rows, bad_keys, bad_values, crowded, faults_of, missing, of_document, reading, top_rows, unknown, unless_faulty}
use Rattle.agent_conf.specs.Reading.{unless}
use Rattle.agent_conf.specs.Values.{app_is_good, are_tables, count, number_in, shards_in, where_absent, workers_in}

one_table : (value : Data) → length (tables_of value) ≤ 1
one_table (string text) = omega arith
one_table (integer n) = omega arith
one_table (float x) = omega arith
one_table (boolean b) = omega arith
one_table (datetime d) = omega arith
one_table (array items) = omega arith
one_table (table _) = omega arith

few_tables : (items : Items) → length (tables items) ≤ count items
few_tables no_items = omega arith
few_tables (item value rest) =
    let one = one_table value in
    let more = few_tables rest in
    let both = length-append (tables_of value) (tables rest) in
    omega (arith, one, more, both)

few_in : (value : Option Data) → app_is_good value ≡ true → length (tables_in value) ≤ APP_LIMIT
few_in None good = omega arith
few_in (Some (string text)) good = absurd (false≢true good)
few_in (Some (integer n)) good = absurd (false≢true good)
few_in (Some (float x)) good = absurd (false≢true good)
few_in (Some (boolean b)) good = absurd (false≢true good)
few_in (Some (datetime d)) good = absurd (false≢true good)
few_in (Some (table _)) good = absurd (false≢true good)
few_in (Some (array items)) good =
    let few : count items ≤ APP_LIMIT = leb-true (count items) APP_LIMIT (and_parts (are_tables items) (nat_le (count items) APP_LIMIT) good).1 in
    let most = few_tables items in
    omega (arith, few, most)

no_front : {A : Type 0} (xs ys : List A) → xs ++ ys ≡ [] → xs ≡ []
no_front [] ys h = refl
no_front (x ∷ xs) ys h = cc

no_rest : {A : Type 0} (xs ys : List A) → xs ++ ys ≡ [] → ys ≡ []
no_rest [] ys h = h
no_rest (x ∷ xs) ys h = cc

no_items_mapped : {A B : Type 0} (f : A → B) (xs : List A) → map f xs ≡ [] → xs ≡ []
no_items_mapped f [] h = refl
no_items_mapped f (x ∷ xs) h = cc

good_unless : (good : Bool) (key : List ℕ) → unless good key ≡ [] → good ≡ true
good_unless true key h = refl
good_unless false key h = cc

no_fault : (found : List ConfFault) (told conf : Conf) → unless_faulty found told ≡ Ok conf → (found ≡ []) × (told ≡ conf)
no_fault [] told conf h = (refl, cc)
no_fault (fault ∷ found) told conf h = cc

-- the keys of later rows are good too
skip : (n : ℕ) (rows : List Row) (top : Members) → bad_keys rows top ≡ [] → bad_keys (drop n rows) top ≡ []
skip zero rows top none = none
skip (suc n) [] top none = none
skip (suc n) (r ∷ rows) top none = skip n rows top (no_rest (unless (r.good (get_member r.key top)) r.key) (bad_keys rows top) none)

good_app : (top : Members) → bad_keys top_rows top ≡ [] → app_is_good (get_member (codes "app") top) ≡ true
good_app top none =
    let good = app_is_good (get_member (codes "app") top) in
    good_unless good (codes "app") (no_front (unless good (codes "app")) [] (skip 6 top_rows top none))

no_bad_value : (top : Members) → faults_of top ≡ [] → bad_values top ≡ []
unfolding faults_of
no_bad_value top none =
    let keys = map (λ key. faults.UnknownKey key) (unknown top) ++ map (λ key. faults.MissingKey key) (missing top) in
    let values = map (λ key. faults.BadValue key) (bad_values top) in
    no_items_mapped (λ key. faults.BadValue key) (bad_values top) (no_rest keys values (no_front (keys ++ values) (application_faults (conf_of top)) none))

no_bad_key : (top : Members) → bad_values top ≡ [] → bad_keys top_rows top ≡ []
unfolding bad_values
no_bad_key top none =
    let keys = bad_keys top_rows top in
    no_front keys (crowded top) (no_front (keys ++ crowded top) (flat_map (bad_keys application_rows) (applications top)) none)

few_applications : (top : Members) → faults_of top ≡ [] → length (conf_of top).apps ≤ APP_LIMIT
unfolding conf_of
few_applications top none =
    let few = few_in (get_member (codes "app") top) (good_app top (no_bad_key top (no_bad_value top none))) in
    let same = length-map (applications top) application_of in
    omega (arith, few, same)

in_document : (found : Option Members) (conf : Conf) → of_document found ≡ Ok conf → length conf.apps ≤ APP_LIMIT
in_document None conf h = cc
in_document (Some top) conf h =
    let good = no_fault (faults_of top) (conf_of top) conf h in
    subst (λ (c : Conf). length c.apps ≤ APP_LIMIT) good.1 (few_applications top good.0)

few_apps : (text : List ℕ) (conf : Conf) → Ok conf ≡ reading text → length conf.apps ≤ APP_LIMIT
unfolding reading
few_apps text conf h = in_document (document text) conf (sym h)

-- of a call that reads it
pub few_read : (text : List ℕ) (conf : Conf) → (Ok conf ≡ reading text) ⊎ (Ok conf ≡ Err faults.NoMemory) → length conf.apps ≤ APP_LIMIT
few_read text conf (inl is) = few_apps text conf is
few_read text conf (inr is) = cc

-- ---- shards and workers

-- one at least, and no more than the limit
abbrev pub AreSome : ℕ → ℕ → Type 0
AreSome limit count = (0 < count) × (count ≤ limit)

good_shards : (top : Members) → bad_keys top_rows top ≡ [] → is_some (shards_in (get_member (codes "shards") top)) ≡ true
good_shards top none =
    let good = is_some (shards_in (get_member (codes "shards") top)) in
    good_unless good (codes "shards") (no_front (unless good (codes "shards")) (bad_keys (drop 3 top_rows) top) (skip 2 top_rows top none))

good_workers : (top : Members) → bad_keys top_rows top ≡ [] → is_some (workers_in (get_member (codes "workers") top)) ≡ true
good_workers top none =
    let good = is_some (workers_in (get_member (codes "workers") top)) in
    good_unless good (codes "workers") (no_front (unless good (codes "workers")) (bad_keys (drop 4 top_rows) top) (skip 3 top_rows top none))

number_within : (limit n : ℕ) (b : Bool) → (nat_le 1 n && nat_le n limit) ≡ b → is_some (cond b (Some n) None) ≡ true → AreSome limit (unwrap_or (cond b (Some n) None) 0)
number_within limit n true e h =
    let both = and_parts (nat_le 1 n) (nat_le n limit) e in
    let least : 1 ≤ n = leb-true 1 n both.0 in
    let most : n ≤ limit = leb-true n limit both.1 in
    (omega (arith, least), most)
number_within limit n false e h = absurd (false≢true h)

value_within : (usual limit : ℕ) (value : Option Data) → AreSome limit usual → is_some (where_absent usual (number_in 1 limit) value) ≡ true
    → AreSome limit (unwrap_or (where_absent usual (number_in 1 limit) value) 0)
value_within usual limit None fits good = fits
value_within usual limit (Some (integer (pos n))) fits good = number_within limit n (nat_le 1 n && nat_le n limit) refl good
value_within usual limit (Some (integer (negsuc n))) fits good = absurd (false≢true good)
value_within usual limit (Some (string text)) fits good = absurd (false≢true good)
value_within usual limit (Some (float x)) fits good = absurd (false≢true good)
value_within usual limit (Some (boolean b)) fits good = absurd (false≢true good)
value_within usual limit (Some (datetime d)) fits good = absurd (false≢true good)
value_within usual limit (Some (table _)) fits good = absurd (false≢true good)
value_within usual limit (Some (array items)) fits good = absurd (false≢true good)

abbrev pub IsManned : Conf → Type 0
IsManned conf = AreSome SHARD_LIMIT conf.shards × AreSome WORKER_LIMIT conf.workers

manned_conf : (top : Members) → faults_of top ≡ [] → IsManned (conf_of top)
unfolding conf_of
manned_conf top none =
    let keys = no_bad_key top (no_bad_value top none) in (
      value_within DEFAULT_SHARDS SHARD_LIMIT (get_member (codes "shards") top) (omega arith, omega arith) (good_shards top keys),
      value_within DEFAULT_WORKERS WORKER_LIMIT (get_member (codes "workers") top) (omega arith, omega arith) (good_workers top keys),
    )

manned_in_document : (found : Option Members) (conf : Conf) → of_document found ≡ Ok conf → IsManned conf
manned_in_document None conf h = cc
manned_in_document (Some top) conf h =
    let good = no_fault (faults_of top) (conf_of top) conf h in
    subst IsManned good.1 (manned_conf top good.0)

manned_text : (text : List ℕ) (conf : Conf) → Ok conf ≡ reading text → IsManned conf
unfolding reading
manned_text text conf h = manned_in_document (document text) conf (sym h)

pub manned_read : (text : List ℕ) (conf : Conf) → (Ok conf ≡ reading text) ⊎ (Ok conf ≡ Err faults.NoMemory) → IsManned conf
manned_read text conf (inl is) = manned_text text conf is
manned_read text conf (inr is) = cc
