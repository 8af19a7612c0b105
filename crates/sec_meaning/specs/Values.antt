-- The rows that a link matches, and their matched values.
use Rattle.std.specs.Prelude.{ℕ, if◌then◌else◌, List, [], ◌∷◌, ◌++◌, Option, Some, None}
use Rattle.std.specs.List.{flat_map, zip}
use Rattle.std.specs.Option.{option_map, option_or}
use Rattle.std.specs.Str.{bytes_eq}
use Rattle.sec_ast.specs.declared.link.Link.{Link}
use Rattle.sec_ast.specs.declared.transform.Transform.{Transform}
use Rattle.sec_collect.specs.declared.row_ref.RowRef.{RowRef}
use Rattle.sec_collect.specs.Expansion.{expansion}
use Rattle.sec_collect.specs.Selection.{full_name, selection}
use Rattle.sec_ops.specs.Hits.{hit}
use Rattle.sec_ops.specs.Selectors.{is_matched, patterns_of}
use Rattle.sec_transforms.specs.Apply.{chained, transformed}
use Rattle.sec_meaning.specs.declared.state.Found.{Found}
use Rattle.sec_meaning.specs.declared.state.Matched.{Matched}
use Rattle.sec_meaning.specs.declared.state.PlainState.{PlainState}
use Rattle.sec_meaning.specs.State.{view_of}

-- the values that a link looks at: each target stands beside its pattern
abbrev pub values_of : Link → PlainState → List RowRef
values_of link s = selection is_matched (zip link.targets (patterns_of link.targets)) [] (view_of s)

-- what a transformation makes of a value, where it changes it
abbrev pub change : Transform → List ℕ → List (List ℕ)
change t value = if bytes_eq (transformed t value) value then [] else transformed t value ∷ []

-- and each of a chain
abbrev pub changes : List Transform → List ℕ → List (List ℕ)
changes [] value = []
changes (t ∷ ts) value = change t value ++ changes ts (transformed t value)

-- with `multiMatch` the value itself and each change are tested too
abbrev pub before_chain : Link → List ℕ → List (List ℕ)
before_chain link value = if link.multi then value ∷ changes link.transforms value else []

-- the values that are tested of one, the last of them that after the whole chain
abbrev pub tested : Link → List ℕ → List (List ℕ)
tested link value = before_chain link value ++ chained link.transforms value ∷ []

-- the texts of the groups of a hit, none for a group that took no part
abbrev pub Groups : Type 0
Groups = List (Option (List ℕ))

abbrev pub found_in : List ℕ → Groups → Found
found_in value groups = record { value = value; groups = groups }

-- the first value in which something is found, and the groups
abbrev pub first_hit : (List ℕ → Option Groups) → List (List ℕ) → Option Found
first_hit finds [] = None
first_hit finds (value ∷ values) = option_or (option_map (found_in value) (finds value)) (first_hit finds values)

abbrev pub matched_as : RowRef → List ℕ → Groups → Matched
matched_as r value groups = record { name = full_name r; value = value; groups = groups }

-- a negated operator matches a value of which no tested one has a hit
abbrev pub unless_hit : Option Found → Matched → Option Matched
unless_hit None matched = Some matched
unless_hit (Some found) matched = None

abbrev pub match_of : Link → List ℕ → RowRef → Option Matched
match_of link argument r =
    let found = first_hit (hit link.op argument) (tested link r.value) in
    if link.negated then unless_hit found (matched_as r (chained link.transforms r.value) [])
    else option_map (λ f. matched_as r f.value f.groups) found

abbrev pub listed : Option Matched → List Matched
listed None = []
listed (Some matched) = matched ∷ []

-- the rows that a link matches, in order. The argument is expanded once, before
abbrev pub matches : Link → PlainState → List Matched
matches link s = flat_map (λ r. listed (match_of link (expansion (view_of s) link.op.text) r)) (values_of link s)
