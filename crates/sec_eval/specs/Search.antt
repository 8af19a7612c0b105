-- What comes of the tests of a value.
use Rattle.std.specs.Prelude.{◌≡◌, ℕ, List, Option, Some, None}
use Rattle.sec_ast.specs.declared.transform.Transform.{Transform}
use Rattle.sec_eval.specs.declared.search.Search.{Search}
use Rattle.sec_eval.specs.declared.search.Search.TheVariants.{Found, Missed}
use Rattle.sec_meaning.specs.Text.{text_of}
use Rattle.sec_meaning.specs.declared.state.Found as founds
use Rattle.sec_meaning.specs.Values.{Groups, changes, first_hit, found_in}
use Rattle.sec_transforms.specs.Apply.{chained}

abbrev pub found_by : Search → Option founds.Found
found_by (Found value groups) = Some (found_in (text_of value) groups)
found_by (Missed value) = None

-- where nothing was found, this is the last value
abbrev pub IsMissed : List ℕ → Search → Type 0
IsMissed last (Found value groups) = Unit {0}
IsMissed last (Missed value) = text_of value ≡ last

-- what is found where further transformations come
abbrev pub found_then : (List ℕ → Option Groups) → List Transform → Search → Option founds.Found
found_then finds left (Found value groups) = Some (found_in (text_of value) groups)
found_then finds left (Missed value) = first_hit finds (changes left (text_of value))

-- where nothing was found, further transformations make that value
abbrev pub LeadsTo : List ℕ → List Transform → Search → Type 0
LeadsTo last left (Found value groups) = Unit {0}
LeadsTo last left (Missed value) = chained left (text_of value) ≡ last
