-- Which application a name means.
use Rattle.std.specs.Prelude.{ℕ, List, bytes_eq, position, slice_get, Option, Some, None}
use Rattle.std.specs.Option.{option_or}
use Rattle.shelf.specs.declared.apps.App.{App}
use Rattle.shelf.specs.declared.apps.Apps.{Apps}

-- the place of the first application of this name, else the fallback
abbrev pub place_in : {R : Type 0} → Apps R → List ℕ → Option ℕ
place_in apps name = option_or (position (λ app. bytes_eq app.name name) apps.list) apps.fallback

-- what stands at a place, where there is one
abbrev pub at_place : {A : Type 0} → List A → Option ℕ → Option A
at_place list None = None
at_place list (Some place) = slice_get list place

-- the application that a name means
abbrev pub app_in : {R : Type 0} → Apps R → List ℕ → Option (App R)
app_in apps name = at_place apps.list (place_in apps name)
