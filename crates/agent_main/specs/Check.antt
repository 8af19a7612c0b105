-- What `check` prints.
use Rattle.std.specs.Prelude.{ℕ, List, ◌++◌, codes, Result, Ok}
use Rattle.std.specs.List.{flat_map}
use Rattle.sec_ast.specs.declared.listing.Listing.{Listing}
use Rattle.sec_ast.specs.Print.{listing_text}
use Rattle.sec_parts.specs.Results.{◌>>=◌}
use Rattle.sec_read.specs.FileWords.{Named}
use Rattle.shelf.specs.declared.apps.App.{App}
use Rattle.agent_conf.specs.Loading.{loaded}
use Rattle.reports.specs.FaultLines.{in_line}

-- the name of an application, and its rules in canonical text
abbrev pub app_text : App Listing → List ℕ
app_text app = codes "app " ++ app.name ++ codes "\n" ++ listing_text app.rules

-- one after the other
abbrev pub apps_text : List (App Listing) → List ℕ
apps_text apps = flat_map app_text apps

-- the applications of the configuration under that name, or the line of the first fault
unfoldable pub checked : Named → List ℕ → Result (List ℕ) (List ℕ)
checked told name = in_line name (loaded told name) >>= λ found. Ok (apps_text found.apps)
