-- What was loaded, where each handle of rules is seen as their listing.
use Rattle.std.specs.Prelude.{map}
use Rattle.sec_ast.specs.declared.listing.Listing.{Listing}
use Rattle.shelf.specs.declared.apps.App.{App}
use Rattle.shelf.specs.declared.apps.Apps.{Apps}
use Rattle.agent_conf.specs.declared.conf.Conf.{Conf}
use Rattle.agent_conf.specs.Loading.{Loaded}

module _ {R : Type 0} (listing_of : R → Listing) where
  abbrev pub app_seen : App R → App Listing
  app_seen app = record { name = app.name; rules = listing_of app.rules; settings = app.settings }

  abbrev pub seen : Conf × Apps R → Loaded
  seen found = record { conf = found.0; apps = map app_seen found.1.list; fallback = found.1.fallback }
