use Rattle.std.proofs.Common.{◌≡◌, Some, sym, ap, ◌∙◌, subst, rules}
use Rattle.std.specs.Option.{option_copied}
use Rattle.shelf.specs.Found.{app_in}
use Rattle.shelf.proofs.shelf.Shelf.look.Goals as goal

pub returns-in-Ok : goal.returns-in-Ok
returns-in-Ok g c =
    (c.in-Some.app.now, subst (λ s. app_in s.apps c.args.name.now ≡ Some c.in-Some.app.now) c.self.view_is (sym c.app_of.ensures ∙ ap option_copied c.in-Some.is), search rules, search rules, search rules)
