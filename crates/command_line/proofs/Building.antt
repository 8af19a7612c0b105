-- What a chain of subcommands makes of a command.
use Rattle.std.proofs.Common.{◌≡◌, ◌∙◌, ap, ap₂, false}
use Rattle.clap.specs.Words.{AddsSubcommand, App, app_of, with_subcommand}
use Rattle.clap.specs.declared.builder.command.Command.TheViews.{out-Command as fields_of}
use Rattle.clap.specs.declared.builder.command.Command.{Command}

pub grown : (old sub new : Command) (app leaf : App) → AddsSubcommand old sub new → (fields_of sub).has_globals ≡ false
    → app_of old ≡ app → app_of sub ≡ leaf → app_of new ≡ with_subcommand app leaf.top
grown old sub new app leaf adds local is leaf_is = adds.shape local ∙ ap₂ (λ a s. with_subcommand a s) is (ap (λ s. s.top) leaf_is)
