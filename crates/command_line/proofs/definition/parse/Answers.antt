use Rattle.std.proofs.Common.{◌≡◌, ◌∙◌, ap, refl, subst, true, map, List, Result, IfOk}
use Rattle.std.proofs.lemmas.Result.{IfOk-weaker}
use Rattle.clap.specs.Words.{App, FailsBy, HasMatchesOf, Text, app_of, fault_of, is_simple, is_simple_and_free, subcommand_of, subcommand_rows_of}
use Rattle.clap.specs.declared.error.Error.{Error}
use Rattle.clap.specs.declared.parser.matches.ArgMatches.{ArgMatches}
use Rattle.clap.proofs.OnLiterals.{clap_on_literals}
use Rattle.command_line.specs.Definition.{agent}
use Rattle.command_line.proofs.definition.parse.Goals as goal

simple : is_simple agent ≡ true
unfolding clap_on_literals
simple = refl

free : is_simple_and_free agent ≡ true
unfolding clap_on_literals
free = refl

-- what clap ensures of a parse, for a command that is `agent`
module _ (a : App) (is : a ≡ agent) (words : List Text) (r : Result ArgMatches Error) where
  causes_of : (is_simple_and_free a ≡ true → FailsBy (fault_of a words) r) → FailsBy (fault_of agent words) r
  causes_of h = subst (λ b. FailsBy (fault_of b words) r) is (h (ap is_simple_and_free is ∙ free))

  entered_of : IfOk r (HasMatchesOf a words) → IfOk r (λ m. subcommand_rows_of m ≡ subcommand_of agent words)
  entered_of = IfOk-weaker r _ _ (λ m h. (h (ap is_simple is ∙ simple)).1 ∙ ap (λ b. subcommand_of b words) is)

pub returns : goal.returns
returns c =
    let words = map (λ w. w.now) c.args.words.now in
    let is : app_of c.in_ok-command.command ≡ agent = c.in_ok-command.ensures.shape in
    let parse = c.try_get_matches_from in
    record {
      entered = entered_of _ is words parse.result parse.ensures.matches;
      causes = causes_of _ is words parse.result parse.ensures.kinds;
    }
