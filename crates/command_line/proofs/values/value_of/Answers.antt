use Rattle.std.proofs.Common.{◌∙◌, ap}
use Rattle.clap.specs.Words.{found_of}
use Rattle.clap.proofs.WalkLemmas.{first_value-rows}
use Rattle.command_line.proofs.Found.{seen_or}
use Rattle.command_line.proofs.values.value_of.Goals as goal

pub returns : goal.returns
returns c =
    let found = c.get_str.ensures ∙ first_value-rows (found_of c.args.values.now) c.args.id.now in
    ap (λ text. text.now) c.unwrap_or.ensures ∙ seen_or (λ text. text.now) c.get_str.result _ _ found
