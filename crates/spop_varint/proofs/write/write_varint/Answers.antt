use Rattle.std.proofs.Common.{rules, ◌≡◌}
use Rattle.spop_varint.specs.Writing.{spelling}
use Rattle.spop_varint.proofs.Spelling.{spelling_is}
use Rattle.spop_varint.proofs.write.write_varint.Goals as goal

pub returns-clause-exact : goal.returns-clause-exact
returns-clause-exact c =
    let same : c.spell.result.items ≡ spelling c.args.value = spelling_is _ c.args.value c.spell.ensures in
    search rules
