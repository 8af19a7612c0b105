use Rattle.std.proofs.Common.{length, ◌∙◌, ap, arith}
use Rattle.spop_varint.proofs.Laws.{short_enough}
use Rattle.spop_varint.proofs.Spelling.{spelling_is}
use Rattle.spop_varint.proofs.write.varint_length.Goals as goal

pub returns-clause-exact : goal.returns-clause-exact
returns-clause-exact c = c.len.ensures.value ∙ ap length (spelling_is _ c.args.value c.spell.ensures)

pub returns-clause-few : goal.returns-clause-few
returns-clause-few c = omega (arith, c.len.ensures.value, short_enough _ c.args.value c.spell.ensures)
