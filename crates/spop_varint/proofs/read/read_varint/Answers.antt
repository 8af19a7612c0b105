use Rattle.std.proofs.Common.{sym, ◌∙◌, subst, ap, arith}
use Rattle.spop_varint.specs.declared.read.Varint as answers
use Rattle.spop_varint.specs.Varint.{IsRead}
use Rattle.spop_varint.specs.Reading.{number_at}
use Rattle.spop_varint.proofs.Laws.{IsBytes, Answers, number_answers, is_read, again, only_short, only_large}
use Rattle.spop_varint.proofs.read.read_varint.Goals as goal

pub returns-clause-read : goal.returns-clause-read
returns-clause-read c =
    let bytes : IsBytes c.args.input.now = λ i. omega (arith, c.type_inv.input i) in
    subst (λ (x : answers.Varint). IsRead c.args.input.now x) (sym c.number.ensures) (is_read _ _ (number_answers c.args.input.now bytes))

pub returns-clause-again : goal.returns-clause-again
returns-clause-again c = λ spelling rest v s is. c.number.ensures ∙ ap number_at is ∙ again spelling rest v s

pub returns-clause-short : goal.returns-clause-short
returns-clause-short c =
    let bytes : IsBytes c.args.input.now = λ i. omega (arith, c.type_inv.input i) in (
      λ is. subst (λ (x : answers.Varint). Answers c.args.input.now x) (sym c.number.ensures ∙ is) (number_answers c.args.input.now bytes),
      λ s. c.number.ensures ∙ only_short c.args.input.now bytes s,
    )

pub returns-clause-too_large : goal.returns-clause-too_large
returns-clause-too_large c =
    let bytes : IsBytes c.args.input.now = λ i. omega (arith, c.type_inv.input i) in (
      λ is. subst (λ (x : answers.Varint). Answers c.args.input.now x) (sym c.number.ensures ∙ is) (number_answers c.args.input.now bytes),
      λ large. c.number.ensures ∙ only_large c.args.input.now bytes large,
    )
