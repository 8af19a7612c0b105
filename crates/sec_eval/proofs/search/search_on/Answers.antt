use Rattle.std.proofs.Common.{◌∙◌, sym}
use Rattle.std.proofs.lemmas.Result.{IfOk-weaker}
use Rattle.sec_meaning.specs.Text.{text_of}
use Rattle.sec_eval.proofs.Searches.{kept, stepped}
use Rattle.sec_eval.proofs.search.search_on.Goals as goal

pub returns-then-eq-clause-missed : goal.returns-then-eq-clause-missed
returns-then-eq-clause-missed c = λ left last leads.
    kept c.args.transform left (text_of c.in-Missed.value) c.in_ok-next-in-Missed.next last (rw c.as_slice.ensures at c.in_ok-next-in-Missed.ensures)
    (rw (c.as_slice-in-Missed.ensures, c.as_slice-in-Missed-2.ensures) at (sym c.eq.ensures ∙ c.if-eq.true)) (rw c.in-Missed.is at leads)

pub returns-else-eq-clause-missed : goal.returns-else-eq-clause-missed
returns-else-eq-clause-missed c =
    IfOk-weaker c.search_in.result _ _
    (λ s missed. λ left last leads. stepped c.args.transform left (text_of c.in-Missed.value) c.in_ok-next-in-Missed.next last s (rw c.as_slice.ensures at c.in_ok-next-in-Missed.ensures) missed (rw c.in-Missed.is at leads))
    c.search_in.ensures.missed
