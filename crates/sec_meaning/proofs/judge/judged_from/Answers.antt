use Rattle.sec_meaning.proofs.Judging.{judged}
use Rattle.sec_meaning.proofs.judge.judged_from.Goals as goal

pub returns : goal.returns
returns c =
    rw c.replace-lines.ensures.value
    (judged c.args.listing.now c.args.request.now _ _ _ _ _ _ _
    c.requires c.in_ok-first.ensures.verdict c.in_ok-first.ensures.state c.in_ok-second.ensures.verdict c.in_ok-second.ensures.state c.in_ok-run.ensures.state)
