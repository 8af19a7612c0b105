use Rattle.std.proofs.Common.{◌≡◌, subst}
use Rattle.std.specs.Result.{IfOk}
use Rattle.sec_collect.specs.Expansion.{expansion}
use Rattle.sec_collect.specs.TransactionView.{TransactionView}
use Rattle.sec_meaning.proofs.values.expanded.Goals as goal

pub returns : goal.returns
returns c =
    subst (λ (v : TransactionView). IfOk c.expand-expanded.result (λ bytes. bytes ≡ expansion v c.args.text.now)) c.in_ok-vars.ensures
    c.expand-expanded.ensures
