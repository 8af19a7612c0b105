use Rattle.std.proofs.Common.{◌≡◌, subst}
use Rattle.std.specs.Result.{IfOk}
use Rattle.sec_collect.specs.Expansion.{expansion}
use Rattle.sec_collect.specs.TransactionView.{TransactionView}
use Rattle.sec_meaning.specs.Text.{text_of}
use Rattle.sec_eval.proofs.state.StateTransaction.expanded.Goals as goal

pub returns : goal.returns
returns c = subst (λ (v : TransactionView). IfOk c.expanded.result (λ t. text_of t ≡ expansion v c.args.text.now)) c.vars.ensures c.expanded.ensures
