use Rattle.std.proofs.Common.{◌≡◌, [], subst}
use Rattle.std.specs.List.{flat_map, zip}
use Rattle.std.specs.Result.{IfOk}
use Rattle.sec_collect.specs.Expansion.{expansion}
use Rattle.sec_collect.specs.Selection.{selection}
use Rattle.sec_collect.specs.TransactionView.{TransactionView}
use Rattle.sec_ops.specs.Selectors.{is_matched, patterns_of}
use Rattle.sec_meaning.specs.Values.{listed, match_of}
use Rattle.sec_meaning.proofs.matching.matches.Goals as goal

pub returns : goal.returns
returns c =
    let link = c.args.link.now in
    subst (λ (v : TransactionView). IfOk c.matches_of-rows.result (λ out. out ≡ flat_map (λ r. listed (match_of link (expansion v link.op.text) r)) (selection is_matched (zip link.targets (patterns_of link.targets)) [] v)))
    c.in_ok-vars.ensures c.matches_of-rows.ensures
