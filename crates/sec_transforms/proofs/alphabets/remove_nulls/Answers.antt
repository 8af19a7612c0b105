use Rattle.std.proofs.Common.{sym, ap, ◌∙◌, take}
use Rattle.sec_transforms.proofs.Fronts.{no_nulls}
use Rattle.sec_transforms.proofs.alphabets.remove_nulls.Goals as goal

pub returns-in_ok-copy-in-None : goal.returns-in_ok-copy-in-None
returns-in_ok-copy-in-None c =
    c.cut.ensures ∙ ap (take 1048576) (c.in_ok-copy-in-None.ensures ∙ sym (no_nulls c.args.value.now c.in-None.ensures))
