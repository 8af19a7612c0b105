use Rattle.sec_transforms.proofs.Quiet.{tidy}
use Rattle.sec_transforms.proofs.whitespace.is_tidy.Goals as goal

pub returns : goal.returns
returns c = λ t.
    tidy c.args.text.now (c.lacks_bytes.ensures c.if-not-lacks_bytes.false) (c.lacks_bytes-2.ensures c.if-not-lacks_bytes-2.false) (c.lacks.ensures t)
