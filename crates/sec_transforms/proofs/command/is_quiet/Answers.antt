use Rattle.sec_transforms.proofs.Quiet.{quiet}
use Rattle.sec_transforms.proofs.command.is_quiet.Goals as goal

pub returns : goal.returns
returns c = λ t.
    quiet c.args.text.now (c.lacks_bytes.ensures c.if-not-lacks_bytes.false) (c.lacks_bytes-2.ensures c.if-not-lacks_bytes-2.false)
    (c.lacks_bytes-3.ensures c.if-not-lacks_bytes-3.false) (c.keeps_spaces.ensures t)
