use Rattle.sec_transforms.proofs.Quiet.{spaces_same}
use Rattle.sec_transforms.proofs.command.keeps_spaces.Goals as goal

pub returns : goal.returns
returns c = λ t.
    spaces_same c.args.text.now (c.lacks.ensures c.if-not-lacks.false) (c.lacks-2.ensures c.if-not-lacks-2.false) (c.lacks-3.ensures t)
