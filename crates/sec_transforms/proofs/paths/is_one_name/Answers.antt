use Rattle.std.proofs.Common.{arith}
use Rattle.sec_transforms.proofs.Names.{one_name}
use Rattle.sec_transforms.proofs.paths.is_one_name.Goals as goal

pub returns-in-None : goal.returns-in-None
returns-in-None c = λ _. one_name c.args.value.now (omega arith) c.in-None.ensures
