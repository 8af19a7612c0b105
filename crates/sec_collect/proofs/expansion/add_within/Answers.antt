use Rattle.sec_collect.specs.declared.expansion.TheConstants.{EXPANSION_LIMIT}
use Rattle.sec_collect.proofs.Takes.{take_within}
use Rattle.sec_collect.proofs.expansion.add_within.Goals as goal

pub returns : goal.returns
returns c =
    rw (c.first_bytes.ensures, c.len-room.ensures, take_within EXPANSION_LIMIT c.args.out.now c.args.text.now c.requires) at c.append.ensures.ok
