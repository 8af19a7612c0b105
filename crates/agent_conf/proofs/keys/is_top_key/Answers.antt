use Rattle.std.proofs.Common.{refl}
use Rattle.agent_conf.proofs.Texts.{unlike}
use Rattle.agent_conf.proofs.keys.is_top_key.Goals as goal

pub returns-in_default : goal.returns-in_default
returns-in_default c =
    let key = c.args.key.now in
    let no = c.in_default in
    rw (unlike _ key no.not-size, unlike _ key no.not-capacity, unlike _ key no.not-shards, unlike _ key no.not-workers, unlike _ key no.not-listen, unlike _ key no.not-text, unlike _ key no.not-app) refl
