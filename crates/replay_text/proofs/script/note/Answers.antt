use Rattle.std.proofs.Common.{◌∷◌, []}
use Rattle.std.proofs.lemmas.Grind.{flat_map-append}
use Rattle.replay_text.specs.Script.{opened_by, opens}
use Rattle.replay_text.proofs.script.note.Goals as goal

pub returns-in-Open : goal.returns-in-Open
returns-in-Open c = λ past flags.
    rw (flat_map-append opens past (c.args.command.now ∷ []), c.in-Open.is) (c.note.ensures (opened_by past) flags)
