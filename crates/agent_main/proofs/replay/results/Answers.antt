use Rattle.std.proofs.Common.{◌∙◌, List, ap, subst}
use Rattle.agent_main.specs.declared.playing.Limits.{Limits}
use Rattle.agent_main.specs.Turns.{Command, Plays, entries_text, limits_of}
use Rattle.agent_main.proofs.Results.{plays_since, whole}
use Rattle.agent_main.proofs.replay.results.Goals as goal

pub returns-in_ok-entries_text-in-Ok-clause-told : goal.returns-in_ok-entries_text-in-Ok-clause-told
returns-in_ok-entries_text-in-Ok-clause-told g c =
    let files = g.F.Files in
    let content = files.content c.args.files.now in
    let name = c.args.name.now in
    let before = files.faults c.args.files.now in
    let then = files.faults c.load.new.files in
    let now = files.faults c.shown.new.files in
    let conf = c.in-Ok.conf in
    let apps = c.in-Ok.apps in
    let played = c.in_ok-commands-in-Ok.commands in
    let entries = c.in_ok-entries-in-Ok.entries in
    let plays = subst (λ (l : Limits). Plays (files.content c.load.new.files) name then now l apps c.as_slice-commands.result.now entries) c.limits_of-limits.ensures c.in_ok-entries-in-Ok.ensures in
    let plays = subst (λ (l : List Command). Plays (files.content c.load.new.files) name then now (limits_of conf) apps l entries) c.as_slice-commands.ensures plays in
    whole content (g.S.Source.left c.args.input.now) name before now conf apps played entries c.in_ok-entries_text-in-Ok.field-0 c.in-Ok.ensures.told c.in_ok-commands-in-Ok.ensures.told
    (plays_since content (files.content c.load.new.files) name before then now (limits_of conf) apps played entries c.in-Ok.ensures.same c.in-Ok.ensures.later plays) (c.in_ok-entries_text-in-Ok.ensures ∙ ap (entries_text name) c.as_slice.ensures)
