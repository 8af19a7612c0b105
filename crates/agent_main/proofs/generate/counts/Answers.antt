use Rattle.std.proofs.Common.{◌∙◌, ap, Some}
use Rattle.waf_io.specs.Files.{content_of}
use Rattle.agent_main.specs.Summary.{summary}
use Rattle.agent_main.proofs.Generated.{counted}
use Rattle.agent_main.proofs.generate.counts.Goals as goal

pub returns-clause-told : goal.returns-clause-told
returns-clause-told c =
    counted c.args.seed c.args.count c.in_ok-files.files (Some (content_of c.rules_of.new.files)) c.in_ok-rules.rules c.in_ok-apps.apps c.as_slice-commands.result.now c.limits.result c.in_ok-entries.entries c.in_ok-summary.field-0
    c.in_ok-files.ensures c.in_ok-rules.ensures.same c.in_ok-rules.ensures.told c.in_ok-apps.ensures (c.as_slice-commands.ensures ∙ c.in_ok-commands.ensures.commands) c.limits.ensures c.in_ok-entries.ensures (c.in_ok-summary.ensures ∙ ap (summary c.args.count) c.as_slice.ensures)
