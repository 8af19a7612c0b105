use Rattle.std.proofs.Common.{refl, rules}
use Rattle.std.specs.Str.{is_utf8}
use Rattle.std.proofs.lemmas.Str.{is_utf8-from_IsUtf8}
use Rattle.agent_conf.proofs.Texts.{no_document}
use Rattle.agent_conf.proofs.table.document.Goals.{then-is_memory, else-is_memory}
use Rattle.agent_conf.proofs.table.document.Goals as goal

pub returns-in-Ok : goal.returns-in-Ok
returns-in-Ok c = rw (is_utf8-from_IsUtf8 c.args.text.now c.in-Ok.ensures.ok.0) c.in-Ok.ensures.ok.1

pub returns-after-is_memory : goal.returns-after-is_memory
returns-after-is_memory c =
    let text = c.args.text.now in
    elim c.if-is_memory.branch [
      | then-is_memory w ↦ rw w.result-is tt
      | else-is_memory w ↦ rw w.result-is (no_document text (is_utf8 text) refl (c.in-Err.ensures.refused (search rules)))
    ]
