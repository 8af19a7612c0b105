use Rattle.std.proofs.Common.{◌≡◌, ◌+◌, not, position, Some, None, sym, ap, ◌∙◌}
use Rattle.replay_text.specs.Playable.{names_shard}
use Rattle.agent_main.specs.Replay.{in_script, known, unless_at}
use Rattle.agent_main.proofs.Refusals.{bad}
use Rattle.agent_main.proofs.script.known.Goals as goal

pub returns-in-Some-clause-told : goal.returns-in-Some-clause-told
returns-in-Some-clause-told c =
    let at : position (λ k. not (names_shard c.args.shards k)) c.args.commands ≡ Some c.in-Some.place =
    ap (position (λ k. not (names_shard c.args.shards k))) (sym c.as_slice.ensures) ∙ (sym c.first_unknown.ensures ∙ c.in-Some.is) in
    bad c.bad_line.result (c.in-Some.place + 1) (known c.args.shards c.args.commands) c.bad_line.ensures (ap (λ o. unless_at o c.args.commands) at)

pub returns-in-None-clause-told : goal.returns-in-None-clause-told
returns-in-None-clause-told c =
    let at : position (λ k. not (names_shard c.args.shards k)) c.args.commands ≡ None =
    ap (position (λ k. not (names_shard c.args.shards k))) (sym c.as_slice.ensures) ∙ (sym c.first_unknown.ensures ∙ c.in-None.is) in
    ap (λ o. in_script (unless_at o c.args.commands)) at
