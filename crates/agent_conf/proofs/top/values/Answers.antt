use Rattle.std.proofs.Common.{refl}
use Rattle.std.proofs.lemmas.Result.{err_from_is_err_and}
use Rattle.agent_conf.specs.Configuration.{conf_of}
use Rattle.agent_conf.specs.Faults.{bad_values}
use Rattle.agent_conf.proofs.Firsts.{in_first, in_none, in_second, in_third}
use Rattle.agent_conf.proofs.Refusals.{passes, refuses}
use Rattle.agent_conf.proofs.top.values.Goals as goal

pub returns-in_err-size : goal.returns-in_err-size
unfolding bad_values
returns-in_err-size c =
    let p = err_from_is_err_and c.from_residual.result c.from_residual.ensures.1 in
    rw (p.1, p.2) (refuses c.in_err-size.field-0.0 _ _ _ _ c.in_err-size.ensures (λ none. rw (none) refl))

pub returns-in_err-capacity : goal.returns-in_err-capacity
unfolding bad_values
returns-in_err-capacity c =
    let p = err_from_is_err_and c.from_residual-in_err-capacity.result c.from_residual-in_err-capacity.ensures.1 in
    rw (p.1, p.2) (refuses c.in_err-capacity.field-0.0 _ _ _ _ c.in_err-capacity.ensures (λ none. rw (c.in_ok-size.ensures, none) refl))

pub returns-in_err-shards : goal.returns-in_err-shards
unfolding bad_values
returns-in_err-shards c =
    let p = err_from_is_err_and c.from_residual-in_err-shards.result c.from_residual-in_err-shards.ensures.1 in
    rw (p.1, p.2) (refuses c.in_err-shards.field-0.0 _ _ _ _ c.in_err-shards.ensures.value (λ none. rw (c.in_ok-size.ensures, c.in_ok-capacity.ensures, none) refl))

pub returns-in_err-workers : goal.returns-in_err-workers
unfolding bad_values
returns-in_err-workers c =
    let p = err_from_is_err_and c.from_residual-in_err-workers.result c.from_residual-in_err-workers.ensures.1 in
    rw (p.1, p.2) (refuses c.in_err-workers.field-0.0 _ _ _ _ c.in_err-workers.ensures (λ none. rw (c.in_ok-size.ensures, c.in_ok-capacity.ensures, c.in_ok-shards.ensures.value, none) refl))

pub returns-in_err-listen : goal.returns-in_err-listen
unfolding bad_values
returns-in_err-listen c =
    let p = err_from_is_err_and c.from_residual-in_err-listen.result c.from_residual-in_err-listen.ensures.1 in
    rw (p.1, p.2) (refuses c.in_err-listen.field-0.0 _ _ _ _ c.in_err-listen.ensures (λ none. rw (c.in_ok-size.ensures, c.in_ok-capacity.ensures, c.in_ok-shards.ensures.value, c.in_ok-workers.ensures, none) refl))

pub returns-in_err-fallback : goal.returns-in_err-fallback
unfolding bad_values
returns-in_err-fallback c =
    let p = err_from_is_err_and c.from_residual-in_err-fallback.result c.from_residual-in_err-fallback.ensures.1 in
    rw (p.1, p.2) (refuses c.in_err-fallback.field-0.0 _ _ _ _ c.in_err-fallback.ensures (λ none. rw (c.in_ok-size.ensures, c.in_ok-capacity.ensures, c.in_ok-shards.ensures.value, c.in_ok-workers.ensures, c.in_ok-listen.ensures, none) refl))

pub returns-in_err-check_app : goal.returns-in_err-check_app
unfolding bad_values
returns-in_err-check_app c =
    let p = err_from_is_err_and c.from_residual-in_err-check_app.result c.from_residual-in_err-check_app.ensures.1 in
    rw (p.1, p.2) (passes c.in_err-check_app.field-0.0 _ _ _ _ c.in_err-check_app.ensures (λ key is. rw (c.in_ok-size.ensures, c.in_ok-capacity.ensures, c.in_ok-shards.ensures.value, c.in_ok-workers.ensures, c.in_ok-listen.ensures, c.in_ok-fallback.ensures) (in_first _ _ _ key is)))

pub returns-in_err-check_rows : goal.returns-in_err-check_rows
unfolding bad_values
returns-in_err-check_rows c =
    let p = err_from_is_err_and c.from_residual-in_err-check_rows.result c.from_residual-in_err-check_rows.ensures.1 in
    let crowded = rw c.unwrap_or-capacity.ensures at c.in_err-check_rows.ensures in
    rw (p.1, p.2) (passes c.in_err-check_rows.field-0.0 _ _ _ _ crowded (λ key is. rw (c.in_ok-size.ensures, c.in_ok-capacity.ensures, c.in_ok-shards.ensures.value, c.in_ok-workers.ensures, c.in_ok-listen.ensures, c.in_ok-fallback.ensures) (in_second _ _ _ key c.in_ok-check_app.ensures.0 is)))

pub returns-in_err-apps : goal.returns-in_err-apps
unfolding bad_values
returns-in_err-apps c =
    let p = err_from_is_err_and c.from_residual-in_err-apps.result c.from_residual-in_err-apps.ensures.1 in
    let room = rw c.unwrap_or-capacity.ensures at c.in_ok-check_rows.ensures.0 in
    let bad = rw c.members.ensures at c.in_err-apps.ensures in
    rw (p.1, p.2) (passes c.in_err-apps.field-0.0 _ _ _ _ bad (λ key is. rw (c.in_ok-size.ensures, c.in_ok-capacity.ensures, c.in_ok-shards.ensures.value, c.in_ok-workers.ensures, c.in_ok-listen.ensures, c.in_ok-fallback.ensures) (in_third _ _ _ key c.in_ok-check_app.ensures.0 room is)))

pub returns : goal.returns
unfolding bad_values conf_of
returns c =
    let room = rw c.unwrap_or-capacity.ensures at c.in_ok-check_rows.ensures.0 in
    let apps = rw c.members.ensures at c.in_ok-apps.ensures in (
      rw (c.in_ok-size.ensures, c.in_ok-capacity.ensures, c.in_ok-shards.ensures.value, c.in_ok-workers.ensures, c.in_ok-listen.ensures, c.in_ok-fallback.ensures) (in_none _ _ _ c.in_ok-check_app.ensures.0 room apps.0),
      rw (c.in_ok-size.ensures, c.in_ok-capacity.ensures, c.in_ok-shards.ensures.value, c.in_ok-workers.ensures, c.in_ok-listen.ensures, c.in_ok-fallback.ensures, c.unwrap_or-capacity.ensures, apps.1) refl,
    )
