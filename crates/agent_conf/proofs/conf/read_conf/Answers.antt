use Rattle.std.proofs.lemmas.Result.{err_from_is_err_and}
use Rattle.toml.specs.View.{table_view}
use Rattle.agent_conf.proofs.Refusals.{bad_application, bad_key, bad_value, no_document, no_fault}
use Rattle.agent_conf.proofs.conf.read_conf.Goals as goal

pub returns-in_err-top : goal.returns-in_err-top
returns-in_err-top c =
    let p = err_from_is_err_and c.from_residual.result c.from_residual.ensures.1 in
    rw (p.1, p.2) (no_document c.in_err-top.field-0.0 c.args.text.now c.in_err-top.ensures)

pub returns-in_err-check_keys : goal.returns-in_err-check_keys
returns-in_err-check_keys c =
    let p = err_from_is_err_and c.from_residual-in_err-check_keys.result c.from_residual-in_err-check_keys.ensures.1 in
    rw (p.1, p.2) (bad_key c.in_err-check_keys.field-0.0 c.args.text.now (table_view c.in_ok-top.top) c.in_ok-top.ensures c.in_err-check_keys.ensures)

pub returns-in_err-conf : goal.returns-in_err-conf
returns-in_err-conf c =
    let p = err_from_is_err_and c.from_residual-in_err-conf.result c.from_residual-in_err-conf.ensures.1 in
    rw (p.1, p.2) (bad_value c.in_err-conf.field-0.0 c.args.text.now (table_view c.in_ok-top.top) c.in_ok-top.ensures c.in_ok-check_keys.ensures c.in_err-conf.ensures)

pub returns-in_err-check_applications : goal.returns-in_err-check_applications
returns-in_err-check_applications c =
    let p = err_from_is_err_and c.from_residual-in_err-check_applications.result c.from_residual-in_err-check_applications.ensures.1 in
    let bad = rw c.in_ok-conf.ensures.1 at c.in_err-check_applications.ensures in
    rw (p.1, p.2) (bad_application c.in_err-check_applications.field-0.0 c.args.text.now (table_view c.in_ok-top.top) c.in_ok-top.ensures c.in_ok-check_keys.ensures c.in_ok-conf.ensures.0 bad)

pub returns : goal.returns
returns c =
    no_fault c.args.text.now (table_view c.in_ok-top.top) c.in_ok-conf.conf c.in_ok-top.ensures c.in_ok-check_keys.ensures c.in_ok-conf.ensures.0 c.in_ok-conf.ensures.1 c.in_ok-check_applications.ensures
