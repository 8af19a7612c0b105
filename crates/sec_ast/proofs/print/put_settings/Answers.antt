use Rattle.sec_ast.proofs.Written.{settings_are}
use Rattle.sec_ast.proofs.print.put_settings.Goals as goal

pub returns : goal.returns
returns c =
    settings_are c.put_setting-4.result c.args.listing.now c.name.result.now c.switch_text.result.now c.limit_action.result.now c.switch_text-2.result.now
    c.args.out.now c.put_setting.new.out c.put_setting-2.new.out c.put_limit.new.out c.put_setting-3.new.out c.put_setting-4.new.out
    c.name.ensures c.switch_text.ensures c.limit_action.ensures c.switch_text-2.ensures
    c.in_ok-put_setting.ensures c.in_ok-put_setting-2.ensures c.in_ok-put_limit.ensures c.in_ok-put_setting-3.ensures c.put_setting-4.ensures
