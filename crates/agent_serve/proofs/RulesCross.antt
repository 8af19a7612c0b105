-- Rules may go to another thread, and be shared with one.
use denote.RattleType.{RattleType}
use denote.Param.Send.{IsSend, IsSync}
use denote.Param.SendFields.{declared_send, declared_sync, variants_send, variants_sync}
use Rattle.sec_ops.specs.contracts.gates.Gate as gate
use Rattle.sec_ops.specs.contracts.pattern.Pattern as pattern
use Rattle.sec_ops.specs.contracts.built.Test as test
use Rattle.sec_ops.specs.contracts.built.Built as built
use Rattle.sec_ops.specs.contracts.built.Built.TheInside as built_inside
use Rattle.sec_ops.specs.contracts.selectors.NamePattern as name
use Rattle.sec_ops.specs.contracts.selectors.NamePattern.TheInside as name_inside
use Rattle.sec_compile.specs.contracts.links.BuiltLink as link
use Rattle.sec_compile.specs.contracts.ruleset.Ruleset as compiled
use Rattle.sec_compile.specs.contracts.ruleset.Ruleset.TheInside as compiled_inside
use Rattle.sec_ast.specs.contracts.listing.Listing as listing
use Rattle.sec_ast.specs.contracts.listing.Item as item
use Rattle.sec_ast.specs.contracts.rule.Rule as rule
use Rattle.sec_ast.specs.contracts.link.Link as sec_link
use Rattle.sec_ast.specs.contracts.operator.Op as op
use Rattle.sec_ast.specs.contracts.target.Target as target
use Rattle.sec_ast.specs.contracts.action.SetVar as setvar
use Rattle.sec_ast.specs.contracts.action.Ctl as ctl
use Rattle.sec_ast.specs.contracts.action.Disrupt as disrupt
use Rattle.sec_ast.specs.contracts.macros.Part as macro_part
use Rattle.sec_ast.specs.contracts.variable.Var as var
use Rattle.sec_ast.specs.contracts.target.Select as select
use Rattle.sec_ast.specs.contracts.action.Change as change
use Rattle.sec_ast.specs.contracts.rule.Place as place
use Rattle.waf_plain.specs.contracts.bytes.Bytes as bytes
use Rattle.waf_plain.specs.contracts.bytes.Bytes.TheInside as bytes_inside
use Rattle.sec_collect.specs.contracts.vars.Vars as vars
use Rattle.sec_eval.specs.contracts.state.State as state
use Rattle.sec_eval.specs.contracts.state.State.TheInside as state_inside
use Rattle.sec_meaning.specs.contracts.state.Removed as removed
use Rattle.sec_ast.specs.contracts.verdict.Verdict as verdict
use Rattle.sec_ast.specs.contracts.verdict.LogLine as line
use Rattle.tx_core.specs.contracts.half.Half as half
use Rattle.tx_core.specs.contracts.half.Half.TheInside as half_inside
use Rattle.atomic_table.proofs.shared.Seat.TheSendSync as seat
use Rattle.atomic_table.proofs.shared.Shared.TheSendSync as shared
use Rattle.atomic_table.proofs.send_lease.SendLease.TheSendSync as lease
use Rattle.agent_serve.specs.contracts.station.Tables as tables
use Rattle.agent_serve.specs.contracts.station.Station as station
use Rattle.agent_serve.proofs.PatternsCross.{over, regex_send, regex_sync}

-- ---- IsSync

gate_sync : IsSync gate.the_row
gate_sync = search over depth 60 fits 5000

pattern_sync : IsSync pattern.the_row
pattern_sync = declared_sync pattern.the_type (search (over, regex_sync) depth 60 fits 5000, (search (over, gate_sync) depth 60 fits 5000, tt))

test_sync : IsSync test.the_row
test_sync = variants_sync test.enum ((search (over, pattern_sync) depth 60 fits 5000, tt), ((search over depth 60 fits 5000, tt), ((search over depth 60 fits 5000, tt), ((search over depth 60 fits 5000, tt), ((search over depth 60 fits 5000, tt), tt)))))

built_inside_sync : IsSync built_inside.the_row
built_inside_sync = declared_sync built_inside.the_type (search over depth 60 fits 5000, (search over depth 60 fits 5000, (search (over, test_sync) depth 60 fits 5000, tt)))

pub built_sync : IsSync built.the_row
built_sync = search (over, built_inside_sync) depth 60 fits 5000

name_inside_sync : IsSync name_inside.the_row
name_inside_sync = declared_sync name_inside.the_type (search (over, built_sync) depth 60 fits 5000, tt)

pub name_sync : IsSync name.the_row
name_sync = search (over, name_inside_sync) depth 60 fits 5000

link_sync : IsSync link.the_row
link_sync = declared_sync link.the_type (search (over, built_sync) depth 60 fits 5000, (search (over, name_sync) depth 60 fits 5000, tt))

bytes_inside_sync : IsSync bytes_inside.the_row
bytes_inside_sync = declared_sync bytes_inside.the_type (search over depth 60 fits 5000, tt)

bytes_sync : IsSync bytes.the_row
bytes_sync = search (over, bytes_inside_sync) depth 60 fits 5000

var_sync : IsSync var.the_row
var_sync = search over depth 60 fits 5000

macro_part_sync : IsSync macro_part.the_row
macro_part_sync = variants_sync macro_part.enum ((search (over, bytes_sync) depth 60 fits 5000, tt), ((search (over, var_sync) depth 60 fits 5000, (search (over, bytes_sync) depth 60 fits 5000, tt)), tt))

op_sync : IsSync op.the_row
op_sync = declared_sync op.the_type (search over depth 60 fits 5000, (search (over, macro_part_sync) depth 60 fits 5000, (search (over, bytes_sync) depth 60 fits 5000, tt)))

select_sync : IsSync select.the_row
select_sync = search (over, bytes_sync) depth 60 fits 5000

target_sync : IsSync target.the_row
target_sync = declared_sync target.the_type (search over depth 60 fits 5000, (search over depth 60 fits 5000, (search (over, var_sync) depth 60 fits 5000, (search (over, select_sync) depth 60 fits 5000, tt))))

change_sync : IsSync change.the_row
change_sync = search (over, macro_part_sync) depth 60 fits 5000

setvar_sync : IsSync setvar.the_row
setvar_sync = declared_sync setvar.the_type (search (over, macro_part_sync) depth 60 fits 5000, (search (over, change_sync) depth 60 fits 5000, tt))

ctl_sync : IsSync ctl.the_row
ctl_sync = search over depth 120 fits 20000

disrupt_sync : IsSync disrupt.the_row
disrupt_sync = search (over, macro_part_sync) depth 60 fits 5000

place_sync : IsSync place.the_row
place_sync = search (over, bytes_sync) depth 60 fits 5000

sec_link_sync : IsSync sec_link.the_row
sec_link_sync = declared_sync sec_link.the_type (search (over, target_sync) depth 60 fits 5000, (search over depth 60 fits 5000, (search over depth 60 fits 5000, (search (over, op_sync) depth 60 fits 5000, (search over depth 60 fits 5000, (search over depth 60 fits 5000, (search over depth 60 fits 5000, (search (over, setvar_sync) depth 60 fits 5000, (search (over, ctl_sync) depth 60 fits 5000, tt)))))))))

rule_sync : IsSync rule.the_row
rule_sync = declared_sync rule.the_type (search over depth 60 fits 5000, (search over depth 60 fits 5000, (search (over, sec_link_sync) depth 60 fits 5000, (search (over, disrupt_sync) depth 60 fits 5000, (search over depth 60 fits 5000, (search over depth 60 fits 5000, (search (over, macro_part_sync) depth 60 fits 5000, (search (over, macro_part_sync) depth 60 fits 5000, (search (over, bytes_sync) depth 60 fits 5000, (search over depth 60 fits 5000, (search (over, bytes_sync) depth 60 fits 5000, (search (over, place_sync) depth 60 fits 5000, tt))))))))))))

item_sync : IsSync item.the_row
item_sync = variants_sync item.enum ((search (over, rule_sync) depth 60 fits 5000, tt), ((search (over, bytes_sync) depth 60 fits 5000, tt), tt))

listing_sync : IsSync listing.the_row
listing_sync = declared_sync listing.the_type (search (over, item_sync) depth 60 fits 5000, (search over depth 60 fits 5000, (search over depth 60 fits 5000, (search over depth 60 fits 5000, (search over depth 60 fits 5000, (search over depth 60 fits 5000, tt))))))

rules_inside_sync : IsSync compiled_inside.the_row
rules_inside_sync = declared_sync compiled_inside.the_type (search (over, listing_sync) depth 60 fits 5000, (search (over, link_sync) depth 60 fits 5000, tt))

pub rules_sync : IsSync compiled.the_row
rules_sync = search (over, rules_inside_sync) depth 60 fits 5000

-- ---- IsSend

gate_send : IsSend gate.the_row
gate_send = search over depth 60 fits 5000

pattern_send : IsSend pattern.the_row
pattern_send = declared_send pattern.the_type (search (over, regex_send) depth 60 fits 5000, (search (over, gate_send) depth 60 fits 5000, tt))

test_send : IsSend test.the_row
test_send = variants_send test.enum ((search (over, pattern_send) depth 60 fits 5000, tt), ((search over depth 60 fits 5000, tt), ((search over depth 60 fits 5000, tt), ((search over depth 60 fits 5000, tt), ((search over depth 60 fits 5000, tt), tt)))))

built_inside_send : IsSend built_inside.the_row
built_inside_send = declared_send built_inside.the_type (search over depth 60 fits 5000, (search over depth 60 fits 5000, (search (over, test_send) depth 60 fits 5000, tt)))

pub built_send : IsSend built.the_row
built_send = search (over, built_inside_send) depth 60 fits 5000

name_inside_send : IsSend name_inside.the_row
name_inside_send = declared_send name_inside.the_type (search (over, built_send) depth 60 fits 5000, tt)

pub name_send : IsSend name.the_row
name_send = search (over, name_inside_send) depth 60 fits 5000

link_send : IsSend link.the_row
link_send = declared_send link.the_type (search (over, built_send) depth 60 fits 5000, (search (over, name_send) depth 60 fits 5000, tt))

bytes_inside_send : IsSend bytes_inside.the_row
bytes_inside_send = declared_send bytes_inside.the_type (search over depth 60 fits 5000, tt)

bytes_send : IsSend bytes.the_row
bytes_send = search (over, bytes_inside_send) depth 60 fits 5000

var_send : IsSend var.the_row
var_send = search over depth 60 fits 5000

macro_part_send : IsSend macro_part.the_row
macro_part_send = variants_send macro_part.enum ((search (over, bytes_send) depth 60 fits 5000, tt), ((search (over, var_send) depth 60 fits 5000, (search (over, bytes_send) depth 60 fits 5000, tt)), tt))

op_send : IsSend op.the_row
op_send = declared_send op.the_type (search over depth 60 fits 5000, (search (over, macro_part_send) depth 60 fits 5000, (search (over, bytes_send) depth 60 fits 5000, tt)))

select_send : IsSend select.the_row
select_send = search (over, bytes_send) depth 60 fits 5000

target_send : IsSend target.the_row
target_send = declared_send target.the_type (search over depth 60 fits 5000, (search over depth 60 fits 5000, (search (over, var_send) depth 60 fits 5000, (search (over, select_send) depth 60 fits 5000, tt))))

change_send : IsSend change.the_row
change_send = search (over, macro_part_send) depth 60 fits 5000

setvar_send : IsSend setvar.the_row
setvar_send = declared_send setvar.the_type (search (over, macro_part_send) depth 60 fits 5000, (search (over, change_send) depth 60 fits 5000, tt))

ctl_send : IsSend ctl.the_row
ctl_send = search over depth 120 fits 20000

disrupt_send : IsSend disrupt.the_row
disrupt_send = search (over, macro_part_send) depth 60 fits 5000

place_send : IsSend place.the_row
place_send = search (over, bytes_send) depth 60 fits 5000

sec_link_send : IsSend sec_link.the_row
sec_link_send = declared_send sec_link.the_type (search (over, target_send) depth 60 fits 5000, (search over depth 60 fits 5000, (search over depth 60 fits 5000, (search (over, op_send) depth 60 fits 5000, (search over depth 60 fits 5000, (search over depth 60 fits 5000, (search over depth 60 fits 5000, (search (over, setvar_send) depth 60 fits 5000, (search (over, ctl_send) depth 60 fits 5000, tt)))))))))

rule_send : IsSend rule.the_row
rule_send = declared_send rule.the_type (search over depth 60 fits 5000, (search over depth 60 fits 5000, (search (over, sec_link_send) depth 60 fits 5000, (search (over, disrupt_send) depth 60 fits 5000, (search over depth 60 fits 5000, (search over depth 60 fits 5000, (search (over, macro_part_send) depth 60 fits 5000, (search (over, macro_part_send) depth 60 fits 5000, (search (over, bytes_send) depth 60 fits 5000, (search over depth 60 fits 5000, (search (over, bytes_send) depth 60 fits 5000, (search (over, place_send) depth 60 fits 5000, tt))))))))))))

item_send : IsSend item.the_row
item_send = variants_send item.enum ((search (over, rule_send) depth 60 fits 5000, tt), ((search (over, bytes_send) depth 60 fits 5000, tt), tt))

listing_send : IsSend listing.the_row
listing_send = declared_send listing.the_type (search (over, item_send) depth 60 fits 5000, (search over depth 60 fits 5000, (search over depth 60 fits 5000, (search over depth 60 fits 5000, (search over depth 60 fits 5000, (search over depth 60 fits 5000, tt))))))

rules_inside_send : IsSend compiled_inside.the_row
rules_inside_send = declared_send compiled_inside.the_type (search (over, listing_send) depth 60 fits 5000, (search (over, link_send) depth 60 fits 5000, tt))

pub rules_send : IsSend compiled.the_row
rules_send = search (over, rules_inside_send) depth 60 fits 5000

vars_send : IsSend vars.the_row
vars_send = search (over, bytes_send) depth 120 fits 20000

removed_send : IsSend removed.the_row
removed_send = search (over, bytes_send) depth 60 fits 5000

verdict_send : IsSend verdict.the_row
verdict_send = search (over, bytes_send) depth 60 fits 5000

line_send : IsSend line.the_row
line_send = search (over, bytes_send) depth 60 fits 5000

state_inside_send : IsSend state_inside.the_row
state_inside_send = declared_send state_inside.the_type (search (over, vars_send) depth 60 fits 5000, (search over depth 60 fits 5000, (search over depth 60 fits 5000, (search over depth 60 fits 5000, (search (over, removed_send) depth 60 fits 5000, (search over depth 60 fits 5000, (search (over, verdict_send) depth 60 fits 5000, (search (over, line_send) depth 60 fits 5000, tt))))))))

state_send : IsSend state.the_row
state_send = search (over, state_inside_send) depth 60 fits 5000

half_inside_send : IsSend half_inside.the_row
half_inside_send = declared_send half_inside.the_type (search (over, rules_send, rules_sync) depth 60 fits 5000, (search over depth 60 fits 5000, (search (over, state_send) depth 60 fits 5000, tt)))

pub half_send : IsSend half.the_row
half_send = search (over, half_inside_send) depth 60 fits 5000

pub ruleset crossing = (over, seat.the_send, shared.the_send, shared.the_sync, lease.the_send, lease.the_sync, rules_send, rules_sync, half_send)

-- ---- what the members of a crew share

tables_sync : (a : _) → IsSync (tables.the_row a)
tables_sync a = declared_sync (tables.the_type a) (search crossing depth 120 fits 20000, (search crossing depth 120 fits 20000, tt))

pub station_sync : (a : _) (C G : RattleType) → IsSync C → IsSync G → IsSync (station.the_row a C G)
station_sync a C G c g = declared_sync (station.the_type a C G) (search over depth 60 fits 5000, (search (over, tables_sync) depth 60 fits 5000, (search over depth 60 fits 5000, (search (over, c) depth 60 fits 5000, (search (over, g) depth 60 fits 5000, tt)))))
