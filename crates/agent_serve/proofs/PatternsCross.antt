-- A compiled pattern may go to another thread, and be shared with one.
use denote.RattleType.{RattleType}
use denote.Param.Send.{IsSend, IsSync, sendable}
use denote.Param.SendFields.{declared_send, declared_sync, variants_send, variants_sync, as_row_send, as_row_sync}
use denote.Hole.Fix.{holes}
use denote.Hole.FixSend.{fix_send, fix_sync, Sends, Syncs}
use Rattle.std.proofs.Crossing.{crosses}
use Rattle.std.proofs.MapsCrossing.{crosses as maps}
use Rattle.regex_class.specs.contracts.Class as class
use Rattle.regex_hir.specs.declared.hir.Hir.TheBlock.{member-Hir}
use Rattle.regex_hir.specs.contracts.hir.Hir.TheKnot.{layer-Hir, type-Hir}
use Rattle.regex_hir.specs.contracts.hir.Hir.{the_ring}
use Rattle.regex_hir.specs.contracts.hir.Hir as hir
use Rattle.regex_hir.specs.contracts.look.Look as look
use Rattle.regex_nfa.specs.contracts.nfa.Nfa as nfa
use Rattle.regex_dfa.specs.contracts.dfa.Dfa as dfa
use Rattle.regex_meta.specs.contracts.plan.Plans as plans
use Rattle.regex_meta.specs.contracts.signs.Signs as signs
use Rattle.regex_meta.specs.contracts.program.Program as program
use Rattle.regex_syntax.specs.contracts.Config as config
use Rattle.regex.specs.contracts.pattern.Pattern as pattern
use Rattle.regex.specs.contracts.bytes.regex.Regex as regex

pub ruleset over = (as_row_send, as_row_sync, sendable, crosses, maps)

-- ---- IsSync

class_sync : IsSync class.the_row
class_sync = search over depth 60 fits 5000

look_sync : IsSync look.the_row
look_sync = search over depth 60 fits 5000

layer_sync : (a b c d : RattleType) → IsSync a → IsSync b → IsSync c → IsSync d → IsSync (layer-Hir a b c d)
layer_sync a b c d p q r s = variants_sync (type-Hir a b c d) (tt, ((search over depth 60 fits 5000, tt), ((search (over, class_sync) depth 60 fits 5000, tt), ((search (over, class_sync) depth 60 fits 5000, tt), ((search (over, look_sync) depth 60 fits 5000, tt), ((search over depth 60 fits 5000, (search over depth 60 fits 5000, (search over depth 60 fits 5000, (search (over, p) depth 60 fits 5000, tt)))), ((search over depth 60 fits 5000, (search (over, q) depth 60 fits 5000, tt)), ((search (over, r) depth 60 fits 5000, tt), ((search (over, s) depth 60 fits 5000, tt), tt)))))))))

layers_sync : (i : _) → Syncs the_ring i
layers_sync member-Hir = record { sync = λ h s. layer_sync _ _ _ _ (s _) (s _) (s _) (s _) }

hole_sync : IsSync (holes the_ring member-Hir)
hole_sync = fix_sync the_ring layers_sync member-Hir

pub hir_sync : IsSync hir.the_row
hir_sync = variants_sync hir.enum (tt, ((search over depth 60 fits 5000, tt), ((search (over, class_sync) depth 60 fits 5000, tt), ((search (over, class_sync) depth 60 fits 5000, tt), ((search (over, look_sync) depth 60 fits 5000, tt), ((search over depth 60 fits 5000, (search over depth 60 fits 5000, (search over depth 60 fits 5000, (search (over, hole_sync) depth 60 fits 5000, tt)))), ((search over depth 60 fits 5000, (search (over, hole_sync) depth 60 fits 5000, tt)), ((search (over, hole_sync) depth 60 fits 5000, tt), ((search (over, hole_sync) depth 60 fits 5000, tt), tt)))))))))

pub nfa_sync : IsSync nfa.the_row
nfa_sync = search over depth 120 fits 20000

pub dfa_sync : IsSync dfa.the_row
dfa_sync = search over depth 120 fits 20000

pub plans_sync : IsSync plans.the_row
plans_sync = search (over, hir_sync) depth 120 fits 20000

pub signs_sync : IsSync signs.the_row
signs_sync = search (over, hir_sync) depth 120 fits 20000

pub config_sync : IsSync config.the_row
config_sync = search over depth 120 fits 20000

pub program_sync : IsSync program.the_row
program_sync = declared_sync program.the_type (search (over, hir_sync) depth 60 fits 5000, (search (over, dfa_sync) depth 60 fits 5000, (search (over, plans_sync) depth 60 fits 5000, (search (over, signs_sync) depth 60 fits 5000, (search over depth 60 fits 5000, (search over depth 60 fits 5000, (search over depth 60 fits 5000, (search over depth 60 fits 5000, tt))))))))

pub pattern_sync : IsSync pattern.the_row
pattern_sync = declared_sync pattern.the_type (search over depth 60 fits 5000, (search (over, config_sync) depth 60 fits 5000, (search over depth 60 fits 5000, (search (over, program_sync) depth 60 fits 5000, tt))))

pub regex_sync : IsSync regex.the_row
regex_sync = declared_sync regex.the_type (search (over, pattern_sync) depth 60 fits 5000, tt)

-- ---- IsSend

class_send : IsSend class.the_row
class_send = search over depth 60 fits 5000

look_send : IsSend look.the_row
look_send = search over depth 60 fits 5000

layer_send : (a b c d : RattleType) → IsSend a → IsSend b → IsSend c → IsSend d → IsSend (layer-Hir a b c d)
layer_send a b c d p q r s = variants_send (type-Hir a b c d) (tt, ((search over depth 60 fits 5000, tt), ((search (over, class_send) depth 60 fits 5000, tt), ((search (over, class_send) depth 60 fits 5000, tt), ((search (over, look_send) depth 60 fits 5000, tt), ((search over depth 60 fits 5000, (search over depth 60 fits 5000, (search over depth 60 fits 5000, (search (over, p) depth 60 fits 5000, tt)))), ((search over depth 60 fits 5000, (search (over, q) depth 60 fits 5000, tt)), ((search (over, r) depth 60 fits 5000, tt), ((search (over, s) depth 60 fits 5000, tt), tt)))))))))

layers_send : (i : _) → Sends the_ring i
layers_send member-Hir = record { send = λ h s. layer_send _ _ _ _ (s _) (s _) (s _) (s _) }

hole_send : IsSend (holes the_ring member-Hir)
hole_send = fix_send the_ring layers_send member-Hir

pub hir_send : IsSend hir.the_row
hir_send = variants_send hir.enum (tt, ((search over depth 60 fits 5000, tt), ((search (over, class_send) depth 60 fits 5000, tt), ((search (over, class_send) depth 60 fits 5000, tt), ((search (over, look_send) depth 60 fits 5000, tt), ((search over depth 60 fits 5000, (search over depth 60 fits 5000, (search over depth 60 fits 5000, (search (over, hole_send) depth 60 fits 5000, tt)))), ((search over depth 60 fits 5000, (search (over, hole_send) depth 60 fits 5000, tt)), ((search (over, hole_send) depth 60 fits 5000, tt), ((search (over, hole_send) depth 60 fits 5000, tt), tt)))))))))

pub nfa_send : IsSend nfa.the_row
nfa_send = search over depth 120 fits 20000

pub dfa_send : IsSend dfa.the_row
dfa_send = search over depth 120 fits 20000

pub plans_send : IsSend plans.the_row
plans_send = search (over, hir_send) depth 120 fits 20000

pub signs_send : IsSend signs.the_row
signs_send = search (over, hir_send) depth 120 fits 20000

pub config_send : IsSend config.the_row
config_send = search over depth 120 fits 20000

pub program_send : IsSend program.the_row
program_send = declared_send program.the_type (search (over, hir_send) depth 60 fits 5000, (search (over, dfa_send) depth 60 fits 5000, (search (over, plans_send) depth 60 fits 5000, (search (over, signs_send) depth 60 fits 5000, (search over depth 60 fits 5000, (search over depth 60 fits 5000, (search over depth 60 fits 5000, (search over depth 60 fits 5000, tt))))))))

pub pattern_send : IsSend pattern.the_row
pattern_send = declared_send pattern.the_type (search over depth 60 fits 5000, (search (over, config_send) depth 60 fits 5000, (search over depth 60 fits 5000, (search (over, program_send) depth 60 fits 5000, tt))))

pub regex_send : IsSend regex.the_row
regex_send = declared_send regex.the_type (search (over, pattern_send) depth 60 fits 5000, tt)
