use Rattle.std.proofs.Common.{map, option_map, string_bytes}
use Rattle.regex_hir.specs.Meaning.{meaning}
use Rattle.sec_ops.specs.Gates.{IsGate, IsGateOf}
use Rattle.sec_ops.proofs.GateLemmas.{carried, of_source}
use Rattle.sec_ops.proofs.gates.gate_of.Goals as goal

pub returns-in-Ok : goal.returns-in-Ok
returns-in-Ok c =
    let source = c.args.source.now in
    let hir = c.in-Ok.parsed.hir in
    carried c.gate_in.result (IsGate (meaning hir)) (IsGateOf source) (λ gate has. of_source source hir (map (option_map string_bytes) c.in-Ok.parsed.names.items) gate (rw c.config.ensures at c.in-Ok.ensures.ok) has) c.gate_in.ensures
