-- What the operator of a selector's pattern finds.
use Rattle.std.proofs.Common.{◌≡◌, ℕ, List, [], ap}
use Rattle.std.specs.Prelude.{is_some}
use Rattle.sec_ast.specs.declared.operator.Op.{Op}
use Rattle.sec_ops.specs.Hits.{hit, hit_of, pattern_hit}
use Rattle.sec_ops.specs.Selectors.{IsSelector, is_matched, selector_pattern}

pub selected : (op : Op) (name : List ℕ) → IsSelector op → is_some (hit op [] name) ≡ is_matched (selector_pattern op) name
unfolding hit_of
selected op name is = rw is.kind (ap (λ (source : List ℕ). is_some (pattern_hit source name)) is.source)
