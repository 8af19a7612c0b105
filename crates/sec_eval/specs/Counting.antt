-- Runs with the steps that were counted before them.
use Rattle.std.specs.Prelude.{◌≡◌, ℕ, ◌+◌, nat_eq, Bool, false, List, filter, length, Option, Some, None}
use Rattle.sec_ast.specs.declared.listing.Item.{Item}
use Rattle.sec_ast.specs.declared.listing.Item.TheVariants as items
use Rattle.sec_ast.specs.declared.verdict.Verdict.{Verdict}
use Rattle.sec_eval.specs.declared.phase.Flow.{Flow}
use Rattle.sec_eval.specs.declared.phase.Flow.TheVariants.{Goes, Interrupted}
use Rattle.sec_meaning.specs.declared.state.PlainState.{PlainState}
use Rattle.sec_meaning.specs.Phase.{Run}

abbrev pub is_rule_of : ℕ → Item → Bool
is_rule_of p (items.Marker label) = false
is_rule_of p (items.Rule r) = nat_eq r.phase p

-- how many rules of a phase there are
abbrev pub rules_in : ℕ → List Item → ℕ
rules_in p all = length (filter (is_rule_of p) all)

abbrev pub flow_by : Option Verdict → Flow
flow_by None = Goes
flow_by (Some v) = Interrupted v

-- run a after n steps ends as run b after m steps does, with as many steps in all
pub record Continues (n : ℕ) (a : Run) (m : ℕ) (b : Run) : Type 0 where
  pub state : a.state ≡ b.state
  pub verdict : a.verdict ≡ b.verdict
  pub steps : n + a.looked ≡ m + b.looked

-- after n steps, run a ends with that flow in that state after m steps
pub record RunsTo (n : ℕ) (a : Run) (m : ℕ) (s : PlainState) (flow : Flow) : Type 0 where
  pub flow_is : flow ≡ flow_by a.verdict
  pub state : s ≡ a.state
  pub steps : m ≡ n + a.looked
