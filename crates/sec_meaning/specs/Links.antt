-- What the links of a rule do to the state.
use Rattle.std.specs.Prelude.{Bool, true, false, if◌then◌else◌, ℕ, ℤ, ◌+ℤ◌, ◌-ℤ◌, List, [], ◌∷◌, ◌++◌, Option, Some, None}
use Rattle.std.specs.List.{fold}
use Rattle.std.specs.Fmt.{signed_decimal}
use Rattle.std.specs.Int.{saturate_to_bits}
use Rattle.sec_ast.specs.declared.action.Change.{Change}
use Rattle.sec_ast.specs.declared.action.Change.TheVariants as changes
use Rattle.sec_ast.specs.declared.action.Ctl.{Ctl}
use Rattle.sec_ast.specs.declared.action.Ctl.TheVariants as ctls
use Rattle.sec_ast.specs.declared.action.SetVar.{SetVar}
use Rattle.sec_ast.specs.declared.link.Link.{Link}
use Rattle.web_parts.specs.declared.row.NameValue.{NameValue}
use Rattle.sec_collect.specs.Captures.{captured_rows}
use Rattle.sec_collect.specs.Expansion.{expansion}
use Rattle.sec_collect.specs.TransactionView.{TransactionView}
use Rattle.sec_collect.specs.Row.{row, value_named}
use Rattle.sec_collect.specs.Variables.{put_within, without}
use Rattle.sec_ops.specs.Number.{number}
use Rattle.sec_meaning.specs.declared.state.Matched.{Matched}
use Rattle.sec_meaning.specs.declared.state.PlainState.{PlainState}
use Rattle.sec_meaning.specs.declared.state.Removed.TheVariants as removed
use Rattle.sec_meaning.specs.State.{view_of}
use Rattle.sec_meaning.specs.Values.{matches}

-- the nearest number within -2^63 and 2^63 - 1
abbrev pub bounded : ℤ → ℤ
bounded z = saturate_to_bits 63 z

-- the number of a variable's value, 0 where there is none
abbrev pub old_number : List ℕ → TransactionView → ℤ
old_number name s = number (value_named name s.tx)

-- the variables once one of this name, which is not empty, is changed
abbrev pub changed : Change → List ℕ → TransactionView → List NameValue
changed (changes.Put value) name s = put_within name (expansion s value) s.tx
changed (changes.Add value) name s =
    put_within name (signed_decimal (bounded (old_number name s +ℤ number (expansion s value)))) s.tx
changed (changes.Sub value) name s =
    put_within name (signed_decimal (bounded (old_number name s -ℤ number (expansion s value)))) s.tx
changed changes.Delete name s = without name s.tx

abbrev pub variables_after : Change → List ℕ → TransactionView → List NameValue
variables_after change [] s = s.tx
variables_after change (b ∷ name) s = changed change (b ∷ name) s

abbrev pub set_variable : PlainState → SetVar → PlainState
set_variable s v = record s { tx = variables_after v.change (expansion (view_of s) v.name) (view_of s) }

abbrev pub control : PlainState → Ctl → PlainState
control s (ctls.Engine engine) = record s { engine = engine }
control s (ctls.RequestBody is_read) = record s { request_body = is_read }
control s (ctls.ResponseBody is_read) = record s { response_body = is_read }
control s (ctls.Body processor) = record s { processor = processor }
control s (ctls.RemoveById first last) = record s { removed_rules = s.removed_rules ++ removed.Ids first last ∷ [] }
control s (ctls.RemoveByTag tag) = record s { removed_rules = s.removed_rules ++ removed.Tag tag ∷ [] }

-- what a link does once: its `setvar`s, and then its `ctl`s
abbrev pub act : Link → PlainState → PlainState
act link s = fold control (fold set_variable s link.setvars) link.ctls

-- groups are captured where there is one
abbrev pub capture : Bool → List (Option (List ℕ)) → PlainState → PlainState
capture false groups s = s
capture true [] s = s
capture true (group ∷ groups) s = record s { captured = captured_rows (group ∷ groups) }

-- what it does for a matched row
abbrev pub act_on : Link → PlainState → Matched → PlainState
act_on link s m = act link (capture link.capture m.groups (record s { matched = s.matched ++ row m.name m.value ∷ [] }))

abbrev pub act_on_each : Link → List Matched → PlainState → Option PlainState
act_on_each link [] s = None
act_on_each link (m ∷ ms) s = Some (fold (act_on link) (record s { matched = [] }) (m ∷ ms))

-- the state after a link that holds. A `SecAction` always holds, and every other link where a row matches
abbrev pub after_link : Link → PlainState → Option PlainState
after_link link s = if link.always then Some (act link s) else act_on_each link (matches link s) s

abbrev pub go_on : Option PlainState → PlainState → (PlainState → Bool × PlainState) → Bool × PlainState
go_on None s rest = (false, s)
go_on (Some after) s rest = rest after

-- whether each link holds, and the state after them. What the links before one that fails have set stays
abbrev pub after_links : List Link → PlainState → Bool × PlainState
after_links [] s = (true, s)
after_links (link ∷ links) s = go_on (after_link link s) s (λ after. after_links links after)

-- a call that changes the state where its link holds
abbrev pub reached : Bool → PlainState → Option PlainState
reached true s = Some s
reached false s = None
