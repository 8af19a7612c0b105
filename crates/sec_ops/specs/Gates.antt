-- Needles without which a pattern has no match.
use Rattle.std.specs.Prelude.{◌≡◌, ℕ, ◌+◌, List, length, None, IfSome}
use Rattle.regex.specs.Patterns.{Re, find}
use Rattle.regex_literal.specs.Find.{Nowhere, AnyOccursAt}
use Rattle.sec_ops.specs.declared.gates.Gate.{Gate}
use Rattle.sec_ops.specs.declared.gates.Gate.TheVariants.{Open, Exact, Lower}
use Rattle.sec_ops.specs.Bytes.{IsBytes}
use Rattle.sec_ops.specs.Pattern.{reading_of}
use Rattle.sec_ops.specs.Phrases.{folded}

-- none of the needles stands anywhere in the text
abbrev pub HasNone : List (List ℕ) → List ℕ → Type 0
HasNone needles text = Nowhere (AnyOccursAt text needles) 0 (length text + 1)

-- no needle stands in the value, or in the value in lower case
abbrev pub IsShutTo : Gate → List ℕ → Type 0
IsShutTo Open value = ⊥
IsShutTo (Exact needles) value = HasNone needles value
IsShutTo (Lower needles) value = HasNone needles (folded value)

-- the pattern has no match in a text of bytes that the gate is shut to
abbrev pub IsGate : Re → Gate → Type 0
IsGate re gate = (value : List ℕ) → IsBytes value → IsShutTo gate value → find re value 0 ≡ None

-- the same of what the grammar reads in a pattern's text
abbrev pub IsGateOf : List ℕ → Gate → Type 0
IsGateOf source gate = IfSome (reading_of source) (λ x. IsGate x.0 gate)
