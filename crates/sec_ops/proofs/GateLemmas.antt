-- A pattern of which every match contains a needle has no match where no needle stands.
use Rattle.std.proofs.Common.{◌≡◌, ℕ, ◌<◌, List, All, Option, None, Some, Result, Ok, Err, option_map, refl, ap, sym, ◌∙◌, arith, get_or}
use Rattle.std.specs.Prelude.{IfOk, IfSome}
use Rattle.std.proofs.lemmas.List.{get_or_default}
use Rattle.regex_hir.proofs.FindLemmas.{find_sound}
use Rattle.regex_hir.specs.declared.hir.Hir.{Hir}
use Rattle.regex_hir.specs.Meaning.{meaning}
use Rattle.regex.specs.Patterns.{Match, Re, find}
use Rattle.regex.specs.Bytes.{IsReadFromSource, regex_config, regex_pattern, regex_source}
use Rattle.regex.specs.declared.bytes.regex.Regex.{Regex}
use Rattle.regex_extract.specs.Needles.{ContainsNeedle}
use Rattle.regex_extract.specs.Signs.{FollowsFolded}
use Rattle.regex_syntax.specs.Captures.{SameCaptures}
use Rattle.regex_syntax.specs.Grammar.{Names}
use Rattle.regex_syntax.specs.Verdict.{Reads}
use Rattle.regex_syntax.proofs.CapturesLemmas.{alike_sym, find_alike, spans}
use Rattle.sec_ops.specs.declared.gates.Gate.{Gate}
use Rattle.sec_ops.specs.declared.gates.Gate.TheVariants.{Exact, Lower}
use Rattle.sec_ops.specs.Gates.{HasNone, IsGate, IsGateOf}
use Rattle.sec_ops.specs.Pattern.{rule_config}
use Rattle.sec_ops.specs.Phrases.{folded}
use Rattle.sec_ops.proofs.PatternLemmas.{parsed, reading}

bytes_all : (hay : List ℕ) → ((k : ℕ) → get_or hay k 0 < 256) → All (λ b. b < 256) hay
bytes_all hay bytes = λ k d h. rw (get_or_default hay k d 0 h) (bytes k)

none_found : (re : Re) (needles : List (List ℕ)) (value : List ℕ) (o : Option Match) → ContainsNeedle re needles → All (λ b. b < 256) value → HasNone needles value → find re value 0 ≡ o → o ≡ None
none_found re needles value None has ok none e = refl
none_found re needles value (Some m) has ok none e =
    let s = find_sound re value 0 m e in
    let w = has value ok m.start m.trace.end s.1 in
    absurd (none w.1 (omega arith) (omega (arith, w.2.occurs.fits)) (w.0, w.2.numbered, w.2.occurs))

pub contained : (re : Re) (needles : List (List ℕ)) → ContainsNeedle re needles → IsGate re (Exact needles)
contained re needles has = λ value bytes none. none_found re needles value (find re value 0) has (bytes_all value bytes) none refl

none_follows : (re head tail : Re) (needles : List (List ℕ)) (value : List ℕ) (o : Option Match) → FollowsFolded re head tail needles → All (λ b. b < 256) value → HasNone needles (folded value) → find re value 0 ≡ o → o ≡ None
none_follows re head tail needles value None has ok none e = refl
none_follows re head tail needles value (Some m) has ok none e =
    let s = find_sound re value 0 m e in
    let w = has.at value ok m.start m.trace.end s.1 in
    absurd (none w.0 (omega arith) (omega (arith, w.4.occurs.fits)) (w.3, w.4.numbered, w.4.occurs))

pub follows : (re head tail : Re) (needles : List (List ℕ)) → FollowsFolded re head tail needles → IsGate re (Lower needles)
follows re head tail needles has = λ value bytes none. none_follows re head tail needles value (find re value 0) has (bytes_all value bytes) none refl

unseen : (o : Option Match) → option_map spans o ≡ None → o ≡ None
unseen None e = refl
unseen (Some m) e = absurd cc

alike : (a b : Re) (gate : Gate) → SameCaptures a b → IsGate a gate → IsGate b gate
alike a b gate same has = λ value bytes shut.
    unseen (find b value 0) (sym (find_alike a b same value (bytes_all value bytes) 0) ∙ ap (option_map spans) (has value bytes shut))

-- from the tree that `parse` gives to what the text means
pub of_source : (source : List ℕ) (hir : Hir) (names : Names) (gate : Gate) → Reads rule_config source hir names → IsGate (meaning hir) gate → IsGateOf source gate
of_source source hir names gate is_read has =
    let x = parsed source hir names is_read in
    rw x.1 (alike (meaning hir) x.0.0 gate x.2 has)

-- from what the text means to the regex that was read from it
pub of_regex : (r : Regex) (source : List ℕ) (gate : Gate) → regex_source r ≡ source → regex_config r ≡ rule_config → IsReadFromSource r → IsGateOf source gate → IsGate (regex_pattern r) gate
of_regex r source gate is_source is_config is_read has =
    let x = reading r source is_source is_config is_read in
    let there : IsGate x.0.0 gate = rw x.1 at has in
    alike x.0.0 (regex_pattern r) gate (alike_sym x.2) there

pub carried : {A E : Type 0} (r : Result A E) (P Q : A → Type 0) → ((a : A) → P a → Q a) → IfOk r P → IfOk r Q
carried (Ok a) P Q f h = f a h
carried (Err e) P Q f h = h

-- the needles of a prefilter that was made of them
pub are_same : (o : Option (List (List ℕ))) (needles made : List (List ℕ)) → IfSome o (λ p. p ≡ needles) → o ≡ Some made → made ≡ needles
are_same o needles made is some = (rw some at is)
