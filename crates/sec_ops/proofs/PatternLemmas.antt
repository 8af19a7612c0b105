-- From a regex that was read from a text to what the text means, and from a refusal to no reading.
use Rattle.std.proofs.Common.{◌≡◌, ◌≢◌, ℕ, ◌<◌, ◌≤◌, List, Option, None, Some, IsSomeAnd, IfSome, inl, inr, refl, option_and_then, length, arith, ◌+◌, ◌*◌, zero, suc, map, get_or, ap, ap₂, sym, ◌∙◌, ◌∷◌, option_map, string_bytes}
use Rattle.std.proofs.lemmas.Bool.{cond-true, cond-false}
use Rattle.std.proofs.lemmas.Bool.Decides.{nat_tests}
use Rattle.regex_hir.specs.declared.hir.Hir.{Hir}
use Rattle.regex_hir.specs.Meaning.{meaning}
use Rattle.regex_syntax.specs.Verdict.{Reads, Refuses}
use Rattle.regex_syntax.specs.Grammar.{Names, group_count}
use Rattle.regex_syntax.specs.Brackets.{Nested}
use Rattle.regex_syntax.specs.Captures.{SameCaptures}
use Rattle.regex_syntax.specs.declared.error.ErrorKind.{ErrorKind}
use Rattle.regex_syntax.specs.declared.error.ErrorKind.TheVariants.{OutOfMemory}
use Rattle.std.specs.List.{range_with_len}
use Rattle.std.proofs.lemmas.List.{get_or_default, length-map}
use Rattle.regex_syntax.proofs.CapturesLemmas.{spans, find_alike}
use Rattle.regex.specs.Locations.{AreLocationsOf, location, location_count}
use Rattle.regex.specs.Writes.{both}
use Rattle.regex.specs.declared.locations.CaptureLocations.{CaptureLocations}
use Rattle.regex.specs.Patterns.{Match, Re, find}
use Rattle.regex.specs.Bytes.{IsReadFromSource, group_count as groups_in_regex, regex_config, regex_names, regex_pattern, regex_source}
use Rattle.regex.specs.declared.bytes.regex.Regex.{Regex}
use Rattle.sec_ops.specs.Pattern.{group_span, reading_of, rule_config, spans_of, within_limit}

-- the pair is what the text is read as, and a caller sees the same of a and of it
abbrev pub IsReading : Option (Re × Names) → Re → Names → Type 0
IsReading o a names = (x : Re × Names) × (o ≡ Some x) × SameCaptures a x.0 × (names ≡ x.1)

within : (re : Nested Re) (names : Names) → re.depth ≤ rule_config.nest_limit → within_limit (re, names) ≡ Some (re.value, names)
within re names le = cond-true _ _ None (grind (arith, nat_tests))

beyond : (re : Nested Re) (names : Names) → rule_config.nest_limit < re.depth → within_limit (re, names) ≡ None
beyond re names lt = cond-false _ (Some (re.value, names)) None (grind (arith, nat_tests))

taken : (o : Option (Nested Re × Names)) (a : Re) (names : Names) →
    IsSomeAnd o (λ (re, found). (re.depth ≤ rule_config.nest_limit) × SameCaptures a re.value × (names ≡ found) × (group_count a ≤ length names)) →
    IsReading (option_and_then within_limit o) a names
taken None a names h = absurd h
taken (Some p) a names h = ((p.0.value, p.1), within p.0 p.1 h.0, h.1, h.2)

-- what `parse` ensures of an `Ok`
pub parsed : (source : List ℕ) (hir : Hir) (names : Names) → Reads rule_config source hir names → IsReading (reading_of source) (meaning hir) names
unfolding Reads
parsed source hir names is_read = taken _ _ _ is_read

-- what `build` ensures of an `Ok`
pub reading : (r : Regex) (source : List ℕ) → regex_source r ≡ source → regex_config r ≡ rule_config → IsReadFromSource r →
    IsReading (reading_of source) (regex_pattern r) (regex_names r)
unfolding Reads
reading r source is_source is_config is_read = taken _ _ _ (rw (is_source, is_config) at is_read)

not_taken : (o : Option (Nested Re × Names)) → IfSome o (λ (re, _). rule_config.nest_limit < re.depth) → option_and_then within_limit o ≡ None
not_taken None h = refl
not_taken (Some p) h = beyond p.0 p.1 h

-- an error of syntax that does not stand for memory means that there is no reading
pub no_reading : (source : List ℕ) (kind : ErrorKind) → Refuses rule_config source kind → kind ≢ OutOfMemory → reading_of source ≡ None
unfolding Refuses
no_reading source kind (inl memory) h = absurd (h memory)
no_reading source kind (inr (inl none)) h = rw none refl
no_reading source kind (inr (inr deep)) h = not_taken _ deep.1

-- ---- groups

same_map : {A : Type 0} (f g : ℕ → A) (n a : ℕ) → ((k : ℕ) → k < a + n → f k ≡ g k) → map f (range_with_len a n) ≡ map g (range_with_len a n)
same_map f g zero a h = refl
same_map f g (suc n) a h = ap₂ ◌∷◌ (h a (omega arith)) (same_map f g n (a + 1) (λ k lt. h k (omega arith)))

-- what `captures_read` writes
pub spans_of_locations : (m : Match) (l : CaptureLocations) → AreLocationsOf m l →
    map (location l) (range_with_len 0 (location_count l)) ≡ spans_of (location_count l) m
spans_of_locations m l h = same_map _ _ (location_count l) 0 (λ k lt. at_group k (omega (arith, lt)))
  where
    at_group : (k : ℕ) → k < location_count l → location l k ≡ group_span m k
    at_group zero lt = h.0 lt
    at_group (suc k) lt = h.1 (suc k) (omega arith) lt

abbrev seen_group : ℕ × ℕ × (ℕ → Option ℕ) → ℕ → Option (ℕ × ℕ)
seen_group s zero = Some (s.0, s.1)
seen_group s (suc k) = both (s.2 (2 * suc k)) (s.2 (2 * suc k + 1))

abbrev seen_spans : ℕ → ℕ × ℕ × (ℕ → Option ℕ) → List (Option (ℕ × ℕ))
seen_spans count s = map (seen_group s) (range_with_len 0 count)

same_group : (m : Match) (k : ℕ) → group_span m k ≡ seen_group (spans m) k
same_group m zero = refl
same_group m (suc k) = refl

by_spans : (count : ℕ) (o : Option Match) → option_map (spans_of count) o ≡ option_map (seen_spans count) (option_map spans o)
by_spans count None = refl
by_spans count (Some m) = ap Some (same_map _ _ count 0 (λ k _. same_group m k))

-- two patterns that a caller sees alike give the same groups
pub groups_alike : (a b : Re) → SameCaptures a b → (hay : List ℕ) → ((k : ℕ) → get_or hay k 0 < 256) → (count start : ℕ) →
    option_map (spans_of count) (find a hay start) ≡ option_map (spans_of count) (find b hay start)
groups_alike a b same hay bytes count start =
    by_spans count _ ∙ ap (option_map (seen_spans count)) (find_alike a b same hay (λ k d h. rw (get_or_default hay k d 0 h) (bytes k)) start)
    ∙ sym (by_spans count _)

pub name_count : (r : Regex) → groups_in_regex r ≡ length (regex_names r)
name_count r = omega (arith, r.pattern.names.ok.0, length-map r.pattern.names.items (option_map string_bytes))
