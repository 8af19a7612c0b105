-- Targets that were read from a text are read back from their own.
use Rattle.std.proofs.Common.{◌≡◌, ℕ, zero, suc, ◌-◌, ◌<◌, ◌≤◌, Bool, true, false, cond, List, [], ◌∷◌, length, take, drop, Option, Some, None, Result, Ok, Err, refl, sym, ap, ◌∙◌, arith, subst, inl, inr}
use Rattle.std.specs.Prelude.{if◌then◌else◌, not, ◌&&◌, ◌||◌, ◌==◌, nat_lt, slice_index}
use Rattle.std.specs.List.{AllByRecursion, list_all, list_any, prefix_len, suffix_len}
use Rattle.std.proofs.lemmas.Bool.{and_from, cases_lt, false≢true, or_from, or_parts}
use Rattle.std.proofs.lemmas.List.{take_all}
use Rattle.std.proofs.lemmas.List.Sums.{suffix_len-take_no}
use Rattle.std.proofs.Math.Seq.{take-length}
use Rattle.sec_ast.specs.Variable.{variable_named}
use Rattle.sec_ast.specs.declared.target.Select.{Select}
use Rattle.sec_ast.specs.declared.target.Select.TheVariants as selects
use Rattle.sec_ast.specs.declared.target.Target.{Target}
use Rattle.sec_ast.specs.declared.variable.Var.{Var}
use Rattle.sec_text.specs.Quotes.{is_blank, quoted}
use Rattle.sec_text.specs.Readers.{onto, repeat, «then»}
use Rattle.sec_text.specs.Written.{ends_with_backslash}
use Rattle.sec_parts.specs.declared.faults.Bad.{Bad}
use Rattle.sec_parts.specs.Results.{◌>>=◌, bad, refused}
use Rattle.sec_parts.specs.Targets.{Chosen, Read, behind_name, by_name, by_pattern, by_quote, fits, found, in_quotes, is_xml, marked, name_select, next_target, one_target, quoted_name, quoted_pattern, selected, selector, selector_of, target_at, targets_of, unmarked, up_to_quote, where_blank}
use Rattle.sec_parts.specs.Texts.{behind_first, ends_open, piece_before, to_byte, to_either, trim, trim_end}
use Rattle.sec_parts.specs.Variables.{is_refused_variable}
use Rattle.sec_round_trip.specs.Targets.{AreTargets, IsSelect, IsTarget, is_empty, is_unmarked}
use Rattle.sec_round_trip.proofs.FineTexts.{blank_low, FineIf, FineQuoted, IsLow, begins_ascii, end_stops, fine_behind, fine_end, fine_from, fine_nil, fine_skip, fine_to, low_at, low_byte, low_two, quoted_from}
use Rattle.sec_parts.proofs.Given.{Given, GivesNext, given_all, given_at, given_bind, given_if}
use Rattle.sec_round_trip.proofs.MacroReads.{before_first}
use Rattle.sec_round_trip.proofs.ReadTexts.{Ends, quoted_ends}

-- ---- names that were cut

-- empty, or begun with this byte
abbrev StartsWith : ℕ → List ℕ → Type 0
StartsWith b [] = Unit {0}
StartsWith b (c ∷ text) = c ≡ b

starts_take : (b n : ℕ) (text : List ℕ) → StartsWith b text → StartsWith b (take n text)
starts_take b zero text h = tt
starts_take b (suc n) [] h = tt
starts_take b (suc n) (c ∷ text) h = h

none_take : (p : ℕ → Bool) (n : ℕ) (text : List ℕ) → list_any p text ≡ false → list_any p (take n text) ≡ false
none_take p zero text h = refl
none_take p (suc n) [] h = refl
none_take p (suc n) (b ∷ text) h = let parts = or_parts (p b) (list_any p text) h in or_from (p b) (list_any p (take n text)) parts.0 (none_take p n text parts.1)

no_end : (text : List ℕ) → suffix_len is_blank text ≡ 0 → trim_end text ≡ text
no_end text none = ap (λ n. take (length text - n) text) none ∙ take_all (length text - 0) text (omega arith)

pub trim_again : (text : List ℕ) → trim_end (trim_end text) ≡ trim_end text
trim_again text =
    let n : ℕ = length text - suffix_len is_blank text in
    elim (cases_lt 0 n) [
      | inl some ↦ no_end (take n text) (suffix_len-take_no is_blank text n 0 some (omega arith) (end_stops is_blank text some))
      | inr none ↦ subst (λ m. trim_end (take m text) ≡ take m text) (zero_is n none) refl
    ]
  where
    zero_is : (n : ℕ) → n ≤ 0 → 0 ≡ n
    zero_is n h = omega (arith, h)

last_kept : (text : List ℕ) → 0 < length text → is_blank (slice_index text (length text - 1)) ≡ false → trim_end text ≡ text
last_kept text some last =
    no_end text (ap (suffix_len is_blank) (sym (take-length text)) ∙ suffix_len-take_no is_blank text (length text) 0 some (omega arith) last)

-- what a name is, where it is of XML or not
record IsCut (xml : Bool) (name : List ℕ) : Type 0 where
  pub unmarked : (xml || is_unmarked name) ≡ true
  pub bars : list_any (λ b. b == 124) name ≡ false
  pub trimmed : trim_end name ≡ name
  pub some : is_empty name ≡ false
  pub ends : ends_open name ≡ false

not_marked : (b : ℕ) (name : List ℕ) → (b == 47) ≡ false → (b == 39) ≡ false → StartsWith b name → is_empty name ≡ false → (false || is_unmarked name) ≡ true
not_marked b [] slash quote starts some = absurd (false≢true (sym some))
not_marked b (c ∷ name) slash quote starts some =
    and_from (not (c == 47)) (not (c == 39)) (ap (λ n. not (n == 47)) starts ∙ ap not slash) (ap (λ n. not (n == 39)) starts ∙ ap not quote)

module _ (k : Bool) where
  abbrev pub FineSelect : Select → Type 0
  FineSelect selects.All = Unit {0}
  FineSelect (selects.Name name) = FineIf k name
  FineSelect (selects.Pattern pattern) = FineIf k pattern

  abbrev FineLeft : Option (List ℕ) → Type 0
  FineLeft None = Unit {0}
  FineLeft (Some text) = FineIf k text

  abbrev Selects : Bool → Option Select → Type 0
  Selects xml None = Unit {0}
  Selects xml (Some selects.All) = Unit {0}
  Selects xml (Some (selects.Name name)) = IsCut xml name × FineIf k name
  Selects xml (Some (selects.Pattern pattern)) = (xml ≡ false) × (ends_with_backslash pattern ≡ false) × FineIf k pattern

  -- a selector, and what is left behind it
  abbrev Choice : Bool → Chosen → Type 0
  Choice xml chosen = Selects xml chosen.0 × (begins_ascii chosen.1 ≡ true) × FineIf k chosen.1

  -- by name

  name_if : (xml : Bool) (name : List ℕ) (p : Bool) → ends_open name ≡ p → (xml || is_unmarked name) ≡ true → list_any (λ b. b == 124) name ≡ false → trim_end name ≡ name → is_empty name ≡ false → FineIf k name
      → Selects xml (cond p None (Some (selects.Name name)))
  name_if xml name true ends marks bars trims some fine = tt
  name_if xml name false ends marks bars trims some fine = (record { unmarked = marks; bars = bars; trimmed = trims; some = some; ends = ends }, fine)

  name_selects : (xml : Bool) (name : List ℕ) → (is_empty name ≡ false → (xml || is_unmarked name) ≡ true) → list_any (λ b. b == 124) name ≡ false → trim_end name ≡ name → FineIf k name → Selects xml (name_select name)
  name_selects xml [] marks bars trims fine = tt
  name_selects xml (b ∷ name) marks bars trims fine = name_if xml (b ∷ name) (ends_open (b ∷ name)) refl (marks refl) bars trims refl fine

  bar_low : IsLow (λ b. b == 124)
  bar_low = low_byte 124 refl

  name_chosen : (xml : Bool) (here : List ℕ) → ((name : List ℕ) → name ≡ trim_end (take (to_byte 124 here) here) → is_empty name ≡ false → (xml || is_unmarked name) ≡ true) → FineIf k here → Choice xml (by_name here)
  name_chosen xml here marks fine =
      let cut : List ℕ = take (to_byte 124 here) here in (
        name_selects xml (trim_end cut) (marks (trim_end cut) refl) (none_take (λ b. b == 124) (length cut - suffix_len is_blank cut) cut (before_first (λ b. b == 124) here)) (trim_again cut)
            (fine_end k is_blank blank_low cut (fine_to k (λ b. b == 124) bar_low here fine)),
        low_at (λ b. b == 124) bar_low here,
        fine_from k (λ b. b == 124) bar_low here fine,
      )

  -- by pattern, and in single quotes

  blank_if : (xml : Bool) (p : Bool) (select : Option Select) → Selects xml select → Selects xml (cond p select None)
  blank_if xml true select h = h
  blank_if xml false select h = tt

  blank_chosen : (xml : Bool) (select : Option Select) (after : List ℕ) → Selects xml select → FineIf k after → Choice xml (where_blank select after)
  blank_chosen xml select after h fine =
      (blank_if xml (list_all is_blank (take (to_byte 124 after) after)) select h, low_at (λ b. b == 124) bar_low after, fine_from k (λ b. b == 124) bar_low after fine)

  nothing_chosen : (xml : Bool) → Choice xml (None, [])
  nothing_chosen xml = (tt, refl, fine_nil k)

  pattern_chosen : (o : Option (List ℕ × List ℕ)) → Ends o → FineQuoted k [] o → Choice false (by_pattern o)
  pattern_chosen None ends fine = nothing_chosen false
  pattern_chosen (Some x) ends fine = blank_chosen false (Some (selects.Pattern x.0)) x.1 (refl, ends, fine.0) fine.1

  quoted_pattern_chosen : (o : Option (List ℕ × List ℕ)) (after : List ℕ) → Ends o → FineQuoted k [] o → FineIf k after → Choice false (quoted_pattern o after)
  quoted_pattern_chosen None after ends fine more = nothing_chosen false
  quoted_pattern_chosen (Some x) after ends fine more =
      blank_chosen false (if list_all is_blank x.1 then Some (selects.Pattern x.0) else None) after (blank_if false (list_all is_blank x.1) (Some (selects.Pattern x.0)) (refl, ends, fine.0)) more

  quoted_name_if : (text : List ℕ) (p q : Bool) → list_any (λ b. b == 124) text ≡ p → is_blank (slice_index text (length text - 1)) ≡ q → (is_empty text ≡ false → (false || is_unmarked text) ≡ true) → FineIf k text
      → Selects false (cond p None (cond q None (name_select text)))
  quoted_name_if text true q bars last marks fine = tt
  quoted_name_if text false true bars last marks fine = tt
  quoted_name_if [] false false bars last marks fine = tt
  quoted_name_if (b ∷ text) false false bars last marks fine = name_selects false (b ∷ text) marks bars (last_kept (b ∷ text) (omega arith) last) fine

  quoted_name_selects : (text : List ℕ) → (is_empty text ≡ false → (false || is_unmarked text) ≡ true) → FineIf k text → Selects false (quoted_name text)
  quoted_name_selects text marks fine = quoted_name_if text (list_any (λ b. b == 124) text) (is_blank (slice_index text (length text - 1))) refl refl marks fine

  in_quotes_if : (b : ℕ) (text after : List ℕ) (p : Bool) → (b == 47) ≡ p → list_any (λ c. c == 39) (b ∷ text) ≡ false → FineIf k (b ∷ text) → FineIf k after
      → Choice false (cond p (quoted_pattern (quoted 47 text) after) (where_blank (quoted_name (b ∷ text)) after))
  in_quotes_if b text after true is none fine more =
      quoted_pattern_chosen (quoted 47 text) after (quoted_ends 47 refl text) (quoted_from k 47 refl [] text (fine_behind k b text (low_byte 47 refl b is) fine)) more
  in_quotes_if b text after false is none fine more =
      blank_chosen false (quoted_name (b ∷ text)) after (quoted_name_selects (b ∷ text) (not_marked b (b ∷ text) is (or_parts (b == 39) (list_any (λ c. c == 39) text) none).0 refl) fine) more

  in_quotes_chosen : (text after : List ℕ) → list_any (λ c. c == 39) text ≡ false → FineIf k text → FineIf k after → Choice false (in_quotes text after)
  in_quotes_chosen [] after none fine more = blank_chosen false (quoted_name []) after (quoted_name_selects [] (λ some. absurd (false≢true (sym some))) fine) more
  in_quotes_chosen (b ∷ text) after none fine more = in_quotes_if b text after (b == 47) refl none fine more

  up_to_chosen : (text rest : List ℕ) → list_any (λ c. c == 39) text ≡ false → FineIf k text → begins_ascii rest ≡ true → FineIf k rest → Choice false (up_to_quote text rest)
  up_to_chosen text [] none fine low more = nothing_chosen false
  up_to_chosen text (quote ∷ after) none fine low more = in_quotes_chosen text after none fine (fine_behind k quote after low more)

  quote_low : IsLow (λ b. b == 39)
  quote_low = low_byte 39 refl

  selector_if : (b : ℕ) (rest : List ℕ) (p q : Bool) → (b == 47) ≡ p → (b == 39) ≡ q → FineIf k (b ∷ rest) → Choice false (cond p (by_pattern (quoted 47 rest)) (cond q (by_quote rest) (by_name (b ∷ rest))))
  selector_if b rest true q is-p is-q fine = pattern_chosen (quoted 47 rest) (quoted_ends 47 refl rest) (quoted_from k 47 refl [] rest (fine_behind k b rest (low_byte 47 refl b is-p) fine))
  selector_if b rest false true is-p is-q fine =
      let inner : FineIf k rest = fine_behind k b rest (quote_low b is-q) fine in
      up_to_chosen (take (to_byte 39 rest) rest) (drop (to_byte 39 rest) rest) (before_first (λ c. c == 39) rest) (fine_to k (λ c. c == 39) quote_low rest inner) (low_at (λ c. c == 39) quote_low rest) (fine_from k (λ c. c == 39) quote_low rest inner)
  selector_if b rest false false is-p is-q fine =
      let cut : List ℕ = take (to_byte 124 (b ∷ rest)) (b ∷ rest) in
      name_chosen false (b ∷ rest) (λ name is some. not_marked b name is-p is-q (subst (StartsWith b) (sym is) (starts_take b (length cut - suffix_len is_blank cut) cut (starts_take b (to_byte 124 (b ∷ rest)) (b ∷ rest) refl))) some) fine

  selector_chosen : (here : List ℕ) → FineIf k here → Choice false (selector here)
  selector_chosen [] fine = nothing_chosen false
  selector_chosen (b ∷ rest) fine = selector_if b rest (b == 47) (b == 39) refl refl fine

  chosen_if : (p : Bool) (here : List ℕ) → FineIf k here → Choice p (cond p (by_name here) (selector here))
  chosen_if true here fine = name_chosen true here (λ name is some. refl) fine
  chosen_if false here fine = selector_chosen here fine

  -- one piece

  abbrev pub IsRead : Target → Type 0
  IsRead target = IsTarget target × FineSelect target.select

  select_is : (var : Var) (select : Select) → fits select var ≡ true → Selects (is_xml (Some var)) (Some select) → IsSelect var select × FineSelect select
  select_is var selects.All fit h = (tt, tt)
  select_is var (selects.Name name) fit h = (record { collection = fit; unmarked = h.0.unmarked; bars = h.0.bars; trimmed = h.0.trimmed; some = h.0.some; ends = h.0.ends }, h.1)
  select_is var (selects.Pattern pattern) fit h = (record { collection = fit; other = h.0; ends = h.1 }, h.2)

  selected_if : (piece : List ℕ) (count exclude : Bool) (select : Select) (var : Var) (p : Bool) → fits select var ≡ p → (exclude && count) ≡ false → Selects (is_xml (Some var)) (Some select)
      → Given IsRead (cond p (Ok (record { count = count; exclude = exclude; var = var; select = select })) (bad piece))
  selected_if piece count exclude select var true fit marks h = let is = select_is var select fit h in ((marks, is.0), is.1)
  selected_if piece count exclude select var false fit marks h = tt

  selected_gives : (piece : List ℕ) (count exclude : Bool) (select : Option Select) (var : Option Var) → (exclude && count) ≡ false → Selects (is_xml var) select
      → Given IsRead (selected piece (record { count = count; exclude = exclude }) select var)
  selected_gives piece count exclude select None marks h = tt
  selected_gives piece count exclude None (Some var) marks h = tt
  selected_gives piece count exclude (Some select) (Some var) marks h = selected_if piece count exclude select var (fits select var) refl marks h

  abbrev IsNext : Target × Option (List ℕ) → Type 0
  IsNext x = IsRead x.0 × FineLeft x.1

  left_fine : (rest : List ℕ) → begins_ascii rest ≡ true → FineIf k rest → FineLeft (behind_first rest)
  left_fine [] low fine = tt
  left_fine (b ∷ rest) low fine = fine_behind k b rest low fine

  found_gives : (count exclude : Bool) (text name : List ℕ) (var : Option Var) (chosen : Chosen) → (exclude && count) ≡ false → Choice (is_xml var) chosen
      → Given IsNext (found (record { count = count; exclude = exclude }) text name var chosen)
  found_gives count exclude text name var chosen marks h =
      given_if IsNext (is_refused_variable (trim name)) (refused (trim name)) (selected (piece_before text chosen.1) (record { count = count; exclude = exclude }) chosen.0 var >>= λ target. Ok (target, behind_first chosen.1)) (λ is. tt)
      (λ is. given_bind IsRead IsNext (selected (piece_before text chosen.1) (record { count = count; exclude = exclude }) chosen.0 var) (λ target. Ok (target, behind_first chosen.1))
      (selected_gives (piece_before text chosen.1) count exclude chosen.0 var marks h.0) (λ target read. (read, left_fine chosen.1 h.1 h.2)))

  behind_if : (count exclude : Bool) (text name : List ℕ) (b : ℕ) (rest : List ℕ) (p : Bool) → (b == 58) ≡ p → (exclude && count) ≡ false → nat_lt b 128 ≡ true → FineIf k (b ∷ rest)
      → Given IsNext (cond p (found (record { count = count; exclude = exclude }) text name (variable_named name) (selector_of (variable_named name) rest)) (found (record { count = count; exclude = exclude }) text name (variable_named (trim_end name)) (Some selects.All, b ∷ rest)))
  behind_if count exclude text name b rest true is marks low fine =
      found_gives count exclude text name (variable_named name) (selector_of (variable_named name) rest) marks (chosen_if (is_xml (variable_named name)) rest (fine_behind k b rest low fine))
  behind_if count exclude text name b rest false is marks low fine = found_gives count exclude text name (variable_named (trim_end name)) (Some selects.All, b ∷ rest) marks (tt, low, fine)

  behind_gives : (count exclude : Bool) (text name rest : List ℕ) → (exclude && count) ≡ false → begins_ascii rest ≡ true → FineIf k rest → Given IsNext (behind_name (record { count = count; exclude = exclude }) text name rest)
  behind_gives count exclude text name [] marks low fine = found_gives count exclude text name (variable_named (trim_end name)) (Some selects.All, []) marks (tt, refl, fine)
  behind_gives count exclude text name (b ∷ rest) marks low fine = behind_if count exclude text name b rest (b == 58) refl marks low fine

  either_low : IsLow (λ b. (b == 124) || (b == 58))
  either_low = low_two 124 58 refl refl

  unmarked_gives : (count exclude : Bool) (text here : List ℕ) → (exclude && count) ≡ false → FineIf k here → Given IsNext (unmarked (record { count = count; exclude = exclude }) text here)
  unmarked_gives count exclude text here marks fine =
      behind_gives count exclude text (take (to_either 124 58 here) here) (drop (to_either 124 58 here) here) marks (low_at (λ b. (b == 124) || (b == 58)) either_low here) (fine_from k (λ b. (b == 124) || (b == 58)) either_low here fine)

  marked_gives : (text here : List ℕ) → FineIf k here → Given IsNext (marked text here)
  marked_gives text [] fine = unmarked_gives false false text [] refl fine
  marked_gives text (b ∷ rest) fine =
      given_if IsNext (b == 33) _ _ (λ is. unmarked_gives false true text rest refl (fine_behind k b rest (low_byte 33 refl b is) fine))
      (λ other. given_if IsNext (b == 38) _ _ (λ is. unmarked_gives true false text rest refl (fine_behind k b rest (low_byte 38 refl b is) fine)) (λ neither. unmarked_gives false false text (b ∷ rest) refl fine))

  target_gives : (text : List ℕ) → FineIf k text → Given IsNext (target_at text)
  unfolding target_at
  target_gives text fine = marked_gives text (drop (prefix_len is_blank text) text) (fine_skip k is_blank blank_low text fine)

  -- all of them

  one_gives : (read : Read) → Given IsNext read → GivesNext IsRead FineLeft (one_target read)
  one_gives (Ok x) h = h
  one_gives (Err e) h = tt

  next_gives : (text : Option (List ℕ)) → FineLeft text → GivesNext IsRead FineLeft (next_target text)
  next_gives None fine = tt
  next_gives (Some text) fine = one_gives (target_at text) (target_gives text fine)

  abbrev pub AreRead : List Target → Type 0
  AreRead [] = ⊥
  AreRead (target ∷ targets) = AllByRecursion IsRead (target ∷ targets)

  first_gives : (more : Option (List ℕ) → Result (List Target) Bad) → ((s : Option (List ℕ)) → FineLeft s → Given (AllByRecursion IsRead) (more s)) → (read : Read) → Given IsNext read → Given AreRead ((then) more (one_target read))
  first_gives more all (Ok x) h = onto_gives x.0 h.0 (more x.1) (all x.1 h.1)
    where
      onto_gives : (target : Target) → IsRead target → (r : Result (List Target) Bad) → Given (AllByRecursion IsRead) r → Given AreRead (onto target r)
      onto_gives target is (Ok targets) all = (is, all)
      onto_gives target is (Err e) all = tt
  first_gives more all (Err e) h = tt

  pub targets_give : (text : List ℕ) → FineIf k text → Given AreRead (targets_of text)
  unfolding targets_of target_at
  targets_give text fine =
      first_gives (repeat next_target (suc (length text))) (given_all IsRead FineLeft next_target next_gives (suc (length text))) (target_at text) (target_gives text fine)

pub are_targets : (k : Bool) (targets : List Target) → AreRead k targets → AreTargets targets
are_targets k [] h = h
are_targets k (target ∷ targets) h = each (target ∷ targets) h
  where
    each : (targets : List Target) → AllByRecursion (IsRead k) targets → AllByRecursion IsTarget targets
    each [] h = tt
    each (target ∷ targets) h = (h.0.0, each targets h.1)

pub targets_can_be_printed : (text : List ℕ) (targets : List Target) → targets_of text ≡ Ok targets → AreTargets targets
targets_can_be_printed text targets is = are_targets false targets (given_at (AreRead false) (targets_of text) targets (targets_give false text tt) is)
