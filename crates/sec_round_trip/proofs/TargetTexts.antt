-- The text of targets is read piece by piece.
use Rattle.std.proofs.Common.{◌≡◌, ℕ, suc, ◌≤◌, Bool, true, false, List, [], ◌∷◌, ◌++◌, map, length, take, drop, Option, Some, None, Ok, refl, sym, ap, ◌∙◌, append_assoc, append-nil, length-append, arith, subst}
use Rattle.std.specs.Prelude.{not, ◌&&◌, ◌||◌, ◌==◌}
use Rattle.std.specs.List.{AllByRecursion, join_with_byte, list_any}
use Rattle.std.proofs.lemmas.Bool.{and_parts, eqb-true, false≢true}
use Rattle.sec_ast.specs.PrintTargets.{mark_text, select_text, target_text, targets_text}
use Rattle.sec_ast.specs.PrintTexts.{escaped}
use Rattle.sec_ast.specs.Variable.{variable_name, variable_named}
use Rattle.sec_ast.specs.declared.target.Select.{Select}
use Rattle.sec_ast.specs.declared.target.Select.TheVariants as selects
use Rattle.sec_ast.specs.declared.target.Target.{Target}
use Rattle.sec_ast.specs.declared.variable.Var.{Var}
use Rattle.sec_text.specs.Quotes.{is_blank, quoted}
use Rattle.sec_text.specs.Readers.{Takes}
use Rattle.sec_text.specs.Written.{ends_with_backslash}
use Rattle.sec_parts.specs.Targets.{by_name, fits, found, behind_name, marked, name_select, next_target, one_target, selector_of, target_at, targets_of, unmarked}
use Rattle.sec_parts.specs.Targets as read
use Rattle.sec_parts.specs.Texts.{behind_first, ends_open, skip_blanks, to_byte, to_either, trim, trim_end}
use Rattle.sec_parts.specs.Variables.{is_refused_variable}
use Rattle.sec_round_trip.specs.Targets.{AreTargets, IsName, IsPattern, IsSelect, IsTarget, is_empty, is_unmarked}
use Rattle.sec_round_trip.specs.Variables.{begins_name}
use Rattle.sec_round_trip.proofs.Names.{no_prefix, not_false}
use Rattle.sec_round_trip.proofs.Places.{drop_to, stops, take_to, to_stop}
use Rattle.sec_round_trip.proofs.Repeats.{repeat_takes}

-- behind a target comes a bar or the end
abbrev pub is_bar : ℕ → Bool
is_bar b = b == 124

no_bar : (rest : List ℕ) → stops is_bar rest ≡ true → to_byte 124 rest ≡ 0
no_bar [] is = refl
no_bar (b ∷ rest) is = rw is refl

stops_more : (rest : List ℕ) → stops is_bar rest ≡ true → stops (λ b. (b == 124) || (b == 58)) rest ≡ true
stops_more [] is = refl
stops_more (b ∷ rest) is = rw is refl

-- ---- selectors

some_name : (name : List ℕ) → is_empty name ≡ false → ends_open name ≡ false → name_select name ≡ Some (selects.Name name)
some_name [] some ends = absurd cc
some_name (b ∷ name) some ends = rw ends refl

name_is : (var : Var) (name rest : List ℕ) → IsName var name → stops is_bar rest ≡ true → by_name (name ++ rest) ≡ (Some (selects.Name name), rest)
name_is var name rest is end =
    let long : to_byte 124 (name ++ rest) ≡ length name = to_stop is_bar name rest is.bars end in
    let front : take (to_byte 124 (name ++ rest)) (name ++ rest) ≡ name = take_to (to_byte 124 (name ++ rest)) name rest long in
    let behind : drop (to_byte 124 (name ++ rest)) (name ++ rest) ≡ rest = drop_to (to_byte 124 (name ++ rest)) name rest long in
    rw (front, behind, is.trimmed, some_name name is.some is.ends) refl

unmarked_name : (name rest : List ℕ) → is_unmarked name ≡ true → read.selector (name ++ rest) ≡ by_name (name ++ rest)
unmarked_name [] rest is = absurd (false≢true is)
unmarked_name (b ∷ name) rest is =
    let both = and_parts (not (b == 47)) (not (b == 39)) is in
    rw (not_false (b == 47) both.0, not_false (b == 39) both.1) refl

name_chosen : (var : Var) (name rest : List ℕ) (x : Bool) → read.is_xml (Some var) ≡ x → (x || is_unmarked name) ≡ true → selector_of (Some var) (name ++ rest) ≡ by_name (name ++ rest)
name_chosen var name rest true is h = rw is refl
name_chosen var name rest false is h = rw is (unmarked_name name rest h)

module _ (quotes : (quote : ℕ) (text rest : List ℕ) → (92 == quote) ≡ false → ends_with_backslash text ≡ false → quoted quote (escaped quote text ++ quote ∷ rest) ≡ Some (text, rest)) where
  pattern_chosen : (var : Var) (pattern rest : List ℕ) → IsPattern var pattern → stops is_bar rest ≡ true → selector_of (Some var) (47 ∷ (escaped 47 pattern ++ 47 ∷ rest)) ≡ (Some (selects.Pattern pattern), rest)
  pattern_chosen var pattern rest is end =
      let again : quoted 47 (escaped 47 pattern ++ 47 ∷ rest) ≡ Some (pattern, rest) = quotes 47 pattern rest refl is.ends in
      rw (is.other, again, no_bar rest end) refl

  -- ---- one target

  module _ (named : (var : Var) → variable_named (variable_name var) ≡ Some var) (allowed : (var : Var) → is_refused_variable (variable_name var) ≡ false)
      (bars : (var : Var) → list_any (λ b. (b == 124) || (b == 58)) (variable_name var) ≡ false) (begins : (var : Var) → begins_name (variable_name var) ≡ true)
      (trimmed : (var : Var) → trim (variable_name var) ≡ variable_name var) (ends : (var : Var) → trim_end (variable_name var) ≡ variable_name var) where
    found_is : (count exclude : Bool) (text : List ℕ) (var : Var) (select : Select) (rest : List ℕ) → fits select var ≡ true
        → found (record { count = count; exclude = exclude }) text (variable_name var) (Some var) (Some select, rest) ≡ Ok (record { count = count; exclude = exclude; var = var; select = select }, behind_first rest)
    found_is count exclude text var select rest fit = rw (trimmed var, allowed var, fit) refl

    all_found : (count exclude : Bool) (text : List ℕ) (var : Var) (rest : List ℕ) → stops is_bar rest ≡ true
        → behind_name (record { count = count; exclude = exclude }) text (variable_name var) rest ≡ Ok (record { count = count; exclude = exclude; var = var; select = selects.All }, behind_first rest)
    all_found count exclude text var [] end = rw (ends var, named var) (found_is count exclude text var selects.All [] refl)
    all_found count exclude text var (b ∷ rest) end =
        let bar : b ≡ 124 = eqb-true b 124 end in
        subst (λ b. behind_name (record { count = count; exclude = exclude }) text (variable_name var) (b ∷ rest) ≡ Ok (record { count = count; exclude = exclude; var = var; select = selects.All }, behind_first (b ∷ rest))) (sym bar)
        (rw (ends var, named var) (found_is count exclude text var selects.All (124 ∷ rest) refl))

    select_found : (count exclude : Bool) (text : List ℕ) (var : Var) (select : Select) (rest : List ℕ) → IsSelect var select → stops is_bar rest ≡ true
        → behind_name (record { count = count; exclude = exclude }) text (variable_name var) (select_text select ++ rest) ≡ Ok (record { count = count; exclude = exclude; var = var; select = select }, behind_first rest)
    select_found count exclude text var selects.All rest is end = all_found count exclude text var rest end
    select_found count exclude text var (selects.Name name) rest is end =
        let chosen : selector_of (Some var) (name ++ rest) ≡ (Some (selects.Name name), rest) =
        name_chosen var name rest (read.is_xml (Some var)) refl is.unmarked ∙ name_is var name rest is end in
        rw (named var, chosen) (found_is count exclude text var (selects.Name name) rest is.collection)
    select_found count exclude text var (selects.Pattern pattern) rest is end =
        let grouped : (escaped 47 pattern ++ 47 ∷ []) ++ rest ≡ escaped 47 pattern ++ 47 ∷ rest = append_assoc (escaped 47 pattern) (47 ∷ []) rest in
        rw (grouped, named var, pattern_chosen var pattern rest is end) (found_is count exclude text var (selects.Pattern pattern) rest is.collection)

    stops_select : (select : Select) (rest : List ℕ) → stops is_bar rest ≡ true → stops (λ b. (b == 124) || (b == 58)) (select_text select ++ rest) ≡ true
    stops_select selects.All rest end = stops_more rest end
    stops_select (selects.Name name) rest end = refl
    stops_select (selects.Pattern pattern) rest end = refl

    unmarked_is : (count exclude : Bool) (text : List ℕ) (var : Var) (select : Select) (rest : List ℕ) → IsSelect var select → stops is_bar rest ≡ true
        → unmarked (record { count = count; exclude = exclude }) text (variable_name var ++ (select_text select ++ rest)) ≡ Ok (record { count = count; exclude = exclude; var = var; select = select }, behind_first rest)
    unmarked_is count exclude text var select rest is end =
        let more : List ℕ = select_text select ++ rest in
        let here : List ℕ = variable_name var ++ more in
        let long : to_either 124 58 here ≡ length (variable_name var) = to_stop (λ b. (b == 124) || (b == 58)) (variable_name var) more (bars var) (stops_select select rest end) in
        let front : take (to_either 124 58 here) here ≡ variable_name var = take_to (to_either 124 58 here) (variable_name var) more long in
        let behind : drop (to_either 124 58 here) here ≡ more = drop_to (to_either 124 58 here) (variable_name var) more long in
        rw (front, behind) (select_found count exclude text var select rest is end)

    no_mark : (text name more : List ℕ) → begins_name name ≡ true → marked text (name ++ more) ≡ unmarked (record { count = false; exclude = false }) text (name ++ more)
    no_mark text [] more h = absurd (false≢true h)
    no_mark text (b ∷ name) more h =
        let one = and_parts (not (is_blank b) && not (b == 33)) (not (b == 38)) h in
        let two = and_parts (not (is_blank b)) (not (b == 33)) one.0 in
        rw (not_false (b == 33) two.1, not_false (b == 38) one.1) refl

    no_blank : (name more : List ℕ) → begins_name name ≡ true → skip_blanks (name ++ more) ≡ name ++ more
    no_blank [] more h = absurd (false≢true h)
    no_blank (b ∷ name) more h =
        let one = and_parts (not (is_blank b) && not (b == 33)) (not (b == 38)) h in
        let two = and_parts (not (is_blank b)) (not (b == 33)) one.0 in
        ap (λ n. drop n (b ∷ (name ++ more))) (no_prefix is_blank b (name ++ more) (not_false (is_blank b) two.0))

    marked_is : (text : List ℕ) (exclude count : Bool) (var : Var) (select : Select) (rest : List ℕ) → (exclude && count) ≡ false → IsSelect var select → stops is_bar rest ≡ true
        → marked text (skip_blanks (mark_text exclude count ++ (variable_name var ++ (select_text select ++ rest)))) ≡ Ok (record { count = count; exclude = exclude; var = var; select = select }, behind_first rest)
    marked_is text true true var select rest one is end = absurd cc
    marked_is text true false var select rest one is end = unmarked_is false true text var select rest is end
    marked_is text false true var select rest one is end = unmarked_is true false text var select rest is end
    marked_is text false false var select rest one is end =
        let more : List ℕ = select_text select ++ rest in
        ap (marked text) (no_blank (variable_name var) more (begins var))
        ∙ no_mark text (variable_name var) more (begins var)
        ∙ unmarked_is false false text var select rest is end

    target_is : (target : Target) (rest : List ℕ) → IsTarget target → stops is_bar rest ≡ true → target_at (target_text target ++ rest) ≡ Ok (target, behind_first rest)
    unfolding target_at
    target_is target rest is end =
        let mark : List ℕ = mark_text target.exclude target.count in
        let name : List ℕ = variable_name target.var in
        let select : List ℕ = select_text target.select in
        let grouped : target_text target ++ rest ≡ mark ++ (name ++ (select ++ rest)) = append_assoc (mark ++ name) select rest ∙ append_assoc mark name (select ++ rest) in
        ap (λ (l : List ℕ). marked l (skip_blanks l)) grouped
        ∙ marked_is (mark ++ (name ++ (select ++ rest))) target.exclude target.count target.var target.select rest is.0 is.1 end

    -- ---- all of them

    -- what is left before some targets
    abbrev left_of : List Target → Option (List ℕ)
    left_of [] = None
    left_of (target ∷ targets) = Some (join_with_byte 124 (map target_text (target ∷ targets)))

    takes_all : (targets : List Target) → AllByRecursion IsTarget targets → Takes next_target (left_of targets) targets None
    takes_all [] is = refl
    takes_all (target ∷ []) is =
        let one : target_at (target_text target) ≡ Ok (target, None) = ap target_at (sym (append-nil (target_text target))) ∙ target_is target [] is.0 refl in
        (None, ap one_target one, refl)
    takes_all (target ∷ next ∷ targets) is =
        let more : List ℕ = join_with_byte 124 (map target_text (next ∷ targets)) in
        (Some more, ap one_target (target_is target (124 ∷ more) is.0 refl), takes_all (next ∷ targets) is.1)

    fewer : (target : Target) (targets : List Target) → length targets ≤ length (join_with_byte 124 (map target_text (target ∷ targets)))
    fewer target [] = omega arith
    fewer target (next ∷ targets) =
        let more : List ℕ = join_with_byte 124 (map target_text (next ∷ targets)) in
        let rest = fewer next targets in
        omega (arith, rest, length-append (target_text target) (124 ∷ more))

    pub targets_again : (targets : List Target) → AreTargets targets → targets_of (targets_text targets) ≡ Ok targets
    unfolding targets_of targets_text target_at
    targets_again [] is = absurd is
    targets_again (target ∷ targets) is =
        let text : List ℕ = join_with_byte 124 (map target_text (target ∷ targets)) in
        let few = fewer target targets in
        repeat_takes next_target (suc (suc (length text))) (Some text) (target ∷ targets) None (takes_all (target ∷ targets) is) refl (omega (arith, few))
