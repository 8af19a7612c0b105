-- The text of a macro is read part by part.
use Rattle.std.proofs.Common.{◌≡◌, ℕ, suc, ◌+◌, ◌-◌, ◌≤◌, true, false, List, [], ◌∷◌, ◌++◌, length, take, drop, Option, Some, None, Ok, refl, sym, ap, ◌∙◌, append_assoc, append-nil, length-append, arith}
use Rattle.std.specs.Prelude.{not, ◌==◌}
use Rattle.std.specs.List.{list_any}
use Rattle.std.proofs.lemmas.Bool.{and_parts}
use Rattle.sec_ast.specs.PrintMacros.{key_text, macro_text}
use Rattle.sec_ast.specs.Variable.{is_collection, variable_name, variable_named}
use Rattle.sec_ast.specs.declared.macros.Part.{Part}
use Rattle.sec_ast.specs.declared.macros.Part.TheVariants as parts
use Rattle.sec_ast.specs.declared.variable.Var.{Var}
use Rattle.sec_text.specs.Readers.{Takes}
use Rattle.sec_parts.specs.Macros.{begins_reference, is_close, keyed, macro_of, part_at, reference, text_len}
use Rattle.sec_parts.specs.Texts.{to_byte}
use Rattle.sec_parts.specs.Variables.{is_refused_variable}
use Rattle.sec_round_trip.specs.Macros.{IsMacro, begins_none, begins_with_text, is_key}
use Rattle.sec_round_trip.proofs.Names.{not_false}
use Rattle.sec_round_trip.proofs.Places.{any_append, any_behind, drop_to, take_to, to_at, to_end}
use Rattle.sec_round_trip.proofs.Repeats.{repeat_takes}

-- ---- text

pub text_goes : (b : ℕ) (text : List ℕ) → begins_reference (b ∷ text) ≡ false → text_len (b ∷ text) ≡ 1 + text_len text
text_goes b text h = rw h refl

text_is : (text more : List ℕ) → begins_none text more ≡ true → text_len more ≡ 0 → text_len (text ++ more) ≡ length text
text_is [] more none end = end
text_is (b ∷ text) more none end =
    let both = and_parts (not (begins_reference (b ∷ (text ++ more)))) (begins_none text more) none in
    let step = text_goes b (text ++ more) (not_false (begins_reference (b ∷ (text ++ more))) both.0) in
    let again = text_is text more both.1 end in
    omega (arith, step, again)

read_text : (b : ℕ) (text more : List ℕ) → begins_none (b ∷ text) more ≡ true → text_len more ≡ 0 → part_at (b ∷ (text ++ more)) ≡ Ok (Some (parts.Text (b ∷ text), more))
unfolding part_at
read_text b text more none end =
    let both = and_parts (not (begins_reference (b ∷ (text ++ more)))) (begins_none text more) none in
    let is : begins_reference (b ∷ (text ++ more)) ≡ false = not_false (begins_reference (b ∷ (text ++ more))) both.0 in
    let long : text_len (b ∷ (text ++ more)) ≡ length (b ∷ text) = text_is (b ∷ text) more none end in
    let front : take (text_len (b ∷ (text ++ more))) (b ∷ (text ++ more)) ≡ b ∷ text = take_to (text_len (b ∷ (text ++ more))) (b ∷ text) more long in
    let behind : drop (text_len (b ∷ (text ++ more))) (b ∷ (text ++ more)) ≡ more = drop_to (text_len (b ∷ (text ++ more))) (b ∷ text) more long in
    rw (front, behind, is) refl

-- ---- references

reference_begins : (inside more : List ℕ) → begins_reference (37 ∷ 123 ∷ (inside ++ 125 ∷ more)) ≡ true
reference_begins inside more = any_behind is_close inside 125 more refl

read_reference : (inside more : List ℕ) (part : Part) → list_any is_close inside ≡ false → ((whole : List ℕ) → reference whole inside ≡ Ok part) → part_at (37 ∷ 123 ∷ (inside ++ 125 ∷ more)) ≡ Ok (Some (part, more))
unfolding part_at
read_reference inside more part none is =
    let text : List ℕ = 37 ∷ 123 ∷ (inside ++ 125 ∷ more) in
    let close : to_byte 125 text ≡ suc (suc (length inside)) = to_at is_close (37 ∷ 123 ∷ inside) 125 more none refl in
    let next : to_byte 125 text + 1 ≡ length ((37 ∷ 123 ∷ inside) ++ 125 ∷ []) = omega (arith, close, length-append (37 ∷ 123 ∷ inside) (125 ∷ [])) in
    let grouped : text ≡ ((37 ∷ 123 ∷ inside) ++ 125 ∷ []) ++ more = sym (append_assoc (37 ∷ 123 ∷ inside) (125 ∷ []) more) in
    let behind : drop (to_byte 125 text + 1) text ≡ more = ap (λ (l : List ℕ). drop (to_byte 125 text + 1) l) grouped ∙ drop_to (to_byte 125 text + 1) ((37 ∷ 123 ∷ inside) ++ 125 ∷ []) more next in
    let between : take (to_byte 125 text - 2) (inside ++ 125 ∷ more) ≡ inside = take_to (to_byte 125 text - 2) inside (125 ∷ more) (omega (arith, close)) in
    let whole : List ℕ = take (to_byte 125 text + 1) text in
    let read : reference whole (take (to_byte 125 text - 2) (inside ++ 125 ∷ more)) ≡ Ok part = ap (λ (l : List ℕ). reference whole l) between ∙ is whole in
    rw (reference_begins inside more, behind, read) refl

-- the name of a variable ends at the dot before its key
dot_is : (name : List ℕ) (key : Option (List ℕ)) → list_any (λ b. b == 46) name ≡ false → to_byte 46 (name ++ key_text key) ≡ length name
dot_is name None none = ap (to_byte 46) (append-nil name) ∙ to_end (λ b. b == 46) name none
dot_is name (Some key) none = to_at (λ b. b == 46) name 46 key none refl

key_is : (whole : List ℕ) (var : Var) (key : Option (List ℕ)) → is_key var key ≡ true → keyed whole var (key_text key) ≡ Ok (parts.Ref var key)
key_is whole var None h = refl
key_is whole var (Some []) h = absurd cc
key_is whole var (Some (b ∷ key)) h = rw (and_parts (is_collection var) (not (list_any is_close (b ∷ key))) h).0 refl

no_close : (var : Var) (key : Option (List ℕ)) → is_key var key ≡ true → list_any is_close (key_text key) ≡ false
no_close var None h = refl
no_close var (Some []) h = refl
no_close var (Some (b ∷ key)) h = not_false (list_any is_close (b ∷ key)) (and_parts (is_collection var) (not (list_any is_close (b ∷ key))) h).1

module _ (named : (var : Var) → variable_named (variable_name var) ≡ Some var) (allowed : (var : Var) → is_refused_variable (variable_name var) ≡ false)
    (dots : (var : Var) → list_any (λ b. b == 46) (variable_name var) ≡ false) (closes : (var : Var) → list_any is_close (variable_name var) ≡ false) where
  reference_is : (var : Var) (key : Option (List ℕ)) → is_key var key ≡ true → (whole : List ℕ) → reference whole (variable_name var ++ key_text key) ≡ Ok (parts.Ref var key)
  reference_is var key h whole =
      let inside : List ℕ = variable_name var ++ key_text key in
      let long : to_byte 46 inside ≡ length (variable_name var) = dot_is (variable_name var) key (dots var) in
      let front : take (to_byte 46 inside) inside ≡ variable_name var = take_to (to_byte 46 inside) (variable_name var) (key_text key) long in
      let behind : drop (to_byte 46 inside) inside ≡ key_text key = drop_to (to_byte 46 inside) (variable_name var) (key_text key) long in
      rw (front, behind, allowed var, named var) (key_is whole var key h)

  part_is : (var : Var) (key : Option (List ℕ)) (macro : List Part) → is_key var key ≡ true → part_at (macro_text (parts.Ref var key ∷ macro)) ≡ Ok (Some (parts.Ref var key, macro_text macro))
  unfolding macro_text
  part_is var key macro h =
      let inside : List ℕ = variable_name var ++ key_text key in
      let grouped : macro_text (parts.Ref var key ∷ macro) ≡ 37 ∷ 123 ∷ (inside ++ 125 ∷ macro_text macro) = ap (λ (l : List ℕ). 37 ∷ 123 ∷ l) (append_assoc inside (125 ∷ []) (macro_text macro)) in
      ap part_at grouped ∙ read_reference inside (macro_text macro) (parts.Ref var key) (any_append is_close (variable_name var) (key_text key) (closes var) (no_close var key h)) (reference_is var key h)

  no_text : (macro : List Part) → begins_with_text macro ≡ false → text_len (macro_text macro) ≡ 0
  unfolding macro_text
  no_text [] h = refl
  no_text (parts.Text text ∷ macro) h = absurd cc
  no_text (parts.Ref var key ∷ macro) h =
      let inside : List ℕ = variable_name var ++ key_text key in
      let grouped : (inside ++ 125 ∷ []) ++ macro_text macro ≡ inside ++ 125 ∷ macro_text macro = append_assoc inside (125 ∷ []) (macro_text macro) in
      rw (grouped, reference_begins inside (macro_text macro)) refl

  takes_all : (macro : List Part) → IsMacro macro → Takes part_at (macro_text macro) macro []
  unfolding macro_text
  takes_all [] is = refl
  takes_all (parts.Text [] ∷ macro) is = absurd is
  takes_all (parts.Text (b ∷ text) ∷ macro) is =
      (macro_text macro, read_text b text (macro_text macro) is.0 (no_text macro is.1), takes_all macro is.2)
  takes_all (parts.Ref var key ∷ macro) is = (macro_text macro, part_is var key macro is.0, takes_all macro is.1)

  -- a part takes at least one byte
  fewer : (macro : List Part) → IsMacro macro → length macro ≤ length (macro_text macro)
  unfolding macro_text
  fewer [] is = omega arith
  fewer (parts.Text [] ∷ macro) is = absurd is
  fewer (parts.Text (b ∷ text) ∷ macro) is =
      let rest = fewer macro is.2 in omega (arith, rest, length-append text (macro_text macro))
  fewer (parts.Ref var key ∷ macro) is =
      let rest = fewer macro is.1 in omega (arith, rest, length-append ((variable_name var ++ key_text key) ++ 125 ∷ []) (macro_text macro))

  pub macro_again : (macro : List Part) → IsMacro macro → macro_of (macro_text macro) ≡ Ok macro
  unfolding macro_of part_at
  macro_again macro is =
      let few = fewer macro is in
      repeat_takes part_at (suc (length (macro_text macro))) (macro_text macro) macro [] (takes_all macro is) refl (omega (arith, few))
