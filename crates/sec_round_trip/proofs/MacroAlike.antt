-- A macro that was read from a text is written alike.
use Rattle.std.proofs.Common.{◌≡◌, ℕ, zero, suc, ◌+◌, ◌-◌, Bool, true, false, List, [], ◌∷◌, ◌++◌, take, drop, Option, Some, None, Result, Ok, Err, refl, sym, ap, ◌∙◌, append_assoc, arith, subst, inl, inr, codes}
use Rattle.std.specs.Prelude.{◌==◌, nat_lt}
use Rattle.std.specs.List.{list_all, list_any}
use Rattle.std.proofs.lemmas.Bool.{and_parts, cases_Bool, eqb-true, false≢true, or_parts}
use Rattle.std.proofs.lemmas.List.{take-append-drop}
use Rattle.sec_ast.specs.PrintMacros.{key_text, macro_text, part_text}
use Rattle.sec_ast.specs.Variable.{is_collection, variable_name, variable_named}
use Rattle.sec_ast.specs.declared.macros.Part.{Part}
use Rattle.sec_ast.specs.declared.macros.Part.TheVariants as parts
use Rattle.sec_ast.specs.declared.variable.Var.{Var}
use Rattle.sec_text.specs.Readers.{ReadsAll, Takes}
use Rattle.sec_parts.specs.declared.faults.Bad.{Bad}
use Rattle.sec_parts.specs.Macros.{begins_reference, is_close, keyed, macro_of, of_variable, opens, part_at, reference, text_len, with_rest}
use Rattle.sec_parts.specs.Results.{bad, refused}
use Rattle.sec_parts.specs.Texts.{to_byte}
use Rattle.sec_parts.specs.Variables.{is_refused_variable}
use Rattle.sec_round_trip.specs.Actions.{has_equals}
use Rattle.sec_round_trip.specs.Lines.{is_printed}
use Rattle.sec_round_trip.proofs.Alike.{Alike, alike_append, alike_self, last_is}
use Rattle.sec_round_trip.proofs.FineTexts.{FineIf, begins_ascii, fine_append, fine_at, fine_before, fine_behind, fine_byte, fine_from, fine_nil, fine_printed, low_at, low_byte}
use Rattle.sec_parts.proofs.Given.{Given, given_if}
use Rattle.sec_round_trip.proofs.MacroReads.{GivesRead, IsTextRead, Stops, ends_at, given_of, left_of, nothing_is_written, nothing_reads, reference_at_gives, reference_reads, text_is_written, text_reads, text_stops}
use Rattle.sec_round_trip.proofs.Places.{any_append, here, one_more}

-- ---- where a reference ends

split_byte : (c : ℕ) (text : List ℕ) → list_any (λ b. b == c) text ≡ true → text ≡ take (to_byte c text) text ++ c ∷ drop (to_byte c text + 1) text
split_byte c [] h = absurd (false≢true h)
split_byte c (b ∷ text) h = elim (cases_Bool (b == c)) [
  | inl is ↦ subst (λ n. b ∷ text ≡ take n (b ∷ text) ++ c ∷ drop (n + 1) (b ∷ text)) (sym (here (λ x. x == c) b text is)) (ap (λ x. x ∷ text) (eqb-true b c is))
  | inr not_is ↦
      let later : list_any (λ x. x == c) text ≡ true = rw not_is at h in
      let m : ℕ = to_byte c text in
      let place : suc m + 1 ≡ suc (m + 1) = omega arith in
      subst (λ n. b ∷ text ≡ take n (b ∷ text) ++ c ∷ drop (n + 1) (b ∷ text)) (sym (one_more (λ x. x == c) b text not_is))
      (subst (λ j. b ∷ text ≡ b ∷ (take m text ++ c ∷ drop j (b ∷ text))) (sym place) (ap (λ (l : List ℕ). b ∷ l) (split_byte c text later)))
]

-- what stands between %{ and }, and what is behind
abbrev inside_of : List ℕ → List ℕ
inside_of text = take (to_byte 125 text - 2) (drop 2 text)

abbrev behind_of : List ℕ → List ℕ
behind_of text = drop (to_byte 125 text + 1) text

opened : (rest : List ℕ) → list_any is_close rest ≡ true → 37 ∷ 123 ∷ rest ≡ 37 ∷ 123 ∷ (inside_of (37 ∷ 123 ∷ rest) ++ 125 ∷ behind_of (37 ∷ 123 ∷ rest))
opened rest h =
    let m : ℕ = to_byte 125 rest in
    let close : ℕ = to_byte 125 (37 ∷ 123 ∷ rest) in
    let inside : close - 2 ≡ m = omega arith in
    let after : close + 1 ≡ suc (suc (m + 1)) = omega arith in
    ap (λ (l : List ℕ). 37 ∷ 123 ∷ l) (split_byte 125 rest h)
    ∙ ap (λ n. 37 ∷ 123 ∷ (take n rest ++ 125 ∷ drop (m + 1) rest)) (sym inside)
    ∙ ap (λ n. 37 ∷ 123 ∷ (take (close - 2) rest ++ 125 ∷ drop n (37 ∷ 123 ∷ rest))) (sym after)

reference_is : (text : List ℕ) → begins_reference text ≡ true → text ≡ 37 ∷ 123 ∷ (inside_of text ++ 125 ∷ behind_of text)
reference_is [] h = absurd (false≢true h)
reference_is (a ∷ []) h = absurd (false≢true h)
reference_is (a ∷ b ∷ rest) h =
    let both = and_parts (opens (a ∷ b ∷ rest)) (list_any is_close (a ∷ b ∷ rest)) h in
    let marks = and_parts (a == 37) (b == 123) both.0 in
    let first : a ≡ 37 = eqb-true a 37 marks.0 in
    let second : b ≡ 123 = eqb-true b 123 marks.1 in
    let there : list_any is_close (37 ∷ 123 ∷ rest) ≡ true = rw (first, second) at both.1 in
    rw (first, second) (opened rest there)

module _ (k : Bool) where
  -- ---- the key of a reference

  record KeyShown (inside : List ℕ) (key : Option (List ℕ)) : Type 0 where
    pub equals : has_equals inside ≡ false → has_equals (key_text key) ≡ false
    pub fine : FineIf k inside → FineIf k (key_text key)

  abbrev Shown : List ℕ → Part → Type 0
  Shown inside (parts.Text text) = Unit {0}
  Shown inside (parts.Ref var key) = KeyShown inside key

  keyed_shown : (whole inside key : List ℕ) (var : Var) → (has_equals inside ≡ false → has_equals key ≡ false) → (FineIf k inside → FineIf k key) → begins_ascii key ≡ true → Given (Shown inside) (keyed whole var key)
  keyed_shown whole inside [] var equals fine low = record { equals = λ h. refl; fine = λ h. fine_nil k }
  keyed_shown whole inside (dot ∷ []) var equals fine low = tt
  keyed_shown whole inside (dot ∷ b ∷ key) var equals fine low =
      given_if (Shown inside) (is_collection var) (Ok (parts.Ref var (Some (b ∷ key)))) (bad whole)
      (λ is. record {
        equals = λ h. (or_parts (dot == 61) (has_equals (b ∷ key)) (equals h)).1;
        fine = λ h. fine_append k (46 ∷ []) (b ∷ key) (fine_byte k 46 refl refl) (fine_behind k dot (b ∷ key) low (fine h));
      })
      (λ not_is. tt)

  variable_shown : (whole inside key : List ℕ) (o : Option Var) → (has_equals inside ≡ false → has_equals key ≡ false) → (FineIf k inside → FineIf k key) → begins_ascii key ≡ true → Given (Shown inside) (of_variable whole o key)
  variable_shown whole inside key None equals fine low = tt
  variable_shown whole inside key (Some var) equals fine low = keyed_shown whole inside key var equals fine low

  any_left : (p : ℕ → Bool) (n : ℕ) (text : List ℕ) → list_any p text ≡ false → list_any p (drop n text) ≡ false
  any_left p zero text h = h
  any_left p (suc n) [] h = refl
  any_left p (suc n) (b ∷ text) h = any_left p n text (or_parts (p b) (list_any p text) h).1

  reference_shown : (whole inside : List ℕ) → Given (Shown inside) (reference whole inside)
  reference_shown whole inside =
      let name : List ℕ = take (to_byte 46 inside) inside in
      let key : List ℕ = drop (to_byte 46 inside) inside in
      given_if (Shown inside) (is_refused_variable name) (refused whole) (of_variable whole (variable_named name) key) (λ is. tt)
      (λ not_is. variable_shown whole inside key (variable_named name) (any_left (λ b. b == 61) (to_byte 46 inside) inside) (fine_from k (λ b. b == 46) (low_byte 46 refl) inside) (low_at (λ b. b == 46) (low_byte 46 refl) inside))

  abbrev ShownRead : List ℕ → Result (Option (Part × List ℕ)) Bad → Type 0
  ShownRead inside (Ok None) = Unit {0}
  ShownRead inside (Ok (Some x)) = Shown inside x.0
  ShownRead inside (Err e) = Unit {0}

  rest_shown : (inside rest : List ℕ) (read : Result Part Bad) → Given (Shown inside) read → ShownRead inside (with_rest rest read)
  rest_shown inside rest (Ok part) h = h
  rest_shown inside rest (Err e) h = tt

  module _ (equals : (var : Var) → has_equals (variable_name var) ≡ false) (printed : (var : Var) → list_all is_printed (variable_name var) ≡ true) where
    -- a reference as it was read and as it is written
    abbrev chunk : List ℕ → List ℕ
    chunk inside = 37 ∷ 123 ∷ (inside ++ 125 ∷ [])

    reference_alike : (inside : List ℕ) (var : Var) (key : Option (List ℕ)) → KeyShown inside key → Alike k (chunk inside) (part_text (parts.Ref var key))
    reference_alike inside var key shown = record {
      first = refl;
      last = last_is (37 ∷ 123 ∷ inside) 125 ∙ sym (last_is (37 ∷ 123 ∷ (variable_name var ++ key_text key)) 125);
      equals = λ h.
          let none = none_before (λ b. b == 61) inside (125 ∷ []) h in
          any_append (λ b. b == 61) (variable_name var ++ key_text key) (125 ∷ []) (any_append (λ b. b == 61) (variable_name var) (key_text key) (equals var) (shown.equals none)) refl;
      fine = λ h.
          let inner : FineIf k inside = fine_before k inside (125 ∷ []) refl (fine_behind k 123 (inside ++ 125 ∷ []) refl (fine_behind k 37 (123 ∷ (inside ++ 125 ∷ [])) refl h)) in
          fine_append k (codes "%{") ((variable_name var ++ key_text key) ++ 125 ∷ []) (fine_printed k (codes "%{") refl)
          (fine_append k (variable_name var ++ key_text key) (125 ∷ []) (fine_append k (variable_name var) (key_text key) (fine_printed k (variable_name var) (printed var)) (shown.fine inner)) (fine_byte k 125 refl refl));
    }
      where
        none_before : (p : ℕ → Bool) (xs ys : List ℕ) → list_any p (xs ++ ys) ≡ false → list_any p xs ≡ false
        none_before p [] ys h = refl
        none_before p (b ∷ xs) ys h = let parts = or_parts (p b) (list_any p (xs ++ ys)) h in rw parts.0 (none_before p xs ys parts.1)

    -- a reference and what stands behind it are cut at }
    cut_close : (inside rest : List ℕ) → FineIf k (chunk inside ++ rest) → FineIf k (chunk inside) × FineIf k rest
    cut_close inside rest h =
        let grouped : chunk inside ++ rest ≡ (37 ∷ 123 ∷ inside) ++ 125 ∷ rest = ap (λ (l : List ℕ). 37 ∷ 123 ∷ l) (append_assoc inside (125 ∷ []) rest) in
        let whole : FineIf k ((37 ∷ 123 ∷ inside) ++ 125 ∷ rest) = subst (FineIf k) grouped h in (
          fine_append k (37 ∷ 123 ∷ inside) (125 ∷ []) (fine_before k (37 ∷ 123 ∷ inside) (125 ∷ rest) refl whole) (fine_byte k 125 refl refl),
          fine_behind k 125 rest refl (fine_at k (37 ∷ 123 ∷ inside) (125 ∷ rest) refl whole),
        )

    ref_written : (var : Var) (key : Option (List ℕ)) (macro : List Part) → macro_text (parts.Ref var key ∷ macro) ≡ part_text (parts.Ref var key) ++ macro_text macro
    unfolding macro_text
    ref_written var key macro = refl

    ref_again : (var : Var) (key : Option (List ℕ)) (macro : List Part) (text mid : List ℕ) → part_at text ≡ Ok (Some (parts.Ref var key, mid)) → Alike k mid (macro_text macro) → Alike k text (macro_text (parts.Ref var key ∷ macro))
    ref_again var key macro [] mid read again = let no = sym nothing_reads ∙ read in absurd cc
    ref_again var key macro (b ∷ rest) mid read again = elim (cases_Bool (begins_reference (b ∷ rest))) [
      | inl is ↦
          let text : List ℕ = b ∷ rest in
          let inside : List ℕ = inside_of text in
          let both = sym (reference_reads b rest is) ∙ read in
          let left : behind_of text ≡ mid = left_is (take (to_byte 125 text + 1) text) inside (behind_of text) mid (parts.Ref var key) both in
          let shown : KeyShown inside key = subst (ShownRead inside) both (rest_shown inside (behind_of text) (reference (take (to_byte 125 text + 1) text) inside) (reference_shown (take (to_byte 125 text + 1) text) inside)) in
          let whole : chunk inside ++ mid ≡ text =
          ap (λ (l : List ℕ). chunk inside ++ l) (sym left) ∙ ap (λ (l : List ℕ). 37 ∷ 123 ∷ l) (append_assoc inside (125 ∷ []) (behind_of text)) ∙ sym (reference_is text is) in
          subst (λ (l : List ℕ). Alike k l (macro_text (parts.Ref var key ∷ macro))) whole
          (subst (λ (l : List ℕ). Alike k (chunk inside ++ mid) l) (sym (ref_written var key macro))
          (alike_append k (chunk inside) mid (part_text (parts.Ref var key)) (macro_text macro) (cut_close inside mid) (reference_alike inside var key shown) again))
      | inr not_is ↦ absurd (subst IsTextRead (sym (text_reads b rest not_is) ∙ read) tt)
    ]
      where
        rest_is : (rest mid : List ℕ) (part : Part) (read : Result Part Bad) → with_rest rest read ≡ Ok (Some (part, mid)) → rest ≡ mid
        rest_is rest mid part (Ok given) h = ap left_of h
        rest_is rest mid part (Err e) h = absurd cc

        left_is : (whole inside rest mid : List ℕ) (part : Part) → with_rest rest (reference whole inside) ≡ Ok (Some (part, mid)) → rest ≡ mid
        left_is whole inside rest mid part h = rest_is rest mid part (reference whole inside) h

    stops_low : (text : List ℕ) → Stops text → begins_ascii text ≡ true
    stops_low [] h = refl
    stops_low (b ∷ rest) h = opens_low b rest (and_parts (opens (b ∷ rest)) (list_any is_close (b ∷ rest)) h).0
      where
        opens_low : (b : ℕ) (rest : List ℕ) → opens (b ∷ rest) ≡ true → nat_lt b 128 ≡ true
        opens_low b [] h = absurd (false≢true h)
        opens_low b (c ∷ rest) h = ap (λ n. nat_lt n 128) (eqb-true b 37 (and_parts (b == 37) (c == 123) h).0)

    text_alike : (given : List ℕ) (macro : List Part) (text mid : List ℕ) → part_at text ≡ Ok (Some (parts.Text given, mid)) → Alike k mid (macro_text macro) → Alike k text (macro_text (parts.Text given ∷ macro))
    text_alike given macro [] mid read again = let no = sym nothing_reads ∙ read in absurd cc
    text_alike given macro (b ∷ rest) mid read again = elim (cases_Bool (begins_reference (b ∷ rest))) [
      | inl is ↦ absurd (subst GivesRead (sym (reference_reads b rest is) ∙ read) (reference_at_gives (b ∷ rest) is))
      | inr not_is ↦
          let text : List ℕ = b ∷ rest in
          let n : ℕ = text_len text in
          let both = sym (text_reads b rest not_is) ∙ read in
          let front : take n text ≡ given = ap given_of both in
          let behind : drop n text ≡ mid = ap left_of both in
          let low : begins_ascii mid ≡ true = subst (λ (l : List ℕ). begins_ascii l ≡ true) behind (stops_low (drop n text) (text_stops text)) in
          let whole : given ++ mid ≡ text = ap (λ (l : List ℕ). l ++ mid) (sym front) ∙ ap (λ (l : List ℕ). take n text ++ l) (sym behind) ∙ take-append-drop n text in
          subst (λ (l : List ℕ). Alike k l (macro_text (parts.Text given ∷ macro))) whole
          (subst (λ (l : List ℕ). Alike k (given ++ mid) l) (sym (text_is_written given macro))
          (alike_append k given mid given (macro_text macro) (λ h. (fine_before k given mid low h, fine_at k given mid low h)) (alike_self k given) again))
    ]

    takes_alike : (macro : List Part) (text : List ℕ) → Takes part_at text macro [] → Alike k text (macro_text macro)
    takes_alike [] text t = subst (λ (l : List ℕ). Alike k text l) (t ∙ sym nothing_is_written) (alike_self k text)
    takes_alike (parts.Text given ∷ macro) text t = text_alike given macro text t.0 t.1 (takes_alike macro t.0 t.2)
    takes_alike (parts.Ref var key ∷ macro) text t = ref_again var key macro text t.0 t.1 (takes_alike macro t.0 t.2)

    pub macro_alike : ((text : List ℕ) → ReadsAll part_at text (macro_of text)) → (text : List ℕ) (macro : List Part) → macro_of text ≡ Ok macro → Alike k text (macro_text macro)
    macro_alike reads text macro is =
        let read : ReadsAll part_at text (Ok macro) = subst (ReadsAll part_at text) is (reads text) in
        takes_alike macro text (subst (Takes part_at text macro) (ends_at read.0 read.2) read.1)
