-- A macro that was read from a text is read back from its own.
use Rattle.std.proofs.Common.{◌≡◌, ℕ, zero, suc, ◌+◌, ◌-◌, Bool, true, false, cond, List, [], ◌∷◌, ◌++◌, take, drop, Option, Some, None, Result, Ok, Err, refl, sym, ap, ◌∙◌, append_assoc, arith, subst, inl, inr}
use Rattle.std.specs.Prelude.{not, ◌&&◌, ◌||◌, ◌==◌}
use Rattle.std.specs.List.{list_any, position_or_len}
use Rattle.std.proofs.lemmas.Bool.{and_parts, cases_Bool, eqb-true, false≢true, or_parts}
use Rattle.std.proofs.lemmas.List.{drop-take, take-append-drop}
use Rattle.sec_ast.specs.PrintMacros.{key_text, macro_text}
use Rattle.sec_ast.specs.Variable.{is_collection, variable_name, variable_named}
use Rattle.sec_ast.specs.declared.macros.Part.{Part}
use Rattle.sec_ast.specs.declared.macros.Part.TheVariants as parts
use Rattle.sec_ast.specs.declared.variable.Var.{Var}
use Rattle.sec_text.specs.Readers.{ReadsAll, Takes}
use Rattle.sec_parts.specs.declared.faults.Bad.{Bad}
use Rattle.sec_parts.specs.Macros.{begins_reference, is_close, keyed, macro_of, of_variable, opens, part_at, reference, reference_at, text_len, with_rest}
use Rattle.sec_parts.specs.Results.{bad, refused}
use Rattle.sec_parts.specs.Texts.{to_byte}
use Rattle.sec_parts.specs.Variables.{is_refused_variable}
use Rattle.sec_round_trip.specs.Macros.{IsMacro, begins_none, begins_with_text, is_key}
use Rattle.sec_round_trip.proofs.MacroTexts.{text_goes}
use Rattle.sec_parts.proofs.MacroLaws.{long_behind}
use Rattle.sec_round_trip.proofs.Places.{any_behind, here, one_more}

-- ---- the text before a reference

both_true : (p q : Bool) → p ≡ true → q ≡ true → (p && q) ≡ true
both_true p q a b = rw (a, b) refl

len_stops : (b : ℕ) (rest : List ℕ) → begins_reference (b ∷ rest) ≡ true → text_len (b ∷ rest) ≡ 0
len_stops b rest h = rw h refl

pub len_goes : (b : ℕ) (rest : List ℕ) → begins_reference (b ∷ rest) ≡ false → text_len (b ∷ rest) ≡ suc (text_len rest)
len_goes b rest h = let step = text_goes b rest h in omega (arith, step)

-- nothing, or a reference, stands here
abbrev pub Stops : List ℕ → Type 0
Stops [] = Unit {0}
Stops (b ∷ rest) = begins_reference (b ∷ rest) ≡ true

pub text_stops : (text : List ℕ) → Stops (drop (text_len text) text)
text_stops [] = tt
text_stops (b ∷ rest) = elim (cases_Bool (begins_reference (b ∷ rest))) [
  | inl is ↦ subst (λ n. Stops (drop n (b ∷ rest))) (sym (len_stops b rest is)) is
  | inr not_is ↦ subst (λ n. Stops (drop n (b ∷ rest))) (sym (len_goes b rest not_is)) (text_stops rest)
]

text_none : (text : List ℕ) → begins_none (take (text_len text) text) (drop (text_len text) text) ≡ true
text_none [] = refl
text_none (b ∷ rest) = elim (cases_Bool (begins_reference (b ∷ rest))) [
  | inl is ↦ subst (λ n. begins_none (take n (b ∷ rest)) (drop n (b ∷ rest)) ≡ true) (sym (len_stops b rest is)) refl
  | inr not_is ↦
      let n = text_len rest in
      let first : not (begins_reference (b ∷ (take n rest ++ drop n rest))) ≡ true = ap (λ (l : List ℕ). not (begins_reference (b ∷ l))) (take-append-drop n rest) ∙ ap not not_is in
      subst (λ k. begins_none (take k (b ∷ rest)) (drop k (b ∷ rest)) ≡ true) (sym (len_goes b rest not_is))
      (both_true (not (begins_reference (b ∷ (take n rest ++ drop n rest)))) (begins_none (take n rest) (drop n rest)) first (text_none rest))
]

-- ---- another text behind it, which begins alike and has a } where the first has

abbrev plain_front : List ℕ → Bool
plain_front [] = true
plain_front (b ∷ rest) = b == 37

no_second : (p : Bool) → (p && false) ≡ false
no_second true = refl
no_second false = refl

single : (a : ℕ) (more : List ℕ) → plain_front more ≡ true → begins_reference (a ∷ more) ≡ false
single a [] h = refl
single a (c ∷ more) h =
    let percent : c ≡ 37 = eqb-true c 37 h in
    subst (λ c. begins_reference (a ∷ c ∷ more) ≡ false) (sym percent) (rw (no_second (a == 37)) refl)

module _ (one other : List ℕ) (same : list_any is_close one ≡ list_any is_close other) (front : plain_front other ≡ true) where
  any_same : (text : List ℕ) → list_any is_close (text ++ one) ≡ list_any is_close (text ++ other)
  any_same [] = same
  any_same (b ∷ text) = ap (λ (q : Bool). is_close b || q) (any_same text)

  moved : (text : List ℕ) → begins_none text one ≡ true → begins_none text other ≡ true
  moved [] h = refl
  moved (a ∷ []) h = both_true (not (begins_reference (a ∷ other))) true (ap not (single a other front)) refl
  moved (a ∷ b ∷ text) h =
      let parts = and_parts (not (begins_reference (a ∷ b ∷ (text ++ one)))) (begins_none (b ∷ text) one) h in
      let alike : begins_reference (a ∷ b ∷ (text ++ one)) ≡ begins_reference (a ∷ b ∷ (text ++ other)) = ap (λ (q : Bool). ((a == 37) && (b == 123)) && q) (any_same (a ∷ b ∷ text)) in
      both_true (not (begins_reference (a ∷ b ∷ (text ++ other)))) (begins_none (b ∷ text) other) (ap not (sym alike) ∙ parts.0) (moved (b ∷ text) parts.1)

-- ---- what a reference gives

abbrev IsReference : Part → Type 0
IsReference (parts.Text text) = ⊥
IsReference (parts.Ref var key) = is_key var key ≡ true

abbrev Gives : Result Part Bad → Type 0
Gives (Ok part) = IsReference part
Gives (Err e) = Unit {0}

keyed_one : (whole key : List ℕ) (b : ℕ) (var : Var) (p : Bool) → is_collection var ≡ p → list_any is_close (b ∷ key) ≡ false → Gives (cond p (Ok (parts.Ref var (Some (b ∷ key)))) (bad whole))
keyed_one whole key b var true is none = rw (is, none) refl
keyed_one whole key b var false is none = tt

keyed_gives : (whole : List ℕ) (var : Var) (key : List ℕ) → list_any is_close key ≡ false → Gives (keyed whole var key)
keyed_gives whole var [] none = refl
keyed_gives whole var (dot ∷ []) none = tt
keyed_gives whole var (dot ∷ b ∷ key) none = keyed_one whole key b var (is_collection var) refl (or_parts (is_close dot) (list_any is_close (b ∷ key)) none).1

of_variable_gives : (whole : List ℕ) (o : Option Var) (key : List ℕ) → list_any is_close key ≡ false → Gives (of_variable whole o key)
of_variable_gives whole None key none = tt
of_variable_gives whole (Some var) key none = keyed_gives whole var key none

unless_refused : (whole : List ℕ) (p : Bool) (read : Result Part Bad) → Gives read → Gives (cond p (refused whole) read)
unless_refused whole true read h = tt
unless_refused whole false read h = h

pub none_left : (n : ℕ) (text : List ℕ) → list_any is_close text ≡ false → list_any is_close (drop n text) ≡ false
none_left zero text h = h
none_left (suc n) [] h = refl
none_left (suc n) (b ∷ text) h = none_left n text (or_parts (is_close b) (list_any is_close text) h).1

reference_gives : (whole inside : List ℕ) → list_any is_close inside ≡ false → Gives (reference whole inside)
reference_gives whole inside none =
    unless_refused whole (is_refused_variable (take (to_byte 46 inside) inside)) (of_variable whole (variable_named (take (to_byte 46 inside) inside)) (drop (to_byte 46 inside) inside))
    (of_variable_gives whole (variable_named (take (to_byte 46 inside) inside)) (drop (to_byte 46 inside) inside) (none_left (to_byte 46 inside) inside none))

-- ---- one part

pub before_first : (p : ℕ → Bool) (text : List ℕ) → list_any p (take (position_or_len p text) text) ≡ false
before_first p [] = refl
before_first p (b ∷ text) = elim (cases_Bool (p b)) [
  | inl is ↦ subst (λ n. list_any p (take n (b ∷ text)) ≡ false) (sym (here p b text is)) refl
  | inr not_is ↦
      subst (λ n. list_any p (take n (b ∷ text)) ≡ false) (sym (one_more p b text not_is))
      (ap (λ (q : Bool). q || list_any p (take (position_or_len p text) text)) not_is ∙ before_first p text)
]

inside_none : (text : List ℕ) → begins_reference text ≡ true → list_any is_close (take (to_byte 125 text - 2) (drop 2 text)) ≡ false
inside_none text h =
    let two = long_behind text h in
    let whole : 2 + (to_byte 125 text - 2) ≡ to_byte 125 text = omega (arith, two) in
    ap (list_any is_close) (sym (drop-take 2 (to_byte 125 text - 2) text) ∙ ap (λ n. drop 2 (take n text)) whole)
    ∙ none_left 2 (take (to_byte 125 text) text) (before_first is_close text)

abbrev pub GivesRead : Result (Option (Part × List ℕ)) Bad → Type 0
GivesRead (Ok None) = Unit {0}
GivesRead (Ok (Some x)) = IsReference x.0
GivesRead (Err e) = Unit {0}

with_rest_gives : (rest : List ℕ) (read : Result Part Bad) → Gives read → GivesRead (with_rest rest read)
with_rest_gives rest (Ok part) h = h
with_rest_gives rest (Err e) h = tt

pub reference_reads : (b : ℕ) (rest : List ℕ) → begins_reference (b ∷ rest) ≡ true → part_at (b ∷ rest) ≡ reference_at (b ∷ rest)
unfolding part_at
reference_reads b rest is = rw is refl

pub reference_at_gives : (text : List ℕ) → begins_reference text ≡ true → GivesRead (reference_at text)
reference_at_gives text h =
    with_rest_gives (drop (to_byte 125 text + 1) text) (reference (take (to_byte 125 text + 1) text) (take (to_byte 125 text - 2) (drop 2 text)))
    (reference_gives (take (to_byte 125 text + 1) text) (take (to_byte 125 text - 2) (drop 2 text)) (inside_none text h))

pub text_reads : (b : ℕ) (rest : List ℕ) → begins_reference (b ∷ rest) ≡ false → part_at (b ∷ rest) ≡ Ok (Some (parts.Text (take (text_len (b ∷ rest)) (b ∷ rest)), drop (text_len (b ∷ rest)) (b ∷ rest)))
unfolding part_at
text_reads b rest is = rw is refl

-- what was read, taken apart
abbrev pub IsTextRead : Result (Option (Part × List ℕ)) Bad → Type 0
IsTextRead (Ok None) = Unit {0}
IsTextRead (Ok (Some (parts.Text text, rest))) = Unit {0}
IsTextRead (Ok (Some (parts.Ref var key, rest))) = ⊥
IsTextRead (Err e) = Unit {0}

abbrev pub given_of : Result (Option (Part × List ℕ)) Bad → List ℕ
given_of (Ok None) = []
given_of (Ok (Some (parts.Text text, rest))) = text
given_of (Ok (Some (parts.Ref var key, rest))) = []
given_of (Err e) = []

abbrev pub left_of : Result (Option (Part × List ℕ)) Bad → List ℕ
left_of (Ok None) = []
left_of (Ok (Some x)) = x.1
left_of (Err e) = []

pub nothing_reads : part_at [] ≡ Ok None
unfolding part_at
nothing_reads = refl

-- ---- all of them

canonical_front : (macro : List Part) → begins_with_text macro ≡ false → plain_front (macro_text macro) ≡ true
unfolding macro_text
canonical_front [] h = refl
canonical_front (parts.Text text ∷ macro) h = absurd cc
canonical_front (parts.Ref var key ∷ macro) h = refl

canonical_close : (var : Var) (key : Option (List ℕ)) (macro : List Part) → list_any is_close (macro_text (parts.Ref var key ∷ macro)) ≡ true
unfolding macro_text
canonical_close var key macro =
    let inside : List ℕ = variable_name var ++ key_text key in
    ap (λ (l : List ℕ). list_any is_close l) (append_assoc inside (125 ∷ []) (macro_text macro)) ∙ any_behind is_close inside 125 (macro_text macro) refl

pub text_is_written : (text : List ℕ) (macro : List Part) → macro_text (parts.Text text ∷ macro) ≡ text ++ macro_text macro
unfolding macro_text
text_is_written text macro = refl

pub nothing_is_written : macro_text [] ≡ []
unfolding macro_text
nothing_is_written = refl

record Again (text : List ℕ) (macro : List Part) : Type 0 where
  pub is : IsMacro macro
  pub close : list_any is_close text ≡ list_any is_close (macro_text macro)
  pub front : Stops text → begins_with_text macro ≡ false

reference_again : (var : Var) (key : Option (List ℕ)) (macro : List Part) (text mid : List ℕ) → part_at text ≡ Ok (Some (parts.Ref var key, mid)) → Again mid macro → Again text (parts.Ref var key ∷ macro)
reference_again var key macro [] mid read again = let no = sym nothing_reads ∙ read in absurd cc
reference_again var key macro (b ∷ rest) mid read again = elim (cases_Bool (begins_reference (b ∷ rest))) [
  | inl is ↦
      let key_is : is_key var key ≡ true = subst GivesRead (sym (reference_reads b rest is) ∙ read) (reference_at_gives (b ∷ rest) is) in
      let there : list_any is_close (b ∷ rest) ≡ true = (and_parts (opens (b ∷ rest)) (list_any is_close (b ∷ rest)) is).1 in
      record { is = (key_is, again.is); close = there ∙ sym (canonical_close var key macro); front = λ s. refl }
  | inr not_is ↦ absurd (subst IsTextRead (sym (text_reads b rest not_is) ∙ read) tt)
]

-- a text with the bytes behind it, and those of the canonical text in their place
text_made : (b : ℕ) (text mid : List ℕ) (macro : List Part) → begins_none (b ∷ text) mid ≡ true → Stops mid → begins_reference ((b ∷ text) ++ mid) ≡ false → Again mid macro → Again ((b ∷ text) ++ mid) (parts.Text (b ∷ text) ∷ macro)
text_made b text mid macro none stops not_is again =
    let no_text = again.front stops in
    let other : List ℕ = macro_text macro in
    let front = canonical_front macro no_text in
    record {
      is = (moved mid other again.close front (b ∷ text) none, no_text, again.is);
      close = any_same mid other again.close front (b ∷ text) ∙ ap (λ (l : List ℕ). list_any is_close l) (sym (text_is_written (b ∷ text) macro));
      front = λ s. absurd (false≢true (sym not_is ∙ s));
    }

text_again : (given : List ℕ) (macro : List Part) (text mid : List ℕ) → part_at text ≡ Ok (Some (parts.Text given, mid)) → Again mid macro → Again text (parts.Text given ∷ macro)
text_again given macro [] mid read again = let no = sym nothing_reads ∙ read in absurd cc
text_again given macro (b ∷ rest) mid read again = elim (cases_Bool (begins_reference (b ∷ rest))) [
  | inl is ↦ absurd (subst GivesRead (sym (reference_reads b rest is) ∙ read) (reference_at_gives (b ∷ rest) is))
  | inr not_is ↦
      let n = text_len rest in
      let len : text_len (b ∷ rest) ≡ suc n = len_goes b rest not_is in
      let both = sym (text_reads b rest not_is) ∙ read in
      let front : take (text_len (b ∷ rest)) (b ∷ rest) ≡ given = ap given_of both in
      let behind : drop (text_len (b ∷ rest)) (b ∷ rest) ≡ mid = ap left_of both in
      let given_is : b ∷ take n rest ≡ given = sym (ap (λ k. take k (b ∷ rest)) len) ∙ front in
      let mid_is : drop n rest ≡ mid = sym (ap (λ k. drop k (b ∷ rest)) len) ∙ behind in
      let none : begins_none (b ∷ take n rest) (drop n rest) ≡ true = subst (λ k. begins_none (take k (b ∷ rest)) (drop k (b ∷ rest)) ≡ true) len (text_none (b ∷ rest)) in
      let stops : Stops (drop n rest) = text_stops rest in
      let whole : (b ∷ take n rest) ++ drop n rest ≡ b ∷ rest = ap (λ (l : List ℕ). b ∷ l) (take-append-drop n rest) in
      let was : Again (drop n rest) macro = subst (λ (l : List ℕ). Again l macro) (sym mid_is) again in
      let made : Again ((b ∷ take n rest) ++ drop n rest) (parts.Text (b ∷ take n rest) ∷ macro) =
      text_made b (take n rest) (drop n rest) macro none stops (ap begins_reference whole ∙ not_is) was in
      subst (λ (l : List ℕ). Again (b ∷ rest) (parts.Text l ∷ macro)) given_is (subst (λ (l : List ℕ). Again l (parts.Text (b ∷ take n rest) ∷ macro)) whole made)
]

again_all : (macro : List Part) (text : List ℕ) → Takes part_at text macro [] → Again text macro
again_all [] text t = record { is = tt; close = ap (λ (l : List ℕ). list_any is_close l) t ∙ ap (λ (l : List ℕ). list_any is_close l) (sym nothing_is_written); front = λ s. refl }
again_all (parts.Text given ∷ macro) text t = text_again given macro text t.0 t.1 (again_all macro t.0 t.2)
again_all (parts.Ref var key ∷ macro) text t = reference_again var key macro text t.0 t.1 (again_all macro t.0 t.2)

-- the end comes where nothing is left
pub ends_at : (rest : List ℕ) → part_at rest ≡ Ok None → rest ≡ []
ends_at [] h = refl
ends_at (b ∷ rest) h = elim (cases_Bool (begins_reference (b ∷ rest))) [
  | inl is ↦ absurd (no_end (reference (take (to_byte 125 (b ∷ rest) + 1) (b ∷ rest)) (take (to_byte 125 (b ∷ rest) - 2) (drop 2 (b ∷ rest)))) (drop (to_byte 125 (b ∷ rest) + 1) (b ∷ rest)) (sym (reference_reads b rest is) ∙ h))
  | inr not_is ↦ let no = sym (text_reads b rest not_is) ∙ h in absurd cc
]
  where
    no_end : (read : Result Part Bad) (left : List ℕ) → with_rest left read ≡ Ok None → ⊥
    no_end (Ok part) left h = cc
    no_end (Err e) left h = cc

pub macro_can_be_printed : ((text : List ℕ) → ReadsAll part_at text (macro_of text)) → (text : List ℕ) (macro : List Part) → macro_of text ≡ Ok macro → IsMacro macro
macro_can_be_printed reads text macro is =
    let read : ReadsAll part_at text (Ok macro) = subst (ReadsAll part_at text) is (reads text) in
    (again_all macro text (subst (Takes part_at text macro) (ends_at read.0 read.2) read.1)).is
