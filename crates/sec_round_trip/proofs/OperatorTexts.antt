-- The text of an operator is read.
use Rattle.std.proofs.Common.{◌≡◌, ℕ, ◌+◌, Bool, true, false, List, [], ◌∷◌, ◌++◌, map, length, take, drop, Some, None, Ok, refl, ap, ◌∙◌, append-nil}
use Rattle.std.specs.List.{AllByRecursion, join_with_byte, list_any, position_or_len}
use Rattle.sec_ast.specs.Operator.{operator_name, operator_named}
use Rattle.sec_ast.specs.PrintMacros.{macro_text}
use Rattle.sec_ast.specs.PrintOperators.{argument_text, behind_blank, operator_text, phrase_text}
use Rattle.sec_ast.specs.declared.macros.Part.{Part}
use Rattle.sec_ast.specs.declared.macros.Part.TheVariants as parts
use Rattle.sec_ast.specs.declared.operator.Op.{Op}
use Rattle.sec_ast.specs.declared.operator.OpKind.{OpKind}
use Rattle.sec_ast.specs.declared.operator.OpKind.TheVariants as kinds
use Rattle.sec_text.specs.Quotes.{is_blank}
use Rattle.sec_parts.specs.declared.operators.Operator.{Operator}
use Rattle.sec_parts.specs.Macros.{macro_of}
use Rattle.sec_parts.specs.Operators.{behind_at, is_refused_operator, literal, named, operator_of, reads_address_file, reads_phrase_file, with_argument}
use Rattle.sec_parts.specs.Phrases.{addresses_of, phrases_of, ranges_of}
use Rattle.sec_parts.specs.Texts.{skip_blanks}
use Rattle.sec_round_trip.specs.Macros.{IsMacro}
use Rattle.sec_round_trip.specs.Operators.{IsAddress, IsArgument, IsLiteral, IsOperator, IsPhrase, IsRange, begins_with_blank}
use Rattle.sec_round_trip.proofs.Names.{no_prefix}
use Rattle.sec_round_trip.proofs.Places.{drop_to, stops, take_to, to_stop}

-- ---- the argument behind its blank

stops_blank : (argument : List ℕ) → stops is_blank (behind_blank argument) ≡ true
stops_blank [] = refl
stops_blank (b ∷ argument) = refl

argument_is : (argument : List ℕ) → begins_with_blank argument ≡ false → skip_blanks (behind_blank argument) ≡ argument
argument_is [] h = refl
argument_is (b ∷ argument) h = ap (λ n. drop (1 + n) (32 ∷ b ∷ argument)) (no_prefix is_blank b argument h)

-- ---- the pattern of rx and of rxBytes

literal_is : (text : List Part) → IsLiteral text → literal (macro_text text) ≡ text
unfolding macro_text
literal_is [] is = refl
literal_is (parts.Text [] ∷ []) is = absurd cc
literal_is (parts.Text (b ∷ text) ∷ []) is = ap (λ (l : List ℕ). literal (b ∷ l)) (append-nil text)
literal_is (parts.Text text ∷ part ∷ more) is = absurd is
literal_is (parts.Ref var key ∷ more) is = absurd is

nothing : macro_text [] ≡ []
unfolding macro_text
nothing = refl

module _ (macros : (macro : List Part) → IsMacro macro → macro_of (macro_text macro) ≡ Ok macro)
    (phrases : (words : List (List ℕ)) → AllByRecursion IsPhrase words → phrases_of (join_with_byte 32 (map phrase_text words)) ≡ Ok words)
    (addresses : (words : List (List ℕ)) → AllByRecursion IsAddress words → addresses_of (join_with_byte 44 words) ≡ Ok words)
    (ranges : (words : List (List ℕ)) → AllByRecursion IsRange words → ranges_of (join_with_byte 44 words) ≡ Ok words) where
  abbrev whole : Bool → OpKind → List Part → List (List ℕ) → Operator
  whole negated kind text words = record { negated = negated; op = record { kind = kind; text = text; words = words }; file = None }

  argued : (negated : Bool) (kind : OpKind) (text : List Part) (words : List (List ℕ)) → IsArgument kind text words
      → with_argument negated (argument_text kind text words) kind ≡ Ok (whole negated kind text words)
  argued negated kinds.Rx text words is = rw (is.1, literal_is text is.0) refl
  argued negated kinds.RxBytes text words is = rw (is.1, literal_is text is.0) refl
  argued negated kinds.Pm text words is = rw (is.0, phrases words is.1) refl
  argued negated kinds.Streq text words is = rw (is.1, macros text is.0) refl
  argued negated kinds.Contains text words is = rw (is.1, macros text is.0) refl
  argued negated kinds.BeginsWith text words is = rw (is.1, macros text is.0) refl
  argued negated kinds.EndsWith text words is = rw (is.1, macros text is.0) refl
  argued negated kinds.Within text words is = rw (is.1, macros text is.0) refl
  argued negated kinds.Eq text words is = rw (is.1, macros text is.0) refl
  argued negated kinds.Ge text words is = rw (is.1, macros text is.0) refl
  argued negated kinds.Gt text words is = rw (is.1, macros text is.0) refl
  argued negated kinds.Le text words is = rw (is.1, macros text is.0) refl
  argued negated kinds.Lt text words is = rw (is.1, macros text is.0) refl
  argued negated kinds.IpMatch text words is = rw (is.0, addresses words is.1) refl
  argued negated kinds.ValidateByteRange text words is = rw (is.0, ranges words is.1) refl
  argued negated kinds.ValidateUrlEncoding text words is = rw (is.0, is.1, nothing) refl
  argued negated kinds.ValidateUtf8Encoding text words is = rw (is.0, is.1, nothing) refl
  argued negated kinds.UnconditionalMatch text words is = rw (is.0, is.1, nothing) refl
  argued negated kinds.NoMatch text words is = rw (is.0, is.1, nothing) refl

  module _ (named_so : (kind : OpKind) → operator_named (operator_name kind) ≡ Some kind) (allowed : (kind : OpKind) → is_refused_operator (operator_name kind) ≡ false)
      (no_phrases : (kind : OpKind) → reads_phrase_file (operator_name kind) ≡ false) (no_addresses : (kind : OpKind) → reads_address_file (operator_name kind) ≡ false)
      (blanks : (kind : OpKind) → list_any is_blank (operator_name kind) ≡ false) where
    named_is : (negated : Bool) (kind : OpKind) (argument : List ℕ) → named negated (operator_name kind) argument ≡ with_argument negated argument kind
    named_is negated kind argument = rw (allowed kind, no_phrases kind, no_addresses kind, named_so kind) refl

    behind_is : (negated : Bool) (kind : OpKind) (argument : List ℕ) → begins_with_blank argument ≡ false → behind_at negated (operator_name kind ++ behind_blank argument) ≡ with_argument negated argument kind
    behind_is negated kind argument plain =
        let name : List ℕ = operator_name kind in
        let rest : List ℕ = behind_blank argument in
        let long : position_or_len is_blank (name ++ rest) ≡ length name = to_stop is_blank name rest (blanks kind) (stops_blank argument) in
        let front : take (position_or_len is_blank (name ++ rest)) (name ++ rest) ≡ name = take_to (position_or_len is_blank (name ++ rest)) name rest long in
        let behind : drop (position_or_len is_blank (name ++ rest)) (name ++ rest) ≡ rest = drop_to (position_or_len is_blank (name ++ rest)) name rest long in
        ap (λ (l : List ℕ). named negated l (skip_blanks (drop (position_or_len is_blank (name ++ rest)) (name ++ rest)))) front
        ∙ ap (λ (l : List ℕ). named negated name (skip_blanks l)) behind
        ∙ ap (λ (l : List ℕ). named negated name l) (argument_is argument plain)
        ∙ named_is negated kind argument

    begun : (negated : Bool) (op : Op) → operator_of (operator_text negated op) ≡ behind_at negated (operator_name op.kind ++ behind_blank (argument_text op.kind op.text op.words))
    unfolding operator_of operator_text
    begun true op = refl
    begun false op = refl

    pub operator_again : (negated : Bool) (op : Op) → IsOperator op → operator_of (operator_text negated op) ≡ Ok (record { negated = negated; op = op; file = None })
    operator_again negated op is =
        begun negated op ∙ behind_is negated op.kind (argument_text op.kind op.text op.words) is.1 ∙ argued negated op.kind op.text op.words is.0
