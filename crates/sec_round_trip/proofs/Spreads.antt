-- Words are printed as the reader's own laws write them.
use Rattle.std.proofs.Common.{◌≡◌, ℕ, false, eqb, List, [], ◌∷◌, ◌++◌, Some, refl, ap, ap₂, ◌∙◌, inl, inr}
use Rattle.std.specs.List.{flat_map}
use Rattle.std.proofs.lemmas.Bool.{cases_Bool, eq-eqb, eqb-true}
use Rattle.sec_ast.specs.PrintTexts as print
use Rattle.sec_text.specs.Quotes.{quoted}
use Rattle.sec_text.specs.Written.{ends_with_backslash}
use Rattle.sec_text.specs.Written as read
use Rattle.sec_text.proofs.WrittenLaws.{quoted-escaped}

pub escaped_same : (quote : ℕ) (text : List ℕ) → print.escaped quote text ≡ read.escaped quote text
escaped_same quote [] = refl
escaped_same quote (b ∷ text) =
    let rest = escaped_same quote text in
    elim (cases_Bool (eqb b quote)) [
      | inl is ↦ rw (is, rest, eqb-true b quote is) refl
      | inr not_is ↦ rw (not_is, rest) refl
    ]

pub spread_same : (words : List (List ℕ)) → flat_map print.spread words ≡ read.spread words
spread_same [] = refl
spread_same (word ∷ words) =
    ap₂ (λ (a b : List ℕ). (32 ∷ 34 ∷ (a ++ (34 ∷ []))) ++ b) (escaped_same 34 word) (spread_same words)

pub quoted_again : (quote : ℕ) (text rest : List ℕ) → eqb 92 quote ≡ false → ends_with_backslash text ≡ false → quoted quote (print.escaped quote text ++ quote ∷ rest) ≡ Some (text, rest)
quoted_again quote text rest other ends =
    ap (λ (l : List ℕ). quoted quote (l ++ quote ∷ rest)) (escaped_same quote text) ∙ quoted-escaped quote other (eq-eqb quote quote refl) text rest ends
