-- One Include, where files are told.
use Rattle.std.proofs.Common.{◌≡◌, ℕ, zero, suc, ◌-◌, ◌<◌, false, List, Option, Some, None, Result, Ok, refl, sym, ap, subst, ◌∙◌, arith}
use Rattle.std.specs.Prelude.{IfSome}
use Rattle.sec_text.specs.declared.line.Line.{Line}
use Rattle.sec_parts.specs.Results.{◌>>=◌}
use Rattle.sec_read.specs.declared.faults.Found.{Found}
use Rattle.sec_read.specs.declared.faults.Halt.{Halt}
use Rattle.sec_read.specs.declared.reading.Reading.{Reading}
use Rattle.sec_read.specs.FileWords.{Named}
use Rattle.sec_read.specs.Listing.{included, lines_from, opened, opened_text}
use Rattle.sec_read.specs.Names.{beside, has_wildcard}
use Rattle.sec_read.specs.Results.{Stops, Tells}
use Rattle.sec_read.proofs.Told.{stops_bind}

abbrev text_at : Named → List ℕ → ℕ → List ℕ → List ℕ → Reading → Result (List Line × Reading) Found
text_at files file line word name reading = opened_text file line word name (files name) reading

abbrev go_in : Named → ℕ → List ℕ → List Line × Reading → Result Reading Found
go_in files depth name found = lines_from files (opened files depth) name found.0 found.1

included-more : (files : Named) (depth : ℕ) (file : List ℕ) (line : ℕ) (word name : List ℕ) (reading : Reading) → 0 < depth → name ≡ beside file word
    → included files depth file line word reading ≡ (text_at files file line word name reading >>= go_in files (depth - 1) name)
included-more files zero file line word name reading lt named = absurd (omega arith)
included-more files (suc depth) file line word name reading lt named =
    let one : suc depth - 1 ≡ depth = omega arith in
    rw (one, named) refl

opened-more : (files : Named) (depth : ℕ) (file : List ℕ) (line : ℕ) (word name : List ℕ) (reading : Reading) → 0 < depth → name ≡ beside file word → false ≡ has_wildcard word
    → opened files depth file line word reading ≡ (text_at files file line word name reading >>= go_in files (depth - 1) name)
opened-more files depth file line word name reading lt named calm = rw (← calm) (included-more files depth file line word name reading lt named)

module _ (depth : ℕ) (file : List ℕ) (line : ℕ) (word name : List ℕ) (reading : Reading) (lt : 0 < depth) (named : name ≡ beside file word) (calm : false ≡ has_wildcard word) where
  pub not_opened : (told : Option Named) (e : Halt) → IfSome told (λ files. Stops e (opened_text file line word name (files name) reading))
      → IfSome told (λ files. Stops e (opened files depth file line word reading))
  not_opened None e h = tt
  not_opened (Some files) e h =
      subst (Stops e) (sym (opened-more files depth file line word name reading lt named calm)) (stops_bind e (text_at files file line word name reading) (go_in files (depth - 1) name) h)

  pub was_opened : {X : Type 0} (view : X → Reading) (told later : Option Named) (lines given : List Line) (next : Reading) (r : Result X Halt) → later ≡ told → given ≡ lines
      → IfSome told (λ files. opened_text file line word name (files name) reading ≡ Ok (lines, next))
      → IfSome later (λ files. Tells view r (lines_from files (opened files (depth - 1)) name given next))
      → IfSome told (λ files. Tells view r (opened files depth file line word reading))
  was_opened view None later lines given next r same all first then = tt
  was_opened view (Some files) later lines given next r same all first then =
      let inner = subst (λ (o : Option Named). IfSome o (λ files. Tells view r (lines_from files (opened files (depth - 1)) name given next))) same then in
      let whole = subst (λ (l : List Line). Tells view r (lines_from files (opened files (depth - 1)) name l next)) all inner in
      subst (Tells view r) (sym (opened-more files depth file line word name reading lt named calm ∙ ap (λ x. x >>= go_in files (depth - 1) name) first)) whole
