-- Texts that are written one after the other.
use Rattle.std.proofs.Common.{◌≡◌, ℕ, List, ◌++◌, Option, sym, ◌∙◌, ap, append_assoc}
use Rattle.waf_io.specs.Sink.{Adds}
use Rattle.waf_io.specs.declared.sink.Wrote as wrote
use Rattle.waf_io.specs.declared.sink.Wrote.TheVariants as wrotes
use Rattle.waf_io.proofs.Adds.{adds_both}
use Rattle.reports.specs.Report.{AddsPrefix}
use Rattle.control.specs.Written.{IsWritten}

-- the second failed after some of it
later : (before mid now : Option (List ℕ)) (xs ys : List ℕ) → Adds before xs mid → AddsPrefix mid ys now → AddsPrefix before (xs ++ ys) now
later before mid now xs ys a p = (
  xs ++ p.0,
  p.1,
  append_assoc xs p.0 p.1 ∙ ap (λ (l : List ℕ). xs ++ l) p.2,
  adds_both before mid now xs p.0 a p.3,
)

pub then : (how : wrote.Wrote) (before mid now : Option (List ℕ)) (xs ys : List ℕ) → Adds before xs mid → IsWritten how ys mid now → IsWritten how (xs ++ ys) before now
then wrotes.All before mid now xs ys a w = adds_both before mid now xs ys a w
then wrotes.Failed before mid now xs ys a w = later before mid now xs ys a w

-- the first failed, so nothing of the second was written
pub cut : (before now : Option (List ℕ)) (xs ys : List ℕ) → AddsPrefix before xs now → AddsPrefix before (xs ++ ys) now
cut before now xs ys p = (
  p.0,
  p.1 ++ ys,
  sym (append_assoc p.0 p.1 ys) ∙ ap (λ (l : List ℕ). l ++ ys) p.2,
  p.3,
)
