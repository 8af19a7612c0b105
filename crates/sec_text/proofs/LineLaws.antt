-- Lines that were written are read again.
use Rattle.std.proofs.Common.{◌≡◌, ℕ, ◌+◌, false, List, [], ◌∷◌, ◌++◌, refl, ap, ◌∙◌}
use Rattle.std.specs.List.{AllByRecursion, slice_split}
use Rattle.std.proofs.lemmas.List.Splits.{slice_split_at}
use Rattle.sec_text.specs.declared.line.Line.{Line}
use Rattle.sec_text.specs.Lines.{is_line_feed, physical_from, goes_on, is_passed, lines_in, logical}
use Rattle.sec_text.specs.WrittenLines.{IsWhole, written_lines, numbered}

one_line : (n : ℕ) (text : List ℕ) (ps : List (ℕ × List ℕ)) → is_passed text ≡ false → goes_on text ≡ false → lines_in false ((n, text) ∷ ps) ≡ record { number = n; text = text } ∷ lines_in false ps
one_line n [] ps begins ends = absurd cc
one_line n (b ∷ text) ps begins ends = rw (begins, ends) refl

from_here : (n : ℕ) (texts : List (List ℕ)) → AllByRecursion IsWhole texts → lines_in false (physical_from n (slice_split is_line_feed (written_lines texts))) ≡ numbered n texts
from_here n [] all = refl
from_here n (text ∷ texts) all =
    let whole = all.0 in
    let parts : slice_split is_line_feed (text ++ 10 ∷ written_lines texts) ≡ text ∷ slice_split is_line_feed (written_lines texts) = slice_split_at is_line_feed text 10 (written_lines texts) whole.no_feed refl in
    let rest = physical_from (n + 1) (slice_split is_line_feed (written_lines texts)) in
    ap (λ (p : List (List ℕ)). lines_in false (physical_from n p)) parts ∙ rw whole.kept (one_line n text rest whole.begins whole.ends) ∙ ap (λ (l : List Line). record { number = n; text = text } ∷ l) (from_here (n + 1) texts all.1)

pub lines_again : (texts : List (List ℕ)) → AllByRecursion IsWhole texts → logical (written_lines texts) ≡ numbered 1 texts
lines_again texts all = from_here 1 texts all
