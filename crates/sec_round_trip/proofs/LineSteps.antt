-- Directives are obeyed one after the other.
use Rattle.std.proofs.Common.{◌≡◌, ℕ, ◌+◌, false, List, [], ◌∷◌, ◌++◌, map, Some, None, Result, Ok, refl, sym, ap, ◌∙◌, subst}
use Rattle.std.specs.List.{AllByRecursion}
use Rattle.sec_text.specs.Words.{words}
use Rattle.sec_text.specs.WrittenLines.{numbered}
use Rattle.sec_parts.specs.Results.{◌>>=◌}
use Rattle.sec_read.specs.declared.directive.Directive.{Directive as Kind}
use Rattle.sec_read.specs.declared.faults.Found.{Found}
use Rattle.sec_read.specs.declared.reading.Reading.{Reading}
use Rattle.sec_read.specs.Directives.{directive_of, is_left_out}
use Rattle.sec_read.specs.FileWords.{Named}
use Rattle.sec_read.specs.Listing.{Opener, line_step, lines_from}
use Rattle.sec_read.specs.Steps.{directive, obeyed, unless_open}
use Rattle.sec_round_trip.specs.Directives.{Directive, directive_line}

-- what a directive of this name does
pub by_name : (files : Named) (file : List ℕ) (n : ℕ) (name : List ℕ) (given : List (List ℕ)) (kind : Kind) (reading : Reading)
    → is_left_out name ≡ false → directive_of name ≡ Some kind → directive files file n (name ∷ given) reading ≡ obeyed files file n name given reading kind
unfolding directive
by_name files file n name given kind reading taken is = rw (taken, is) refl

-- a directive in this line does all that it does at once, and names no file
abbrev pub Does : Named → List ℕ → ℕ → Directive → Reading → Reading → Type 0
Does files file n d before after = directive files file n (d.0 ∷ d.1) before ≡ Ok (None, after)

-- one after the other, from this line on
abbrev pub Do : Named → List ℕ → ℕ → List Directive → Reading → Reading → Type 0
Do files file n [] before after = before ≡ after
Do files file n (d ∷ ds) before after = (mid : Reading) × Does files file n d before mid × Do files file (n + 1) ds mid after

-- the line behind them
abbrev pub line_behind : ℕ → List Directive → ℕ
line_behind n [] = n
line_behind n (d ∷ ds) = line_behind (n + 1) ds

pub do_append : (files : Named) (file : List ℕ) (n : ℕ) (xs ys : List Directive) (a b c : Reading)
    → Do files file n xs a b → Do files file (line_behind n xs) ys b c → Do files file n (xs ++ ys) a c
do_append files file n [] ys a b c p q = subst (λ x. Do files file n ys x c) (sym p) q
do_append files file n (d ∷ xs) ys a b c p q = (p.0, p.1, do_append files file (n + 1) xs ys p.0 b c p.2 q)

-- the words of its line are its name and its words
abbrev pub HasWords : Directive → Type 0
HasWords d = words (directive_line d) ≡ Ok (d.0 ∷ d.1)

module _ (files : Named) (opener : Opener) (file : List ℕ) where
  step_is : (n : ℕ) (d : Directive) (before after : Reading) → HasWords d → Does files file n d before after
      → line_step files opener file (record { number = n; text = directive_line d }) before ≡ Ok after
  step_is n d before after read does = rw (read, does) refl

  pub lines_read : (n : ℕ) (ds : List Directive) (before after : Reading) → AllByRecursion HasWords ds → Do files file n ds before after
      → lines_from files opener file (numbered n (map directive_line ds)) before ≡ unless_open file after.unfinished (Ok after)
  lines_read n [] before after read does = ap (λ (r : Reading). unless_open file r.unfinished (Ok r)) does
  lines_read n (d ∷ ds) before after read does =
      ap (λ (r : Result Reading Found). r >>= λ mid. lines_from files opener file (numbered (n + 1) (map directive_line ds)) mid) (step_is n d before does.0 read.0 does.1)
      ∙ lines_read (n + 1) ds does.0 after read.1 does.2
