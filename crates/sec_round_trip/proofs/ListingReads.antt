-- A listing that was read can be printed.
use Rattle.std.proofs.Common.{◌≡◌, ℕ, zero, suc, ◌≤◌, Bool, true, false, cond, List, [], ◌∷◌, Option, Some, None, Result, Ok, Err, refl, arith}
use Rattle.std.specs.Prelude.{not}
use Rattle.std.specs.List.{AllByRecursion, count_by}
use Rattle.std.proofs.lemmas.Bool.{or_from, or_parts}
use Rattle.std.proofs.lemmas.List.Sums.{sum_by-cons}
use Rattle.sec_ast.specs.declared.listing.Item.{Item}
use Rattle.sec_ast.specs.declared.listing.Item.TheVariants as items
use Rattle.sec_ast.specs.declared.listing.Listing.{Listing}
use Rattle.sec_ast.specs.declared.rule.Rule.{Rule}
use Rattle.sec_text.specs.Lines.{lines_of}
use Rattle.sec_text.specs.Words.{words}
use Rattle.sec_text.specs.declared.faults.TextFault.{TextFault}
use Rattle.sec_text.specs.declared.faults.TextFault.TheVariants as text_faults
use Rattle.sec_text.specs.declared.faults.WordFault.{WordFault}
use Rattle.sec_text.specs.declared.faults.WordFault.TheVariants as word_faults
use Rattle.sec_text.specs.declared.line.Line.{Line}
use Rattle.sec_parts.specs.Results.{◌>>=◌}
use Rattle.sec_read.specs.declared.reading.Reading.{Reading}
use Rattle.sec_read.specs.declared.removals.Removals.{Removals}
use Rattle.sec_read.specs.declared.texts.Text.{Text}
use Rattle.sec_read.specs.Faults.{lines_at, words_at}
use Rattle.sec_read.specs.FileWords.{Named, admitted}
use Rattle.sec_read.specs.Items.{has_id, is_rule, is_rule_with}
use Rattle.sec_read.specs.Listing.{Opener, all_handed_in, effective, followed, guarded, handed_in, included, line_step, lines_from, listing, nothing_read, opened, opened_lines, opened_text}
use Rattle.sec_read.specs.Names.{beside, has_wildcard}
use Rattle.sec_read.specs.Removals.{is_removed, kept}
use Rattle.sec_read.specs.Steps.{directive}
use Rattle.sec_round_trip.specs.Printable.{AreApart, HoldBytes}
use Rattle.sec_round_trip.proofs.ActionReads.{Within}
use Rattle.sec_round_trip.proofs.FileReads.{admitted_gives}
use Rattle.sec_parts.proofs.Given.{Given, given_at, given_bind, given_if}
use Rattle.sec_round_trip.proofs.Identifiers.{counted}
use Rattle.sec_round_trip.proofs.Sound.{IsSound}
use Rattle.sec_round_trip.proofs.StateReads.{GoodItem, GoodReading, first_defaults_good}
use Rattle.sec_round_trip.proofs.StepReads.{GoodAnswer, unless_good}
use Rattle.sec_round_trip.proofs.TextReads.{FineLine, lines_give, words_give}
use Rattle.sec_round_trip.proofs.WordReads.{AreBytes}

-- ---- lines

words_placed : (file : List ℕ) (line : ℕ) (r : Result (List (List ℕ)) WordFault) → Given (AllByRecursion IsSound) r → Given (AllByRecursion IsSound) (words_at file line r)
words_placed file line (Ok given) h = h
words_placed file line (Err word_faults.OpenQuote) h = tt
words_placed file line (Err word_faults.BadWord) h = tt
words_placed file line (Err word_faults.NoMemory) h = tt

lines_placed : (file : List ℕ) (r : Result (List Line) TextFault) → Given (AllByRecursion FineLine) r → Given (AllByRecursion FineLine) (lines_at file r)
lines_placed file (Ok lines) h = h
lines_placed file (Err (text_faults.NotText line)) h = tt
lines_placed file (Err (text_faults.TooLong line)) h = tt
lines_placed file (Err text_faults.NoMemory) h = tt

-- what is read of a file that is named keeps the reading good
abbrev GoodOpener : Opener → Type 0
GoodOpener opener = (file : List ℕ) (line : ℕ) (word : List ℕ) (reading : Reading) → GoodReading reading → Given GoodReading (opener file line word reading)

followed_good : (opener : Opener) (file : List ℕ) (line : ℕ) (o : Option (List ℕ)) (reading : Reading) → GoodOpener opener → GoodReading reading → Given GoodReading (followed opener file line o reading)
followed_good opener file line None reading opens good = good
followed_good opener file line (Some word) reading opens good = opens file line word reading good

-- ---- without the rules that are removed

pub record GoodListing (listing : Listing) : Type 0 where
  pub items : AllByRecursion GoodItem listing.items
  pub apart : AreApart listing.items
  pub few : count_by is_rule listing.items ≤ 20000
  pub limit : Within 1 1073741824 (Some listing.request_limit)

kept_items : (removals : Removals) (list : List Item) → AllByRecursion GoodItem list → AllByRecursion GoodItem (kept removals list)
kept_items removals [] good = tt
kept_items removals (item ∷ list) good = kept_if (not (is_removed removals item)) item (kept removals list) good.0 (kept_items removals list good.1)
  where
    kept_if : (p : Bool) (item : Item) (rest : List Item) → GoodItem item → AllByRecursion GoodItem rest → AllByRecursion GoodItem (cond p (item ∷ rest) rest)
    kept_if true item rest is good = (is, good)
    kept_if false item rest is good = good

kept_none : (removals : Removals) (id : ℕ) (list : List Item) → has_id id list ≡ false → has_id id (kept removals list) ≡ false
kept_none removals id [] none = refl
kept_none removals id (item ∷ list) none =
    let parts = or_parts (is_rule_with id item) (has_id id list) none in
    none_if (not (is_removed removals item)) id item (kept removals list) parts.0 (kept_none removals id list parts.1)
  where
    none_if : (p : Bool) (id : ℕ) (item : Item) (rest : List Item) → is_rule_with id item ≡ false → has_id id rest ≡ false → has_id id (cond p (item ∷ rest) rest) ≡ false
    none_if true id item rest other none = or_from (is_rule_with id item) (has_id id rest) other none
    none_if false id item rest other none = none

apart_if : (p : Bool) (rule : Rule) (rest : List Item) → has_id rule.id rest ≡ false → AreApart rest → AreApart (cond p (items.Rule rule ∷ rest) rest)
apart_if true rule rest none apart = (none, apart)
apart_if false rule rest none apart = apart

kept_apart : (removals : Removals) (list : List Item) → AreApart list → AreApart (kept removals list)
kept_apart removals [] apart = tt
kept_apart removals (items.Rule rule ∷ list) apart = apart_if (not (is_removed removals (items.Rule rule))) rule (kept removals list) (kept_none removals rule.id list apart.0) (kept_apart removals list apart.1)
kept_apart removals (items.Marker label ∷ list) apart = kept_apart removals list apart

kept_few : (removals : Removals) (list : List Item) → count_by is_rule (kept removals list) ≤ count_by is_rule list
kept_few removals [] = omega arith
kept_few removals (item ∷ list) = few_if (not (is_removed removals item)) item (kept removals list) list (kept_few removals list)
  where
    few_if : (p : Bool) (item : Item) (rest list : List Item) → count_by is_rule rest ≤ count_by is_rule list → count_by is_rule (cond p (item ∷ rest) rest) ≤ count_by is_rule (item ∷ list)
    few_if true item rest list few =
        let one = sum_by-cons counted item rest in
        let other = sum_by-cons counted item list in
        omega (arith, one, other, few)
    few_if false item rest list few =
        let other = sum_by-cons counted item list in
        omega (arith, other, few)

effective_good : (reading : Reading) → GoodReading reading → GoodListing (effective reading)
effective_good reading good =
    let fewer = kept_few reading.removals reading.items in
    let few = good.few in
    record {
      items = kept_items reading.removals reading.items good.items;
      apart = kept_apart reading.removals reading.items good.apart;
      few = omega (arith, fewer, few);
      limit = good.limit;
    }

module _ (files : Named) (bytes : HoldBytes files)
    (directive_good : (file : List ℕ) (line : ℕ) (given : List (List ℕ)) (reading : Reading) → AllByRecursion IsSound given → GoodReading reading → Given GoodAnswer (directive files file line given reading)) where
  step_good : (opener : Opener) (file : List ℕ) (line : Line) (reading : Reading) → GoodOpener opener → FineLine line → GoodReading reading → Given GoodReading (line_step files opener file line reading)
  step_good opener file line reading opens fine good =
      given_bind (AllByRecursion IsSound) GoodReading (words_at file line.number (words line.text)) (λ given. directive files file line.number given reading >>= λ next. followed opener file line.number next.0 next.1)
      (words_placed file line.number (words line.text) (words_give line.text fine))
      (λ given are. given_bind GoodAnswer GoodReading (directive files file line.number given reading) (λ next. followed opener file line.number next.0 next.1) (directive_good file line.number given reading are good)
      (λ next h. followed_good opener file line.number next.0 next.1 opens h))

  lines_good : (opener : Opener) (file : List ℕ) (lines : List Line) (reading : Reading) → GoodOpener opener → AllByRecursion FineLine lines → GoodReading reading → Given GoodReading (lines_from files opener file lines reading)
  lines_good opener file [] reading opens fine good = unless_good GoodReading file reading.unfinished (Ok reading) (λ none. good)
  lines_good opener file (line ∷ lines) reading opens fine good =
      given_bind GoodReading GoodReading (line_step files opener file line reading) (λ after. lines_from files opener file lines after) (step_good opener file line reading opens fine.0 good)
      (λ after h. lines_good opener file lines after opens fine.1 h)

  -- ---- files

  -- its lines, and what was read by then
  abbrev IsOpened : List Line × Reading → Type 0
  IsOpened found = AllByRecursion FineLine found.0 × GoodReading found.1

  opened_good : (file : List ℕ) (line : ℕ) (word name : List ℕ) (o : Option (List ℕ)) (reading : Reading) → ((content : List ℕ) → o ≡ Some content → AreBytes content) → GoodReading reading → Given IsOpened (opened_text file line word name o reading)
  opened_good file line word name o reading are good =
      given_bind (λ (text : Text). AreBytes text.content) IsOpened (admitted file line word o reading.total) (opened_lines name reading) (admitted_gives file line word o reading.total are)
      (λ text all. given_bind (AllByRecursion FineLine) IsOpened (lines_at name (lines_of text.content)) (λ lines. Ok (lines, record reading { total = text.total })) (lines_placed name (lines_of text.content) (lines_give text.content all))
      (λ lines fine. (fine, good)))

  guarded_good : (opener : Opener) → GoodOpener opener → GoodOpener (guarded opener)
  guarded_good opener opens = λ file line word reading good. given_if GoodReading (has_wildcard word) _ (opener file line word reading) (λ h. tt) (λ h. opens file line word reading good)

  included_good : (depth : ℕ) → GoodOpener (included files depth)
  included_good zero = λ file line word reading good. tt
  included_good (suc depth) = λ file line word reading good.
      given_bind IsOpened GoodReading (opened_text file line word (beside file word) (files (beside file word)) reading) (λ found. lines_from files (guarded (included files depth)) (beside file word) found.0 found.1)
      (opened_good file line word (beside file word) (files (beside file word)) reading (bytes (beside file word)) good)
      (λ found h. lines_good (guarded (included files depth)) (beside file word) found.0 found.1 (guarded_good (included files depth) (included_good depth)) h.0 h.1)

  handed_good : (name : List ℕ) (reading : Reading) → GoodReading reading → Given GoodReading (handed_in files name reading)
  handed_good name reading good =
      given_bind IsOpened GoodReading (opened_text name 0 [] name (files name) reading) (λ found. lines_from files (opened files 8) name found.0 found.1) (opened_good name 0 [] name (files name) reading (bytes name) good)
      (λ found h. lines_good (opened files 8) name found.0 found.1 (guarded_good (included files 8) (included_good 8)) h.0 h.1)

  all_good : (names : List (List ℕ)) (reading : Reading) → GoodReading reading → Given GoodReading (all_handed_in files names reading)
  all_good [] reading good = good
  all_good (name ∷ names) reading good = given_bind GoodReading GoodReading (handed_in files name reading) (all_handed_in files names) (handed_good name reading good) (λ after h. all_good names after h)

  nothing_good : GoodReading nothing_read
  nothing_good = record { items = tt; apart = tt; few = omega arith; begun = tt; by_phase = first_defaults_good; limit = (omega arith, omega arith) }

  -- ---- the listing

  listing_good : (names : List (List ℕ)) → Given GoodListing (listing files names)
  unfolding listing
  listing_good names = given_bind GoodReading GoodListing (all_handed_in files names nothing_read) (λ reading. Ok (effective reading)) (all_good names nothing_read nothing_good) effective_good

  pub read_is_good : (names : List (List ℕ)) (found : Listing) → listing files names ≡ Ok found → GoodListing found
  read_is_good names found is = given_at GoodListing (listing files names) found (listing_good names) is
