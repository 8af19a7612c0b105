-- A printed listing is read back, but for the places of its rules.
use Rattle.std.proofs.Common.{◌≡◌, ℕ, ◌+◌, ◌≤◌, true, false, List, [], ◌∷◌, ◌++◌, map, length, Option, Some, None, Result, Ok, refl, sym, ap, ◌∙◌, arith, append_assoc, append-nil, subst}
use Rattle.std.specs.List.{AllByRecursion, count_by, flat_map}
use Rattle.std.specs.Str.{is_utf8}
use Rattle.std.proofs.lemmas.Bool.{le-ltb, lt-leb, or_parts}
use Rattle.std.proofs.lemmas.List.Sums.{sum_by-append, sum_by-cons}
use Rattle.sec_ast.specs.Print.{item_text, listing_text, settings_text}
use Rattle.sec_ast.specs.PrintActions.{rule_pieces}
use Rattle.sec_ast.specs.PrintRules.{rule_text}
use Rattle.sec_ast.specs.declared.listing.Item.{Item}
use Rattle.sec_ast.specs.declared.listing.Item.TheVariants as items
use Rattle.sec_ast.specs.declared.listing.Listing.{Listing}
use Rattle.sec_ast.specs.declared.rule.Rule.{Rule}
use Rattle.sec_text.specs.Lines.{first_long, lines_of, logical}
use Rattle.sec_text.specs.Words.{words}
use Rattle.sec_text.specs.Written.{ends_with_backslash}
use Rattle.sec_text.specs.WrittenLines.{numbered}
use Rattle.sec_text.specs.declared.line.Line.{Line}
use Rattle.sec_parts.specs.Results.{◌>>=◌}
use Rattle.sec_read.specs.declared.faults.Found.{Found}
use Rattle.sec_read.specs.declared.reading.Reading.{Reading}
use Rattle.sec_read.specs.declared.settings.Settings.{Settings}
use Rattle.sec_read.specs.FileWords.{Named}
use Rattle.sec_read.specs.Items.{has_id, is_full, is_rule, is_rule_with}
use Rattle.sec_read.specs.Listing.{handed_in, lines_from, listing, nothing_read, opened, opened_text}
use Rattle.sec_read.specs.Removals.{kept, names_tag, no_removals}
use Rattle.sec_read.specs.Settings.{first_settings}
use Rattle.sec_round_trip.specs.Directives.{Directive, directive_line, directives_behind, directives_of, item_directives, settings_of}
use Rattle.sec_round_trip.specs.Lines.{is_name, written}
use Rattle.sec_round_trip.specs.Printable.{AreApart, IsItem, IsPrintable, IsRule, IsShort, in_place, placed}
use Rattle.sec_round_trip.proofs.Directives.{AreSafe, IsFit, ends_of, form_of}
use Rattle.sec_round_trip.proofs.Identifiers.{counted, none_push, other_id}
use Rattle.sec_round_trip.proofs.LineSteps.{Do, HasWords, do_append, lines_read}
use Rattle.sec_round_trip.proofs.RuleTexts.{lines_of_rule}
use Rattle.sec_round_trip.proofs.SettingTexts.{marker_does, settings_in, so_far}

-- ---- identifiers are new, and rules not too many

-- no rule of the second list has the identifier of one of the first
abbrev AreNew : List Item → List Item → Type 0
AreNew list [] = Unit {0}
AreNew list (items.Rule rule ∷ rest) = (has_id rule.id list ≡ false) × AreNew list rest
AreNew list (items.Marker label ∷ rest) = AreNew list rest

all_new : (rest : List Item) → AreNew [] rest
all_new [] = tt
all_new (items.Rule rule ∷ rest) = (refl, all_new rest)
all_new (items.Marker label ∷ rest) = all_new rest

new_marker : (list : List Item) (label : List ℕ) (rest : List Item) → AreNew list rest → AreNew (list ++ items.Marker label ∷ []) rest
new_marker list label [] new = tt
new_marker list label (items.Rule rule ∷ rest) new = (none_push rule.id list (items.Marker label) new.0 refl, new_marker list label rest new.1)
new_marker list label (items.Marker other ∷ rest) new = new_marker list label rest new

new_rule : (list : List Item) (rule : Rule) (rest : List Item) → AreNew list rest → has_id rule.id rest ≡ false → AreNew (list ++ items.Rule rule ∷ []) rest
new_rule list rule [] new none = tt
new_rule list rule (items.Rule next ∷ rest) new none =
    let parts = or_parts (is_rule_with rule.id (items.Rule next)) (has_id rule.id rest) none in
    (none_push next.id list (items.Rule rule) new.0 (other_id next.id rule.id parts.0), new_rule list rule rest new.1 parts.1)
new_rule list rule (items.Marker label ∷ rest) new none = new_rule list rule rest new none

rule_more : (list : List Item) (rule : Rule) (rest : List Item) → count_by is_rule list + count_by is_rule (items.Rule rule ∷ rest) ≤ 20000 → count_by is_rule (list ++ items.Rule rule ∷ []) + count_by is_rule rest ≤ 20000
rule_more list rule rest few =
    let pushed = sum_by-append counted list (items.Rule rule ∷ []) in
    let first = sum_by-cons counted (items.Rule rule) rest in
    omega (arith, few, pushed, first)

marker_more : (list : List Item) (label : List ℕ) (rest : List Item) → count_by is_rule list + count_by is_rule (items.Marker label ∷ rest) ≤ 20000 → count_by is_rule (list ++ items.Marker label ∷ []) + count_by is_rule rest ≤ 20000
marker_more list label rest few =
    let pushed = sum_by-append counted list (items.Marker label ∷ []) in
    let first = sum_by-cons counted (items.Marker label) rest in
    omega (arith, few, pushed, first)

has_room : (list : List Item) (rule : Rule) (rest : List Item) → count_by is_rule list + count_by is_rule (items.Rule rule ∷ rest) ≤ 20000 → is_full list ≡ false
has_room list rule rest few =
    let first = sum_by-cons counted (items.Rule rule) rest in
    lt-leb 20000 (count_by is_rule list) (omega (arith, few, first))

none_before : (n : ℕ) → n ≤ 20000 → 0 + n ≤ 20000
none_before n few = omega (arith, few)

-- ---- items one after the other

module _ (files : Named) (file : List ℕ) (settings : Settings) (total : ℕ)
    (rule_does : (n : ℕ) (rule : Rule) (list : List Item) → IsRule rule → has_id rule.id list ≡ false → is_full list ≡ false
    → Do files file n (directives_behind (rule_pieces rule) rule.links) (so_far settings total list None) (so_far settings total (list ++ items.Rule (record rule { place = record { file = file; line = n } }) ∷ []) None)) where
  abbrev to : ℕ → List Item → List Item → List Item → Type 0
  to n rest list all = Do files file n (flat_map item_directives rest) (so_far settings total list None) (so_far settings total all None)

  pub items_do : (n : ℕ) (list rest : List Item) → AllByRecursion IsItem rest → AreApart rest → AreNew list rest → count_by is_rule list + count_by is_rule rest ≤ 20000 → to n rest list (list ++ placed file n rest)
  items_do n list [] are apart new few = ap (λ (l : List Item). so_far settings total l None) (sym (append-nil list))
  items_do n list (items.Rule rule ∷ rest) are apart new few =
      let rule_here : Rule = record rule { place = record { file = file; line = n } } in
      let mid : List Item = list ++ items.Rule rule_here ∷ [] in
      let behind : ℕ = n + length rule.links in
      let rest_do : to behind rest mid (mid ++ placed file behind rest) =
      items_do behind mid rest are.1 apart.1 (new_rule list rule_here rest new.1 apart.0) (rule_more list rule_here rest few) in
      let grouped : to behind rest mid (list ++ items.Rule rule_here ∷ placed file behind rest) = subst (λ (l : List Item). to behind rest mid l) (append_assoc list (items.Rule rule_here ∷ []) (placed file behind rest)) rest_do in
      let after : Reading = so_far settings total (list ++ items.Rule rule_here ∷ placed file behind rest) None in
      do_append files file n (directives_behind (rule_pieces rule) rule.links) (flat_map item_directives rest) (so_far settings total list None) (so_far settings total mid None) after
      (rule_does n rule list are.0 new.0 (has_room list rule rest few))
      (subst (λ k. Do files file k (flat_map item_directives rest) (so_far settings total mid None) after) (sym (lines_of_rule n (rule_pieces rule) rule.links)) grouped)
  items_do n list (items.Marker label ∷ rest) are apart new few =
      let mid : List Item = list ++ items.Marker label ∷ [] in
      let rest_do : to (n + 1) rest mid (mid ++ placed file (n + 1) rest) = items_do (n + 1) mid rest are.1 apart (new_marker list label rest new) (marker_more list label rest few) in (
        so_far settings total mid None,
        marker_does files file n total settings list label,
        subst (λ (l : List Item). to (n + 1) rest mid l) (append_assoc list (items.Marker label ∷ []) (placed file (n + 1) rest)) rest_do,
      )

-- ---- nothing is removed

no_tag : (tags : List (List ℕ)) → names_tag [] tags ≡ false
no_tag [] = refl
no_tag (tag ∷ tags) = no_tag tags

all_kept : (list : List Item) → kept no_removals list ≡ list
all_kept [] = refl
all_kept (items.Rule rule ∷ list) = rw (no_tag rule.tags) (ap (λ (l : List Item). items.Rule rule ∷ l) (all_kept list))
all_kept (items.Marker label ∷ list) = ap (λ (l : List Item). items.Marker label ∷ l) (all_kept list)

-- ---- the file is opened

none_long : (n : ℕ) (ds : List Directive) → AllByRecursion IsShort ds → first_long (numbered n (map directive_line ds)) ≡ None
none_long n [] short = refl
none_long n (d ∷ ds) short = rw (le-ltb 65536 (length (directive_line d)) short.0) (none_long (n + 1) ds short.1)

lines_are : (text : List ℕ) (lines : List Line) → is_utf8 text ≡ true → logical text ≡ lines → first_long lines ≡ None → lines_of text ≡ Ok lines
unfolding lines_of
lines_are text lines utf8 is short = rw (utf8, is, short) refl

file_opened : (name text : List ℕ) (lines : List Line) (content : Option (List ℕ)) → content ≡ Some text → length text ≤ 4194304 → lines_of text ≡ Ok lines
    → opened_text name 0 [] name content nothing_read ≡ Ok (lines, record nothing_read { total = 0 + length text })
file_opened name text lines content is small read =
    let all : 0 + length text ≤ 16777216 = omega (arith, small) in
    rw (is, le-ltb 4194304 (length text) small, le-ltb 16777216 (0 + length text) all, read) refl

-- ---- the words of its lines

pub words_each : ((name : List ℕ) (given : List (List ℕ)) → is_name name ≡ true → AllByRecursion (λ word. ends_with_backslash word ≡ false) given → words (written name given) ≡ Ok (name ∷ given))
    → (ds : List Directive) → AllByRecursion IsFit ds → AllByRecursion AreSafe ds → AllByRecursion HasWords ds
words_each law [] fit safe = tt
words_each law (d ∷ ds) fit safe = (law d.0 d.1 (form_of d fit.0).name (ends_of d.1 safe.0), words_each law ds fit.1 safe.1)

-- ---- the listing

module _ (logical_is : (l : Listing) → IsPrintable l → logical (listing_text l) ≡ numbered 1 (map directive_line (directives_of l)))
    (words_are : (l : Listing) → IsPrintable l → AllByRecursion HasWords (directives_of l))
    (settings_do : (files : Named) (file : List ℕ) (n total : ℕ) (l : Listing) → (1 ≤ l.request_limit) × (l.request_limit ≤ 1073741824) → Do files file n (settings_of l) (so_far first_settings total [] None) (so_far (settings_in l) total [] None))
    (rule_does : (files : Named) (file : List ℕ) (settings : Settings) (total n : ℕ) (rule : Rule) (list : List Item) → IsRule rule → has_id rule.id list ≡ false → is_full list ≡ false
    → Do files file n (directives_behind (rule_pieces rule) rule.links) (so_far settings total list None) (so_far settings total (list ++ items.Rule (record rule { place = record { file = file; line = n } }) ∷ []) None)) where
  all_do : (files : Named) (file : List ℕ) (total : ℕ) (l : Listing) → IsPrintable l
      → Do files file 1 (directives_of l) (so_far first_settings total [] None) (so_far (settings_in l) total (placed file 6 l.items) None)
  unfolding directives_of
  all_do files file total l is =
      do_append files file 1 (settings_of l) (flat_map item_directives l.items) (so_far first_settings total [] None) (so_far (settings_in l) total [] None) (so_far (settings_in l) total (placed file 6 l.items) None)
      (settings_do files file 1 total l is.limit)
      (items_do files file (settings_in l) total (rule_does files file (settings_in l) total) 6 [] l.items is.items is.apart (all_new l.items) (none_before (count_by is_rule l.items) is.few))

  file_read : (files : Named) (name : List ℕ) (l : Listing) → IsPrintable l → files name ≡ Some (listing_text l)
      → handed_in files name nothing_read ≡ Ok (so_far (settings_in l) (0 + length (listing_text l)) (placed name 6 l.items) None)
  file_read files name l is content =
      let text : List ℕ = listing_text l in
      let ds : List Directive = directives_of l in
      let lines : List Line = numbered 1 (map directive_line ds) in
      let read : lines_of text ≡ Ok lines = lines_are text lines is.text (logical_is l is) (none_long 1 ds is.limits.lines) in
      ap (λ (r : Result (List Line × Reading) Found). r >>= λ found. lines_from files (opened files 8) name found.0 found.1) (file_opened name text lines (files name) content is.limits.size read)
      ∙ lines_read files (opened files 8) name 1 ds (so_far first_settings (0 + length text) [] None) (so_far (settings_in l) (0 + length text) (placed name 6 l.items) None) (words_are l is) (all_do files name (0 + length text) l is)

  pub listing_again : (files : Named) (name : List ℕ) (l : Listing) → IsPrintable l → files name ≡ Some (listing_text l) → listing files (name ∷ []) ≡ Ok (in_place name l)
  unfolding listing
  listing_again files name l is content =
      rw (file_read files name l is content) (ap (λ (list : List Item). Ok (record l { items = list })) (all_kept (placed name 6 l.items)))

-- ---- places are not printed

places_left_out : (file : List ℕ) (n : ℕ) (list : List Item) → flat_map item_text (placed file n list) ≡ flat_map item_text list
unfolding rule_pieces
places_left_out file n [] = refl
places_left_out file n (items.Rule rule ∷ list) = ap (λ (l : List ℕ). rule_text rule ++ l) (places_left_out file (n + length rule.links) list)
places_left_out file n (items.Marker label ∷ list) = ap (λ (l : List ℕ). item_text (items.Marker label) ++ l) (places_left_out file (n + 1) list)

pub same_text : (file : List ℕ) (l : Listing) → listing_text (in_place file l) ≡ listing_text l
unfolding listing_text settings_text
same_text file l = ap (λ (t : List ℕ). settings_text l ++ t) (places_left_out file 6 l.items)
