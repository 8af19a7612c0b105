-- The text of a listing by its directives.
use Rattle.std.proofs.Common.{◌≡◌, ℕ, ◌+◌, ◌-◌, Bool, true, false, eqb, List, length, get_or, take, drop, arith, append-nil, length-append, [], ◌∷◌, ◌++◌, map, Ok, refl, sym, ap, ap₂, ◌∙◌, append_assoc, inl, inr, codes, decimal}
use Rattle.std.specs.Prelude.{not, ◌&&◌, ◌==◌}
use Rattle.std.specs.List.{All, AllByRecursion, flat_map, join_with_byte, suffix_len}
use Rattle.std.proofs.lemmas.Bool.{and_parts, cases_Bool, false≢true}
use Rattle.std.proofs.lemmas.List.{take_all}
use Rattle.std.proofs.lemmas.List.Elements.{All-append, All-cons, All-nil}
use Rattle.std.proofs.lemmas.List.Sums.{suffix_len_is}
use Rattle.std.proofs.Math.Seq.{get_or-append_seam}
use Rattle.sec_ast.specs.Print.{item_text, limit_action, listing_text, setting, settings_text}
use Rattle.sec_ast.specs.PrintActions.{link_pieces, switch_text}
use Rattle.sec_ast.specs.PrintRules.{condition_words, is_more, lines_behind, link_line}
use Rattle.sec_ast.specs.PrintTexts.{line_of}
use Rattle.sec_ast.specs.PrintTexts as print
use Rattle.sec_ast.specs.Settings.{engine_name}
use Rattle.sec_ast.specs.declared.link.Link.{Link}
use Rattle.sec_ast.specs.declared.listing.Item.{Item}
use Rattle.sec_ast.specs.declared.listing.Item.TheVariants as items
use Rattle.sec_ast.specs.declared.listing.Listing.{Listing}
use Rattle.sec_text.specs.Lines.{goes_on, is_line_feed, is_trimmed, trim, trim_end}
use Rattle.sec_text.specs.Words.{words}
use Rattle.sec_text.specs.Written.{ends_with_backslash}
use Rattle.sec_text.specs.WrittenLines.{IsWhole, numbered, written_lines}
use Rattle.sec_round_trip.specs.Directives.{Directive, IsSafe, directive_line, directives_behind, directives_of, has_no_feed, item_directives, link_directive, settings_of}
use Rattle.sec_round_trip.specs.Lines.{is_name, written}
use Rattle.sec_round_trip.proofs.Names.{no_prefix, not_false}

abbrev pub text_of : List Directive → List ℕ
text_of directives = written_lines (map directive_line directives)

pub text_append : (xs ys : List Directive) → text_of (xs ++ ys) ≡ text_of xs ++ text_of ys
text_append [] ys = refl
text_append (d ∷ xs) ys =
    ap (λ (l : List ℕ). directive_line d ++ (10 ∷ l)) (text_append xs ys) ∙ sym (append_assoc (directive_line d) (10 ∷ text_of xs) (text_of ys))

five : (a b c d e : Directive) → text_of (a ∷ b ∷ c ∷ d ∷ e ∷ []) ≡ text_of (a ∷ []) ++ text_of (b ∷ []) ++ text_of (c ∷ []) ++ text_of (d ∷ []) ++ text_of (e ∷ [])
five a b c d e =
    text_append (a ∷ b ∷ c ∷ d ∷ []) (e ∷ []) ∙ ap (λ (l : List ℕ). l ++ text_of (e ∷ []))
    (text_append (a ∷ b ∷ c ∷ []) (d ∷ []) ∙ ap (λ (l : List ℕ). l ++ text_of (d ∷ []))
    (text_append (a ∷ b ∷ []) (c ∷ []) ∙ ap (λ (l : List ℕ). l ++ text_of (c ∷ [])) (text_append (a ∷ []) (b ∷ []))))

setting_is : (name word : List ℕ) → setting name word ≡ text_of ((name, word ∷ []) ∷ [])
unfolding setting line_of
setting_is name word = refl

settings_are : (listing : Listing) → settings_text listing ≡ text_of (settings_of listing)
unfolding settings_text
settings_are listing =
    ap₂ ◌++◌ (ap₂ ◌++◌ (ap₂ ◌++◌ (ap₂ ◌++◌ (setting_is _ _) (setting_is _ _)) (setting_is _ _)) (setting_is _ _)) (setting_is _ _)
    ∙ sym (five (codes "SecRuleEngine", engine_name listing.engine ∷ []) (codes "SecRequestBodyAccess", switch_text listing.request_body ∷ [])
    (codes "SecRequestBodyLimit", decimal listing.request_limit ∷ []) (codes "SecRequestBodyLimitAction", limit_action listing.limit_reject ∷ [])
    (codes "SecResponseBodyAccess", switch_text listing.response_body ∷ []))

link_is : (link : Link) (actions : List ℕ) → link_line link actions ≡ directive_line (link_directive link actions) ++ 10 ∷ []
unfolding link_line line_of
link_is link actions = elim (cases_Bool link.always) [
  | inl is ↦ rw is refl
  | inr not_is ↦ rw not_is refl
]

links_are : (pieces : List (List ℕ)) (links : List Link) → lines_behind pieces links ≡ text_of (directives_behind pieces links)
unfolding lines_behind directives_behind
links_are pieces [] = refl
links_are pieces (link ∷ links) =
    let actions = join_with_byte 44 (pieces ++ link_pieces link (is_more links)) in
    ap₂ ◌++◌ (link_is link actions) (links_are [] links)
    ∙ append_assoc (directive_line (link_directive link actions)) (10 ∷ []) (text_of (directives_behind [] links))

marker_is : (label : List ℕ) → line_of (codes "SecMarker") (label ∷ []) ≡ text_of ((codes "SecMarker", label ∷ []) ∷ [])
unfolding line_of
marker_is label = refl

item_is : (item : Item) → item_text item ≡ text_of (item_directives item)
item_is (items.Rule rule) = links_are _ _
item_is (items.Marker label) = marker_is label

items_are : (list : List Item) → flat_map item_text list ≡ text_of (flat_map item_directives list)
items_are [] = refl
items_are (item ∷ list) = ap₂ ◌++◌ (item_is item) (items_are list) ∙ sym (text_append (item_directives item) (flat_map item_directives list))

pub listing_is : (listing : Listing) → listing_text listing ≡ text_of (directives_of listing)
unfolding listing_text directives_of
listing_is listing = ap₂ ◌++◌ (settings_are listing) (items_are listing.items) ∙ sym (text_append (settings_of listing) (flat_map item_directives listing.items))

-- ---- the words of each line

abbrev pub is_some : {A : Type 0} → List A → Bool
is_some [] = false
is_some (x ∷ xs) = true

abbrev pub begins_plainly : List ℕ → Bool
begins_plainly [] = false
begins_plainly (b ∷ name) = not (is_trimmed b) && not (b == 35)

-- a plain name without a line feed, and some word
abbrev pub is_fit : Directive → Bool
is_fit directive = is_name directive.0 && begins_plainly directive.0 && has_no_feed directive.0 && is_some directive.1

abbrev pub IsFit : Directive → Type 0
IsFit directive = is_fit directive ≡ true

fit_append : (xs ys : List Directive) → AllByRecursion IsFit xs → AllByRecursion IsFit ys → AllByRecursion IsFit (xs ++ ys)
fit_append [] ys a b = b
fit_append (d ∷ xs) ys a b = (a.0, fit_append xs ys a.1 b)

condition_fit : (link : Link) (actions : List ℕ) → is_fit (codes "SecRule", condition_words link actions) ≡ true
condition_fit link [] = refl
condition_fit link (b ∷ actions) = refl

link_fit : (link : Link) (actions : List ℕ) → IsFit (link_directive link actions)
link_fit link actions = elim (cases_Bool link.always) [
  | inl is ↦ rw is refl
  | inr not_is ↦ rw not_is (condition_fit link actions)
]

links_fit : (pieces : List (List ℕ)) (links : List Link) → AllByRecursion IsFit (directives_behind pieces links)
unfolding directives_behind
links_fit pieces [] = tt
links_fit pieces (link ∷ links) = (link_fit link _, links_fit [] links)

item_fit : (item : Item) → AllByRecursion IsFit (item_directives item)
item_fit (items.Rule rule) = links_fit _ _
item_fit (items.Marker label) = (refl, tt)

items_fit : (list : List Item) → AllByRecursion IsFit (flat_map item_directives list)
items_fit [] = tt
items_fit (item ∷ list) = fit_append (item_directives item) (flat_map item_directives list) (item_fit item) (items_fit list)

pub all_fit : (listing : Listing) → AllByRecursion IsFit (directives_of listing)
unfolding directives_of
all_fit listing = fit_append (settings_of listing) (flat_map item_directives listing.items) (refl, (refl, (refl, (refl, (refl, tt))))) (items_fit listing.items)

abbrev pub AreSafe : Directive → Type 0
AreSafe directive = AllByRecursion IsSafe directive.1

-- what a fit directive with safe words is, part by part
pub record Form (directive : Directive) : Type 0 where
  pub name : is_name directive.0 ≡ true
  pub begins : begins_plainly directive.0 ≡ true
  pub feed : has_no_feed directive.0 ≡ true
  pub some : is_some directive.1 ≡ true

pub form_of : (d : Directive) → IsFit d → Form d
form_of d h =
    let one = and_parts (is_name d.0 && begins_plainly d.0 && has_no_feed d.0) (is_some d.1) h in
    let two = and_parts (is_name d.0 && begins_plainly d.0) (has_no_feed d.0) one.0 in
    let three = and_parts (is_name d.0) (begins_plainly d.0) two.0 in
    record { name = three.0; begins = three.1; feed = two.1; some = one.1 }

pub ends_of : (words : List (List ℕ)) → AllByRecursion IsSafe words → AllByRecursion (λ word. ends_with_backslash word ≡ false) words
ends_of [] safe = tt
ends_of (word ∷ words) safe = (safe.0.1, ends_of words safe.1)

pub words_are : ((name : List ℕ) (given : List (List ℕ)) → is_name name ≡ true → AllByRecursion (λ word. ends_with_backslash word ≡ false) given → words (written name given) ≡ Ok (name ∷ given))
    → (n : ℕ) (ds : List Directive) → AllByRecursion IsFit ds → AllByRecursion AreSafe ds
    → map (λ line. words line.text) (numbered n (map directive_line ds)) ≡ map (λ (d : Directive). Ok (d.0 ∷ d.1)) ds
words_are law n [] fit safe = refl
words_are law n (d ∷ ds) fit safe = ap₂ ◌∷◌ (law d.0 d.1 (form_of d fit.0).name (ends_of d.1 safe.0)) (words_are law (n + 1) ds fit.1 safe.1)

-- ---- each line stands as it is

abbrev pub NoFeed : ℕ → Type 0
NoFeed b = is_line_feed b ≡ false

no_feed : (text : List ℕ) → has_no_feed text ≡ true → All NoFeed text
no_feed [] h = All-nil NoFeed
no_feed (b ∷ text) h =
    let parts = and_parts (not (is_line_feed b)) (has_no_feed text) h in
    All-cons NoFeed b text (not_false (is_line_feed b) parts.0) (no_feed text parts.1)

one_byte : (b : ℕ) → NoFeed b → All NoFeed (b ∷ [])
one_byte b h = All-cons NoFeed b [] h (All-nil NoFeed)

marked_feed : (b : ℕ) → NoFeed b → All NoFeed (print.marked 34 b)
marked_feed b h = elim (cases_Bool (eqb b 34)) [
  | inl is ↦ rw is (All-cons NoFeed 92 (b ∷ []) refl (one_byte b h))
  | inr not_is ↦ rw not_is (one_byte b h)
]

escaped_feed : (text : List ℕ) → has_no_feed text ≡ true → All NoFeed (print.escaped 34 text)
escaped_feed [] h = All-nil NoFeed
escaped_feed (b ∷ text) h =
    let parts = and_parts (not (is_line_feed b)) (has_no_feed text) h in
    All-append NoFeed (print.marked 34 b) (print.escaped 34 text) (marked_feed b (not_false (is_line_feed b) parts.0)) (escaped_feed text parts.1)

spread_feed : (word : List ℕ) → has_no_feed word ≡ true → All NoFeed (print.spread word)
spread_feed word h =
    All-cons NoFeed 32 (print.in_quotes 34 word) refl
    (All-append NoFeed (34 ∷ print.escaped 34 word) (34 ∷ []) (All-cons NoFeed 34 (print.escaped 34 word) refl (escaped_feed word h)) (one_byte 34 refl))

words_feed : (words : List (List ℕ)) → AllByRecursion IsSafe words → All NoFeed (flat_map print.spread words)
words_feed [] safe = All-nil NoFeed
words_feed (word ∷ words) safe = All-append NoFeed (print.spread word) (flat_map print.spread words) (spread_feed word safe.0.0) (words_feed words safe.1)

-- what stands before the last quote
abbrev pub front_of : List ℕ → List (List ℕ) → List ℕ
front_of word [] = 32 ∷ 34 ∷ print.escaped 34 word
front_of word (next ∷ words) = print.spread word ++ front_of next words

quote_ends : (word : List ℕ) (words : List (List ℕ)) → flat_map print.spread (word ∷ words) ≡ front_of word words ++ 34 ∷ []
quote_ends word [] = append-nil (print.spread word)
quote_ends word (next ∷ words) =
    ap (λ (l : List ℕ). print.spread word ++ l) (quote_ends next words) ∙ sym (append_assoc (print.spread word) (front_of next words) (34 ∷ []))

at_last : (front : List ℕ) → get_or (front ++ 34 ∷ []) (length (front ++ 34 ∷ []) - 1) 0 ≡ 34
at_last front =
    let long : length (front ++ 34 ∷ []) ≡ length front + 1 = length-append front (34 ∷ []) in
    let place : length (front ++ 34 ∷ []) - 1 ≡ length front = omega (arith, long) in
    ap (λ n. get_or (front ++ 34 ∷ []) n 0) place ∙ get_or-append_seam front 34 [] 0

no_suffix : (front : List ℕ) → suffix_len is_trimmed (front ++ 34 ∷ []) ≡ 0
no_suffix front =
    let xs : List ℕ = front ++ 34 ∷ [] in
    let none : suffix_len is_trimmed xs ≡ length xs - length xs = suffix_len_is is_trimmed xs (length xs) 0 (omega arith) (λ k low high. absurd (omega (arith, low, high))) (λ some. ap is_trimmed (at_last front)) in
    omega (arith, none)

trimmed : (b : ℕ) (rest front : List ℕ) → is_trimmed b ≡ false → b ∷ rest ≡ front ++ 34 ∷ [] → trim (b ∷ rest) ≡ b ∷ rest
trimmed b rest front h is =
    let none : suffix_len is_trimmed (b ∷ rest) ≡ 0 = ap (suffix_len is_trimmed) is ∙ no_suffix front in
    ap (λ n. trim_end (drop n (b ∷ rest))) (no_prefix is_trimmed b rest h)
    ∙ (ap (λ n. take (length (b ∷ rest) - n) (b ∷ rest)) none ∙ take_all (length (b ∷ rest) - 0) (b ∷ rest) (omega arith))

ended : (text front : List ℕ) → text ≡ front ++ 34 ∷ [] → goes_on text ≡ false
ended text front is = ap goes_on is ∙ ap (λ c. c == 92) (at_last front)

whole_line : (d : Directive) → Form d → AllByRecursion IsSafe d.1 → IsWhole (directive_line d)
whole_line ([], words) form safe = absurd (false≢true form.begins)
whole_line (b ∷ name, []) form safe = absurd (false≢true form.some)
whole_line (b ∷ name, word ∷ words) form safe =
    let begins = and_parts (not (is_trimmed b)) (not (b == 35)) form.begins in
    let line : List ℕ = b ∷ (name ++ flat_map print.spread (word ∷ words)) in
    let front : List ℕ = (b ∷ name) ++ front_of word words in
    let is : line ≡ front ++ 34 ∷ [] = ap (λ (l : List ℕ). (b ∷ name) ++ l) (quote_ends word words) ∙ sym (append_assoc (b ∷ name) (front_of word words) (34 ∷ [])) in
    record {
      no_feed = All-append NoFeed (b ∷ name) (flat_map print.spread (word ∷ words)) (no_feed (b ∷ name) form.feed) (words_feed (word ∷ words) safe);
      kept = trimmed b (name ++ flat_map print.spread (word ∷ words)) front (not_false (is_trimmed b) begins.0) is;
      begins = not_false (b == 35) begins.1;
      ends = ended line front is;
    }

pub lines_whole : (ds : List Directive) → AllByRecursion IsFit ds → AllByRecursion AreSafe ds → AllByRecursion IsWhole (map directive_line ds)
lines_whole [] fit safe = tt
lines_whole (d ∷ ds) fit safe = (whole_line d (form_of d fit.0) safe.0, lines_whole ds fit.1 safe.1)
