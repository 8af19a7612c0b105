-- Rules are read link by link.
use Rattle.std.proofs.Common.{◌≡◌, ℕ, ◌+◌, ◌≤◌, Bool, true, false, List, [], ◌∷◌, ◌++◌, map, length, Option, Some, None, Ok, refl, sym, ap, ◌∙◌, arith, append_assoc, length-append, subst, inl, inr, codes}
use Rattle.std.specs.Prelude.{if◌then◌else◌, ◌==◌, nat_le, unwrap_or}
use Rattle.std.specs.List.{AllByRecursion, join_with_byte}
use Rattle.std.proofs.lemmas.Bool.{cases_Bool, eqb-true, false≢true, lt-leb}
use Rattle.sec_ast.specs.PrintActions.{ctl_text, if_set, link_pieces, rule_pieces, setvar_text, transform_text}
use Rattle.sec_ast.specs.declared.listing.Item.{Item}
use Rattle.sec_ast.specs.declared.listing.Item.TheVariants as items
use Rattle.sec_ast.specs.declared.link.Link.{Link}
use Rattle.sec_ast.specs.declared.rule.Rule.{Rule}
use Rattle.sec_parts.specs.declared.acts.Acts.{Acts}
use Rattle.sec_parts.specs.declared.kinds.Stand.{Stand}
use Rattle.sec_parts.specs.declared.kinds.Stand.TheVariants as stands
use Rattle.sec_parts.specs.Acts.{actions_in, no_acts}
use Rattle.sec_read.specs.declared.defaults.PhaseDefault.{PhaseDefault}
use Rattle.sec_read.specs.declared.modes.PatternMode.TheVariants as modes
use Rattle.sec_read.specs.declared.reading.Reading.{Reading}
use Rattle.sec_read.specs.declared.reading.Unfinished.{Unfinished}
use Rattle.sec_read.specs.declared.settings.Settings.{Settings}
use Rattle.sec_read.specs.Defaults.{default_at, first_default, first_defaults}
use Rattle.sec_read.specs.FileWords.{Named}
use Rattle.sec_read.specs.Items.{has_id, is_full}
use Rattle.sec_read.specs.Links.{further_link, linked, rule_of, stand_of, with_rule}
use Rattle.sec_read.specs.Steps.{directive, on}
use Rattle.sec_round_trip.specs.Actions.{IsHead, IsTail, has_pieces, of_rule, unless_zero, with_link}
use Rattle.sec_round_trip.specs.Directives.{directives_behind, link_directive}
use Rattle.sec_round_trip.specs.Printable.{IsCondition, IsLink, IsRule}
use Rattle.sec_round_trip.specs.Targets.{is_empty}
use Rattle.sec_round_trip.proofs.LineSteps.{Do, Does, line_behind}
use Rattle.sec_round_trip.proofs.LinkTexts.{Tells, condition_of}
use Rattle.sec_round_trip.proofs.SettingTexts.{so_far}
use Rattle.sec_round_trip.proofs.Somes.{some_front}

-- ---- what the pieces of a link say, also where there are none

-- each piece has some byte
abbrev AreSome : List (List ℕ) → Type 0
AreSome pieces = AllByRecursion (λ piece. is_empty piece ≡ false) pieces

some_append : (xs ys : List (List ℕ)) → AreSome xs → AreSome ys → AreSome (xs ++ ys)
some_append [] ys a b = b
some_append (x ∷ xs) ys a b = (a.0, some_append xs ys a.1 b)

some_mapped : {X : Type 0} (text : X → List ℕ) → ((x : X) → is_empty (text x) ≡ false) → (xs : List X) → AreSome (map text xs)
some_mapped text some [] = tt
some_mapped text some (x ∷ xs) = (some x, some_mapped text some xs)

some_set : (name : List ℕ) (is_set : Bool) → is_empty name ≡ false → AreSome (if_set name is_set)
some_set name true some = (some, tt)
some_set name false some = tt

link_some : (link : Link) (follows : Bool) → AreSome (link_pieces link follows)
unfolding link_pieces
link_some link follows =
    let t : List (List ℕ) = map transform_text link.transforms in
    let c : List (List ℕ) = if_set (codes "capture") link.capture in
    let m : List (List ℕ) = if_set (codes "multiMatch") link.multi in
    let v : List (List ℕ) = map setvar_text link.setvars in
    let s : List (List ℕ) = map ctl_text link.ctls in
    some_append (t ++ c ++ m ++ v ++ s) (if_set (codes "chain") follows)
    (some_append (t ++ c ++ m ++ v) s (some_append (t ++ c ++ m) v (some_append (t ++ c) m (some_append t c (some_mapped transform_text (λ x. refl) link.transforms) (some_set _ link.capture refl)) (some_set _ link.multi refl)) (some_mapped setvar_text (λ x. refl) link.setvars)) (some_mapped ctl_text (λ x. refl) link.ctls))
    (some_set _ follows refl)

none_left : (xs ys : List (List ℕ)) → has_pieces (xs ++ ys) ≡ false → (xs ≡ []) × (ys ≡ [])
none_left [] ys h = (refl, empty ys h)
  where
    empty : (ys : List (List ℕ)) → has_pieces ys ≡ false → ys ≡ []
    empty [] h = refl
    empty (y ∷ ys) h = absurd (false≢true (sym h))
none_left (x ∷ xs) ys h = absurd (false≢true (sym h))

none_mapped : {X : Type 0} (text : X → List ℕ) (xs : List X) → map text xs ≡ [] → xs ≡ []
none_mapped text [] h = refl
none_mapped text (x ∷ xs) h = absurd cc

none_set : (name : List ℕ) (is_set : Bool) → if_set name is_set ≡ [] → is_set ≡ false
none_set name true h = absurd cc
none_set name false h = refl

says_nothing : (link : Link) (follows : Bool) → has_pieces (link_pieces link follows) ≡ false → with_link link follows no_acts ≡ no_acts
unfolding link_pieces
says_nothing link follows none =
    let t : List (List ℕ) = map transform_text link.transforms in
    let c : List (List ℕ) = if_set (codes "capture") link.capture in
    let m : List (List ℕ) = if_set (codes "multiMatch") link.multi in
    let v : List (List ℕ) = map setvar_text link.setvars in
    let s : List (List ℕ) = map ctl_text link.ctls in
    let one = none_left (t ++ c ++ m ++ v ++ s) (if_set (codes "chain") follows) none in
    let two = none_left (t ++ c ++ m ++ v) s (ap has_pieces one.0) in
    let three = none_left (t ++ c ++ m) v (ap has_pieces two.0) in
    let four = none_left (t ++ c) m (ap has_pieces three.0) in
    let five = none_left t c (ap has_pieces four.0) in
    rw (none_set _ follows one.1, none_mapped ctl_text link.ctls two.1, none_mapped setvar_text link.setvars three.1, none_set _ link.multi four.1, none_set _ link.capture five.1, none_mapped transform_text link.transforms five.0) refl

-- some pieces with some bytes join to some bytes
joined_some : (pieces : List (List ℕ)) → AreSome pieces → has_pieces pieces ≡ true → is_empty (join_with_byte 44 pieces) ≡ false
joined_some [] some h = absurd (false≢true h)
joined_some (piece ∷ []) some h = some.0
joined_some (piece ∷ next ∷ pieces) some h = some_front piece (44 ∷ join_with_byte 44 (next ∷ pieces)) some.0

joined_none : (pieces : List (List ℕ)) → has_pieces pieces ≡ false → join_with_byte 44 pieces ≡ []
joined_none [] h = refl
joined_none (piece ∷ pieces) h = absurd (false≢true (sym h))

tells_some : (stand : Stand) (actions : List ℕ) (acts : Acts) → is_empty actions ≡ false → actions_in stand actions ≡ Ok acts → Tells stand actions acts
tells_some stand [] acts some says = absurd (false≢true (sym some))
tells_some stand (b ∷ actions) acts some says = says

head_some : (rule : Rule) (more : List (List ℕ)) → is_empty (join_with_byte 44 (rule_pieces rule ++ more)) ≡ false
unfolding rule_pieces
head_some rule more = refl

-- ---- defaults play no part

either_way : {X : Type 0} (p : Bool) (x y : X) → y ≡ x → (if p then x else y) ≡ x
either_way true x y h = refl
either_way false x y h = h

default_is : (phase : ℕ) → default_at phase first_defaults ≡ first_default
unfolding default_at
default_is phase =
    either_way (phase == 1) first_default _ (either_way (phase == 2) first_default _ (either_way (phase == 3) first_default _ (either_way (phase == 4) first_default first_default refl)))

status_is : (n : ℕ) → unwrap_or (unless_zero n) 0 ≡ n
status_is n = elim (cases_Bool (n == 0)) [
  | inl is ↦ rw is (sym (eqb-true n 0 is))
  | inr not_is ↦ rw not_is refl
]

-- a rule with these links so far
abbrev with_links : List ℕ → ℕ → Rule → List Link → Rule
with_links file line rule links = record rule { links = links; place = record { file = file; line = line } }

rule_made : (file : List ℕ) (n : ℕ) (rule : Rule) (link : Link) (follows : Bool)
    → rule_of file n rule.id (condition_of link) (with_link link follows (of_rule rule)) (default_at rule.phase first_defaults) ≡ with_links file n rule (link ∷ [])
rule_made file n rule link follows =
    ap (λ (d : PhaseDefault). rule_of file n rule.id (condition_of link) (with_link link follows (of_rule rule)) d) (default_is rule.phase)
    ∙ ap (λ (s : ℕ). record (with_links file n rule (link ∷ [])) { status = s }) (status_is rule.status)

-- ---- links one after the other

module _ (files : Named) (file : List ℕ) (settings : Settings) (total : ℕ)
    (link_does : (n : ℕ) (link : Link) (actions : List ℕ) (acts : Acts) (reading : Reading) → reading.mode ≡ modes.Unicode → IsCondition link.always link → Tells (stand_of reading.unfinished) actions acts
    → directive files file n ((link_directive link actions).0 ∷ (link_directive link actions).1) reading ≡ on (linked file n (condition_of link) acts reading.unfinished reading))
    (first : (rule : Rule) (link : Link) (follows : Bool) → IsHead rule → IsTail link → actions_in stands.First (join_with_byte 44 (rule_pieces rule ++ link_pieces link follows)) ≡ Ok (with_link link follows (of_rule rule)))
    (later : (link : Link) (follows : Bool) → IsTail link → has_pieces (link_pieces link follows) ≡ true → actions_in stands.Later (join_with_byte 44 (link_pieces link follows)) ≡ Ok (with_link link follows no_acts)) where
  abbrev at : List Item → Option Unfinished → Reading
  at list unfinished = so_far settings total list unfinished

  -- the first

  first_is : (n : ℕ) (rule : Rule) (link : Link) (follows : Bool) (list : List Item) → has_id rule.id list ≡ false → is_full list ≡ false
      → linked file n (condition_of link) (with_link link follows (of_rule rule)) None (at list None) ≡ Ok (with_rule follows n (with_links file n rule (link ∷ [])) (at list None))
  first_is n rule link follows list fresh room = rw (fresh, room) (ap (λ (r : Rule). Ok (with_rule follows n r (at list None))) (rule_made file n rule link follows))

  first_does : (n : ℕ) (rule : Rule) (link : Link) (follows : Bool) (list : List Item) → IsHead rule → IsLink link → has_id rule.id list ≡ false → is_full list ≡ false
      → Does files file n (link_directive link (join_with_byte 44 (rule_pieces rule ++ link_pieces link follows))) (at list None) (with_rule follows n (with_links file n rule (link ∷ [])) (at list None))
  first_does n rule link follows list head is fresh room =
      let actions : List ℕ = join_with_byte 44 (rule_pieces rule ++ link_pieces link follows) in
      let acts : Acts = with_link link follows (of_rule rule) in
      link_does n link actions acts (at list None) refl is.0 (tells_some stands.First actions acts (head_some rule (link_pieces link follows)) (first rule link follows head is.1))
      ∙ ap on (first_is n rule link follows list fresh room)

  -- those behind it

  later_tells : (link : Link) (follows : Bool) → IsTail link → Tells stands.Later (join_with_byte 44 (link_pieces link follows)) (with_link link follows no_acts)
  later_tells link follows is = elim (cases_Bool (has_pieces (link_pieces link follows))) [
    | inl some ↦ tells_some stands.Later (join_with_byte 44 (link_pieces link follows)) (with_link link follows no_acts) (joined_some (link_pieces link follows) (link_some link follows) some) (later link follows is some)
    | inr none ↦ subst (λ (l : List ℕ). Tells stands.Later l (with_link link follows no_acts)) (sym (joined_none (link_pieces link follows) none)) (refl, says_nothing link follows none)
  ]

  further_is : (n : ℕ) (rule : Rule) (link : Link) (follows : Bool) (reading : Reading) → nat_le 32 (length rule.links) ≡ false
      → further_link file n (condition_of link) (with_link link follows no_acts) rule reading ≡ Ok (with_rule follows n (record rule { links = rule.links ++ link ∷ [] }) reading)
  further_is n rule link follows reading room = rw room refl

  further_does : (n line start : ℕ) (rule : Rule) (done : List Link) (link : Link) (follows : Bool) (list : List Item) → IsLink link → length done + 1 ≤ 32
      → Does files file n (link_directive link (join_with_byte 44 (link_pieces link follows))) (at list (Some (record { rule = with_links file start rule done; line = line })))
      (with_rule follows n (with_links file start rule (done ++ link ∷ [])) (at list (Some (record { rule = with_links file start rule done; line = line }))))
  further_does n line start rule done link follows list is room =
      let begun : Reading = at list (Some (record { rule = with_links file start rule done; line = line })) in
      let acts : Acts = with_link link follows no_acts in
      link_does n link (join_with_byte 44 (link_pieces link follows)) acts begun refl is.0 (later_tells link follows is.1)
      ∙ ap on (further_is n (with_links file start rule done) link follows begun (lt-leb 32 (length done) (omega (arith, room))))

  all_further : (n line start : ℕ) (rule : Rule) (done : List Link) (link : Link) (links : List Link) (list : List Item) → AllByRecursion IsLink (link ∷ links) → length done + length (link ∷ links) ≤ 32
      → Do files file n (directives_behind [] (link ∷ links)) (at list (Some (record { rule = with_links file start rule done; line = line })))
      (at (list ++ items.Rule (with_links file start rule (done ++ link ∷ links)) ∷ []) None)
  unfolding directives_behind
  all_further n line start rule done link [] list are few =
      (at (list ++ items.Rule (with_links file start rule (done ++ link ∷ [])) ∷ []) None, further_does n line start rule done link false list are.0 few, refl)
  all_further n line start rule done link (next ∷ links) list are few =
      let mid : List Link = done ++ link ∷ [] in
      let rest = all_further (n + 1) n start rule mid next links list are.1 (omega (arith, few, length-append done (link ∷ []))) in (
        at list (Some (record { rule = with_links file start rule mid; line = n })),
        further_does n line start rule done link true list are.0 (omega (arith, few)),
        subst (λ (l : List Link). Do files file (n + 1) (directives_behind [] (next ∷ links)) (at list (Some (record { rule = with_links file start rule mid; line = n }))) (at (list ++ items.Rule (with_links file start rule l) ∷ []) None))
            (append_assoc done (link ∷ []) (next ∷ links)) rest,
      )

  -- a whole rule

  links_do : (n : ℕ) (rule : Rule) (links : List Link) (list : List Item) → IsHead rule → AllByRecursion IsLink links → 1 ≤ length links → length links ≤ 32 → has_id rule.id list ≡ false → is_full list ≡ false
      → Do files file n (directives_behind (rule_pieces rule) links) (at list None) (at (list ++ items.Rule (with_links file n rule links) ∷ []) None)
  unfolding directives_behind
  links_do n rule [] list head are some few fresh room = absurd (omega (arith, some))
  links_do n rule (link ∷ []) list head are some few fresh room =
      (at (list ++ items.Rule (with_links file n rule (link ∷ [])) ∷ []) None, first_does n rule link false list head are.0 fresh room, refl)
  links_do n rule (link ∷ next ∷ links) list head are some few fresh room = (
    at list (Some (record { rule = with_links file n rule (link ∷ []); line = n })),
    first_does n rule link true list head are.0 fresh room,
    all_further (n + 1) n n rule (link ∷ []) next links list are.1 (omega (arith, few)),
  )

  pub rule_does : (n : ℕ) (rule : Rule) (list : List Item) → IsRule rule → has_id rule.id list ≡ false → is_full list ≡ false
      → Do files file n (directives_behind (rule_pieces rule) rule.links) (at list None) (at (list ++ items.Rule (record rule { place = record { file = file; line = n } }) ∷ []) None)
  rule_does n rule list is fresh room = links_do n rule rule.links list is.head is.links is.some is.few fresh room

-- a rule takes a line for each of its links
pub lines_of_rule : (n : ℕ) (pieces : List (List ℕ)) (links : List Link) → line_behind n (directives_behind pieces links) ≡ n + length links
unfolding directives_behind
lines_of_rule n pieces [] = omega arith
lines_of_rule n pieces (link ∷ links) = let rest = lines_of_rule (n + 1) [] links in omega (arith, rest)
