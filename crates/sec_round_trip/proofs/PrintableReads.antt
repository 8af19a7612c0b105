-- A good listing meets the premise of being read back.
use Rattle.std.proofs.Common.{◌≡◌, ℕ, ◌<◌, ◌^◌, Bool, true, false, List, [], ◌∷◌, ◌++◌, map, Option, Some, None, refl, sym, ◌∙◌, arith, subst, inl, inr, codes, decimal}
use Rattle.std.specs.Prelude.{◌==◌}
use Rattle.std.specs.List.{AllByRecursion, flat_map, join_with_byte, list_all}
use Rattle.std.specs.Str.{IsUtf8}
use Rattle.std.proofs.lemmas.Bool.{cases_Bool, eqb-true}
use Rattle.std.proofs.lemmas.Str.{IsUtf8-append, IsUtf8-from_ascii, IsUtf8-nil, is_utf8-from_IsUtf8}
use Rattle.sec_ast.specs.Print.{limit_action, listing_text}
use Rattle.sec_ast.specs.PrintActions.{change_of_setting, change_text, ctl_text, disrupt_text, if_not_empty, if_not_zero, if_set, if_there, link_pieces, log_text, quoted_piece, rule_pieces, setvar_text, transform_text}
use Rattle.sec_ast.specs.PrintMacros.{macro_text}
use Rattle.sec_ast.specs.PrintRules.{action_word, condition_words, is_more}
use Rattle.sec_ast.specs.PrintTexts.{escaped, in_quotes, spread}
use Rattle.sec_ast.specs.Transform.{transform_name}
use Rattle.sec_ast.specs.declared.action.Ctl.{Ctl}
use Rattle.sec_ast.specs.declared.action.Disrupt.{Disrupt}
use Rattle.sec_ast.specs.declared.action.Disrupt.TheVariants as disrupts
use Rattle.sec_ast.specs.declared.action.SetVar.{SetVar}
use Rattle.sec_ast.specs.declared.link.Link.{Link}
use Rattle.sec_ast.specs.declared.listing.Item.{Item}
use Rattle.sec_ast.specs.declared.listing.Item.TheVariants as items
use Rattle.sec_ast.specs.declared.listing.Listing.{Listing}
use Rattle.sec_ast.specs.declared.macros.Part.{Part}
use Rattle.sec_ast.specs.declared.rule.Rule.{Rule}
use Rattle.sec_ast.specs.declared.transform.Transform.{Transform}
use Rattle.sec_text.specs.WrittenLines.{written_lines}
use Rattle.sec_round_trip.specs.Actions.{IsCtl, IsDisrupt, IsLabel, IsNumber, IsPlainValue, IsSetVar, IsValue}
use Rattle.sec_round_trip.specs.Directives.{Directive, IsSafe, directive_line, directives_behind, directives_of, item_directives, link_directive, settings_of}
use Rattle.sec_round_trip.specs.Lines.{is_printed}
use Rattle.sec_round_trip.specs.Printable.{IsItem, IsLink, IsPrintable, IsRule, KeepsLimits}
use Rattle.sec_round_trip.proofs.ActionReads.{GoodCtl, GoodDisrupt, GoodLabels, GoodMacro, GoodSetVar, decimal_sound, engine_ends, graph_sound, switch_ends}
use Rattle.sec_round_trip.proofs.Directives.{listing_is}
use Rattle.sec_round_trip.proofs.FineTexts.{IsFine, fine_append, fine_byte, fine_escaped, fine_nil, fine_printed, one_ascii}
use Rattle.sec_round_trip.proofs.ListingReads.{GoodListing}
use Rattle.sec_round_trip.proofs.ReadTexts.{last_is}
use Rattle.sec_round_trip.proofs.Sound.{IsSound, joined_sound, sound_append, sound_behind}
use Rattle.sec_round_trip.proofs.StateReads.{GoodItem, GoodLink, GoodRule}

-- ---- the premises of rules and links

disrupt_is : (disrupt : Disrupt) → GoodDisrupt disrupt → IsDisrupt disrupt
disrupt_is disrupts.Pass is = tt
disrupt_is disrupts.Deny is = tt
disrupt_is disrupts.Drop is = tt
disrupt_is (disrupts.Redirect location) is = ((is.0.0, is.0.1.ends), is.1)
disrupt_is disrupts.Allow is = tt
disrupt_is disrupts.AllowPhase is = tt
disrupt_is disrupts.AllowRequest is = tt

label_is : (label : Option (List ℕ)) → GoodLabels label → IsLabel label
label_is None is = tt
label_is (Some label) is = (is.0.ends, is.1)

values_are : (tags : List (List ℕ)) → AllByRecursion IsSound tags → AllByRecursion IsValue tags
values_are [] are = tt
values_are (tag ∷ tags) are = (are.0.ends, values_are tags are.1)

setvars_are : (list : List SetVar) → AllByRecursion GoodSetVar list → AllByRecursion IsSetVar list
setvars_are [] are = tt
setvars_are (setvar ∷ list) are = (are.0.0, setvars_are list are.1)

ctls_are : (list : List Ctl) → AllByRecursion GoodCtl list → AllByRecursion IsCtl list
ctls_are [] are = tt
ctls_are (ctl ∷ list) are = (are.0.0, ctls_are list are.1)

links_are : (links : List Link) → AllByRecursion GoodLink links → AllByRecursion IsLink links
links_are [] are = tt
links_are (link ∷ links) are = ((are.0.condition, record { setvars = setvars_are link.setvars are.0.setvars; ctls = ctls_are link.ctls are.0.ctls }), links_are links are.1)

rule_is : (rule : Rule) → GoodRule rule → IsRule rule
rule_is rule is = record {
  head = record {
    id = is.id;
    phase = is.phase;
    disrupt = disrupt_is rule.disrupt is.disrupt;
    status = is.status;
    msg = (is.msg.0, is.msg.1.ends);
    logdata = (is.logdata.0, is.logdata.1.ends);
    tags = values_are rule.tags is.tags;
    skip = is.skip;
    label = label_is rule.skip_after is.label;
  };
  links = links_are rule.links is.links;
  some = is.some;
  few = is.few;
}

items_are : (list : List Item) → AllByRecursion GoodItem list → AllByRecursion IsItem list
items_are [] are = tt
items_are (items.Rule rule ∷ list) are = (rule_is rule are.0, items_are list are.1)
items_are (items.Marker label ∷ list) are = (tt, items_are list are.1)

-- ---- pieces

abbrev AreSound : List (List ℕ) → Type 0
AreSound pieces = AllByRecursion IsSound pieces

both : (xs ys : List (List ℕ)) → AreSound xs → AreSound ys → AreSound (xs ++ ys)
both [] ys a b = b
both (x ∷ xs) ys a b = (a.0, both xs ys a.1 b)

quoted_sound : (label text : List ℕ) → IsFine label → IsFine text → IsSound (quoted_piece label text)
quoted_sound label text a b =
    let quote : IsFine (39 ∷ []) = fine_byte true 39 refl refl in
    let inner : IsFine (39 ∷ escaped 39 text) = fine_append true (39 ∷ []) (escaped 39 text) quote (fine_escaped true 39 refl text b) in
    sound_behind label (in_quotes 39 text) a refl (sound_behind (39 ∷ escaped 39 text) (39 ∷ []) inner refl (record { fine = quote; ends = refl }))

zero_sound : (label : List ℕ) (n : ℕ) → IsSound label → n < 2 ^ 64 → AreSound (if_not_zero label n)
zero_sound label n is small = elim (cases_Bool (n == 0)) [
  | inl nought ↦ rw nought tt
  | inr some ↦ rw some (sound_append label (decimal n) is (decimal_sound n small), tt)
]

macro_sound : (label : List ℕ) (macro : List Part) → IsFine label → GoodMacro macro → AreSound (if_not_empty label macro)
macro_sound label [] is good = tt
macro_sound label (part ∷ macro) is good = (quoted_sound label (macro_text (part ∷ macro)) is good.1.fine, tt)

label_sound : (name : List ℕ) (label : Option (List ℕ)) → IsFine name → GoodLabels label → AreSound (if_there name label)
label_sound name None is good = tt
label_sound name (Some label) is good = (quoted_sound name label is good.0.fine, tt)

set_sound : (name : List ℕ) (is_set : Bool) → IsSound name → AreSound (if_set name is_set)
set_sound name true is = (is, tt)
set_sound name false is = tt

tags_sound : (tags : List (List ℕ)) → AreSound tags → AreSound (map (quoted_piece (codes "tag:")) tags)
tags_sound [] are = tt
tags_sound (tag ∷ tags) are = (quoted_sound (codes "tag:") tag (fine_printed true (codes "tag:") refl) are.0.fine, tags_sound tags are.1)

setvars_sound : (list : List SetVar) → AllByRecursion GoodSetVar list → AreSound (map setvar_text list)
setvars_sound [] are = tt
setvars_sound (setvar ∷ list) are = (quoted_sound (codes "setvar:") (change_text (macro_text setvar.name) setvar.change) (fine_printed true (codes "setvar:") refl) are.0.1, setvars_sound list are.1)

ctls_sound : (list : List Ctl) → AllByRecursion GoodCtl list → AreSound (map ctl_text list)
ctls_sound [] are = tt
ctls_sound (ctl ∷ list) are = (quoted_sound (codes "ctl:") (change_of_setting ctl) (fine_printed true (codes "ctl:") refl) are.0.1, ctls_sound list are.1)

disrupt_sound : (disrupt : Disrupt) → GoodDisrupt disrupt → IsSound (disrupt_text disrupt)
disrupt_sound disrupts.Pass is = graph_sound (codes "pass") refl
disrupt_sound disrupts.Deny is = graph_sound (codes "deny") refl
disrupt_sound disrupts.Drop is = graph_sound (codes "drop") refl
disrupt_sound (disrupts.Redirect location) is = quoted_sound (codes "redirect:") (macro_text location) (fine_printed true (codes "redirect:") refl) is.0.1.fine
disrupt_sound disrupts.Allow is = graph_sound (codes "allow") refl
disrupt_sound disrupts.AllowPhase is = graph_sound (codes "allow:phase") refl
disrupt_sound disrupts.AllowRequest is = graph_sound (codes "allow:request") refl

log_sound : (is_logged : Bool) → IsSound (log_text is_logged)
log_sound true = graph_sound (codes "log") refl
log_sound false = graph_sound (codes "nolog") refl

number_small : (n low high : ℕ) → IsNumber low high n → high < 2 ^ 32 → n < 2 ^ 64
number_small n low high is small = elim (cases_Bool (n == 0)) [
  | inl nought ↦ let same = eqb-true n 0 nought in omega (arith, same)
  | inr some ↦ let most = (is some).1 in omega (arith, most, small)
]

rule_sound : (rule : Rule) → GoodRule rule → AreSound (rule_pieces rule)
unfolding rule_pieces
rule_sound rule is =
    let id_most = is.id.1 in
    let phase_most = is.phase.1 in
    let one : IsSound (codes "id:" ++ decimal rule.id) = sound_append (codes "id:") (decimal rule.id) (graph_sound (codes "id:") refl) (decimal_sound rule.id (omega (arith, id_most))) in
    let two : IsSound (codes "phase:" ++ decimal rule.phase) = sound_append (codes "phase:") (decimal rule.phase) (graph_sound (codes "phase:") refl) (decimal_sound rule.phase (omega (arith, phase_most))) in
    let p1 : List (List ℕ) = (codes "id:" ++ decimal rule.id) ∷ (codes "phase:" ++ decimal rule.phase) ∷ disrupt_text rule.disrupt ∷ if_not_zero (codes "status:") rule.status in
    let p2 : List (List ℕ) = log_text rule.log ∷ if_not_empty (codes "msg:") rule.msg in
    let p3 : List (List ℕ) = if_not_empty (codes "logdata:") rule.logdata in
    let p4 : List (List ℕ) = map (quoted_piece (codes "tag:")) rule.tags in
    let p5 : List (List ℕ) = if_not_zero (codes "skip:") rule.skip in
    let p6 : List (List ℕ) = if_there (codes "skipAfter:") rule.skip_after in
    let s1 : AreSound p1 = (one, (two, (disrupt_sound rule.disrupt is.disrupt, zero_sound (codes "status:") rule.status (graph_sound (codes "status:") refl) (number_small rule.status 100 999 is.status (omega arith))))) in
    let s2 : AreSound p2 = (log_sound rule.log, macro_sound (codes "msg:") rule.msg (fine_printed true (codes "msg:") refl) is.msg) in
    let s3 : AreSound p3 = macro_sound (codes "logdata:") rule.logdata (fine_printed true (codes "logdata:") refl) is.logdata in
    let s4 : AreSound p4 = tags_sound rule.tags is.tags in
    let s5 : AreSound p5 = zero_sound (codes "skip:") rule.skip (graph_sound (codes "skip:") refl) (number_small rule.skip 1 20000 is.skip (omega arith)) in
    let s6 : AreSound p6 = label_sound (codes "skipAfter:") rule.skip_after (fine_printed true (codes "skipAfter:") refl) is.label in
    both (p1 ++ p2 ++ p3 ++ p4 ++ p5) p6 (both (p1 ++ p2 ++ p3 ++ p4) p5 (both (p1 ++ p2 ++ p3) p4 (both (p1 ++ p2) p3 (both p1 p2 s1 s2) s3) s4) s5) s6

-- ---- directives

abbrev IsGoodDirective : Directive → Type 0
IsGoodDirective d = IsFine d.0 × AreSound d.1

abbrev AreGood : List Directive → Type 0
AreGood ds = AllByRecursion IsGoodDirective ds

good_append : (xs ys : List Directive) → AreGood xs → AreGood ys → AreGood (xs ++ ys)
good_append [] ys a b = b
good_append (d ∷ xs) ys a b = (a.0, good_append xs ys a.1 b)

action_sound : (actions : List ℕ) → IsSound actions → IsSound (action_word actions)
action_sound [] is = graph_sound (codes "severity:0") refl
action_sound (b ∷ actions) is = is

words_sound : (link : Link) (actions : List ℕ) → GoodLink link → IsSound actions → AreSound (condition_words link actions)
words_sound link [] is sound = (is.targets, (is.operator, tt))
words_sound link (b ∷ actions) is sound = (is.targets, (is.operator, (sound, tt)))

link_good : (link : Link) (actions : List ℕ) → GoodLink link → IsSound actions → IsGoodDirective (link_directive link actions)
link_good link actions is sound = elim (cases_Bool link.always) [
  | inl always ↦ rw always (fine_printed true (codes "SecAction") refl, (action_sound actions sound, tt))
  | inr tested ↦ rw tested (fine_printed true (codes "SecRule") refl, words_sound link actions is sound)
]

reject_sound : (rejects : Bool) → IsSound (limit_action rejects)
reject_sound true = graph_sound (codes "Reject") refl
reject_sound false = graph_sound (codes "ProcessPartial") refl

settings_good : (l : Listing) → GoodListing l → AreGood (settings_of l)
settings_good l good =
    let most = good.limit.1 in (
      (fine_printed true (codes "SecRuleEngine") refl, (engine_ends l.engine, tt)),
      (
        (fine_printed true (codes "SecRequestBodyAccess") refl, (switch_ends l.request_body, tt)),
        (
          (fine_printed true (codes "SecRequestBodyLimit") refl, (decimal_sound l.request_limit (omega (arith, most)), tt)),
          (
            (fine_printed true (codes "SecRequestBodyLimitAction") refl, (reject_sound l.limit_reject, tt)),
            (
              (fine_printed true (codes "SecResponseBodyAccess") refl, (switch_ends l.response_body, tt)),
              tt,
            ),
          ),
        ),
      ),
    )

feed_utf8 : IsUtf8 (10 ∷ [])
feed_utf8 = IsUtf8-from_ascii (10 ∷ []) (one_ascii 10 (omega arith))

module _ (plain : (transform : Transform) → IsPlainValue (transform_name transform)) (printed : (transform : Transform) → list_all is_printed (transform_name transform) ≡ true) where
  transforms_sound : (list : List Transform) → AreSound (map transform_text list)
  transforms_sound [] = tt
  transforms_sound (transform ∷ list) =
      let name : List ℕ = transform_name transform in
      (sound_append (codes "t:") name (graph_sound (codes "t:") refl) (record { fine = fine_printed true name (printed transform); ends = last_is name ∙ (plain transform).ends }), transforms_sound list)

  link_sound : (link : Link) (follows : Bool) → GoodLink link → AreSound (link_pieces link follows)
  unfolding link_pieces
  link_sound link follows is =
      let t : List (List ℕ) = map transform_text link.transforms in
      let c : List (List ℕ) = if_set (codes "capture") link.capture in
      let m : List (List ℕ) = if_set (codes "multiMatch") link.multi in
      let v : List (List ℕ) = map setvar_text link.setvars in
      let s : List (List ℕ) = map ctl_text link.ctls in
      both (t ++ c ++ m ++ v ++ s) (if_set (codes "chain") follows)
      (both (t ++ c ++ m ++ v) s (both (t ++ c ++ m) v (both (t ++ c) m (both t c (transforms_sound link.transforms) (set_sound (codes "capture") link.capture (graph_sound (codes "capture") refl))) (set_sound (codes "multiMatch") link.multi (graph_sound (codes "multiMatch") refl))) (setvars_sound link.setvars is.setvars)) (ctls_sound link.ctls is.ctls))
      (set_sound (codes "chain") follows (graph_sound (codes "chain") refl))

  links_good : (pieces : List (List ℕ)) (links : List Link) → AreSound pieces → AllByRecursion GoodLink links → AreGood (directives_behind pieces links)
  unfolding directives_behind
  links_good pieces [] sound are = tt
  links_good pieces (link ∷ links) sound are =
      let all : List (List ℕ) = pieces ++ link_pieces link (is_more links) in
      (link_good link (join_with_byte 44 all) are.0 (joined_sound 44 all refl (both pieces (link_pieces link (is_more links)) sound (link_sound link (is_more links) are.0))), links_good [] links tt are.1)

  items_good : (list : List Item) → AllByRecursion GoodItem list → AreGood (flat_map item_directives list)
  items_good [] are = tt
  items_good (items.Rule rule ∷ list) are = good_append (directives_behind (rule_pieces rule) rule.links) (flat_map item_directives list) (links_good (rule_pieces rule) rule.links (rule_sound rule are.0) are.0.links) (items_good list are.1)
  items_good (items.Marker label ∷ list) are = ((fine_printed true (codes "SecMarker") refl, (are.0, tt)), items_good list are.1)

  directives_good : (l : Listing) → GoodListing l → AreGood (directives_of l)
  unfolding directives_of
  directives_good l good = good_append (settings_of l) (flat_map item_directives l.items) (settings_good l good) (items_good l.items good.items)

  -- ---- the words, and the text

  safe_words : (words : List (List ℕ)) → AreSound words → AllByRecursion IsSafe words
  safe_words [] are = tt
  safe_words (word ∷ words) are = ((are.0.fine.feed, are.0.ends), safe_words words are.1)

  all_safe : (ds : List Directive) → AreGood ds → AllByRecursion (λ (d : Directive). AllByRecursion IsSafe d.1) ds
  all_safe [] are = tt
  all_safe (d ∷ ds) are = (safe_words d.1 are.0.1, all_safe ds are.1)

  spread_fine : (words : List (List ℕ)) → AreSound words → IsFine (flat_map spread words)
  spread_fine [] are = fine_nil true
  spread_fine (word ∷ words) are =
      let quote : IsFine (34 ∷ []) = fine_byte true 34 refl refl in
      let inner : IsFine (escaped 34 word ++ 34 ∷ []) = fine_append true (escaped 34 word) (34 ∷ []) (fine_escaped true 34 refl word are.0.fine) quote in
      fine_append true (spread word) (flat_map spread words) (fine_append true (32 ∷ 34 ∷ []) (escaped 34 word ++ 34 ∷ []) (fine_printed true (32 ∷ 34 ∷ []) refl) inner) (spread_fine words are.1)

  lines_utf8 : (ds : List Directive) → AreGood ds → IsUtf8 (written_lines (map directive_line ds))
  lines_utf8 [] are = IsUtf8-nil
  lines_utf8 (d ∷ ds) are =
      let rest : IsUtf8 (written_lines (map directive_line ds)) = lines_utf8 ds are.1 in
      let line : IsFine (directive_line d) = fine_append true d.0 (flat_map spread d.1) are.0.0 (spread_fine d.1 are.0.1) in
      IsUtf8-append (directive_line d) (10 ∷ written_lines (map directive_line ds)) line.utf8 (IsUtf8-append (10 ∷ []) (written_lines (map directive_line ds)) feed_utf8 rest)

  pub good_is_printable : (l : Listing) → GoodListing l → KeepsLimits l → IsPrintable l
  good_is_printable l good limits =
      let all : AreGood (directives_of l) = directives_good l good in
      record {
        limit = good.limit;
        items = items_are l.items good.items;
        apart = good.apart;
        few = good.few;
        words = all_safe (directives_of l) all;
        text = is_utf8-from_IsUtf8 (listing_text l) (subst IsUtf8 (sym (listing_is l)) (lines_utf8 (directives_of l) all));
        limits = limits;
      }
