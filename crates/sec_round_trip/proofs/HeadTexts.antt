-- The actions of a rule are read from their text.
use Rattle.std.proofs.Common.{◌≡◌, ℕ, zero, suc, ◌+◌, ◌<◌, ◌≤◌, Bool, true, false, List, [], ◌∷◌, ◌++◌, map, Option, Some, None, Ok, refl, sym, ap, ◌∙◌, append_assoc, append-nil, arith, subst, inl, inr, codes, decimal}
use Rattle.std.specs.Prelude.{◌==◌}
use Rattle.std.specs.List.{AllByRecursion, join_with_byte}
use Rattle.std.proofs.lemmas.Bool.{cases_Bool, eqb-true}
use Rattle.std.proofs.lemmas.Fmt.{decimal_by_steps}
use Rattle.sec_ast.specs.PrintActions.{disrupt_text, if_not_empty, if_not_zero, if_there, link_pieces, log_text, quoted_piece, rule_pieces}
use Rattle.sec_ast.specs.PrintMacros.{macro_text}
use Rattle.sec_ast.specs.Settings.{engine_name, engine_named}
use Rattle.sec_ast.specs.Transform.{transform_name, transform_named}
use Rattle.sec_ast.specs.declared.action.Disrupt.{Disrupt}
use Rattle.sec_ast.specs.declared.action.Disrupt.TheVariants as disrupts
use Rattle.sec_ast.specs.declared.link.Link.{Link}
use Rattle.sec_ast.specs.declared.macros.Part.{Part}
use Rattle.sec_ast.specs.declared.rule.Rule.{Rule}
use Rattle.sec_ast.specs.declared.settings.Engine.{Engine}
use Rattle.sec_ast.specs.declared.transform.Transform.{Transform}
use Rattle.sec_parts.specs.declared.acts.Acts.{Acts}
use Rattle.sec_parts.specs.declared.kinds.Stand.TheVariants as stands
use Rattle.sec_parts.specs.Actions.{action_of, is_word, phase_in}
use Rattle.sec_parts.specs.Acts.{actions_in, no_acts, with_piece}
use Rattle.sec_parts.specs.Kinds.{is_refused_action, is_refused_transform, kind_named}
use Rattle.sec_parts.specs.Macros.{macro_of}
use Rattle.sec_parts.specs.Numbers.{number_in}
use Rattle.sec_round_trip.specs.Actions.{IsDisrupt, IsHead, IsLabel, IsMacroValue, IsNumber, IsPlainValue, IsTail, IsValue, of_rule, unless_zero, with_link}
use Rattle.sec_round_trip.specs.Macros.{IsMacro}
use Rattle.sec_round_trip.specs.Targets.{is_empty}
use Rattle.sec_round_trip.proofs.ActionTexts.{alone_said, link_follows, plain_said, quoted_said, with_parts}
use Rattle.sec_round_trip.proofs.DecimalTexts.{decimal_plain, number_again}
use Rattle.sec_round_trip.proofs.PieceTexts.{Follow, Says, follow_append, read_pieces}

-- ---- numbers

short_decimal : (n : ℕ) → n < 10 → decimal n ≡ (48 + n) ∷ []
short_decimal n small = decimal_by_steps (λ m ds. m < 10 → ds ≡ (48 + m) ∷ []) (λ m l a. refl) (λ m ds l h a. absurd (omega (arith, l, a))) n (omega (arith, small)) small

id_done : (n : ℕ) (digits text : List ℕ) → number_in 1 999999999 digits ≡ Some n → with_parts stands.First (codes "id") (Some digits) text no_acts ≡ Ok (record no_acts { id = Some n })
unfolding with_piece action_of is_refused_action kind_named
id_done n digits text is = rw is refl

phase_done : (n : ℕ) (digits text : List ℕ) (acts : Acts) → digits ≡ (48 + n) ∷ [] → 1 ≤ n → n ≤ 5 → with_parts stands.First (codes "phase") (Some digits) text acts ≡ Ok (record acts { phase = Some n })
unfolding with_piece action_of is_refused_action kind_named phase_in is_word
phase_done zero digits text acts is least most = absurd (omega (arith, least))
phase_done (suc zero) digits text acts is least most = rw is refl
phase_done (suc (suc zero)) digits text acts is least most = rw is refl
phase_done (suc (suc (suc zero))) digits text acts is least most = rw is refl
phase_done (suc (suc (suc (suc zero)))) digits text acts is least most = rw is refl
phase_done (suc (suc (suc (suc (suc zero))))) digits text acts is least most = rw is refl
phase_done (suc (suc (suc (suc (suc (suc n)))))) digits text acts is least most = absurd (omega (arith, most))

status_done : (n : ℕ) (digits text : List ℕ) (acts : Acts) → number_in 100 999 digits ≡ Some n → with_parts stands.First (codes "status") (Some digits) text acts ≡ Ok (record acts { status = Some n })
unfolding with_piece action_of is_refused_action kind_named
status_done n digits text acts is = rw is refl

skip_done : (n : ℕ) (digits text : List ℕ) (acts : Acts) → number_in 1 20000 digits ≡ Some n → with_parts stands.First (codes "skip") (Some digits) text acts ≡ Ok (record acts { skip = n })
unfolding with_piece action_of is_refused_action kind_named
skip_done n digits text acts is = rw is refl

status_follows : (n : ℕ) (acts : Acts) → IsNumber 100 999 n → acts.status ≡ None → Follow stands.First (if_not_zero (codes "status:") n) acts (record acts { status = unless_zero n })
status_follows n acts is none = elim (cases_Bool (n == 0)) [
  | inl zero_is ↦ rw zero_is (ap (λ (o : Option ℕ). record acts { status = o }) none)
  | inr some ↦
      let bounds = is some in
      let after : Acts = record acts { status = Some n } in
      rw some (
        after,
        plain_said stands.First (codes "status") (decimal n) acts after refl (decimal_plain n (omega (arith, bounds.1)))
            (λ text. status_done n (decimal n) text acts (number_again 100 999 n bounds.0 bounds.1 (omega arith))),
        refl,
      )
]

skip_follows : (n : ℕ) (acts : Acts) → IsNumber 1 20000 n → acts.skip ≡ 0 → Follow stands.First (if_not_zero (codes "skip:") n) acts (record acts { skip = n })
skip_follows n acts is none = elim (cases_Bool (n == 0)) [
  | inl zero_is ↦ rw zero_is (ap (λ (k : ℕ). record acts { skip = k }) (none ∙ sym (eqb-true n 0 zero_is)))
  | inr some ↦
      let bounds = is some in
      let after : Acts = record acts { skip = n } in
      rw some (
        after,
        plain_said stands.First (codes "skip") (decimal n) acts after refl (decimal_plain n (omega (arith, bounds.1)))
            (λ text. skip_done n (decimal n) text acts (number_again 1 20000 n bounds.0 bounds.1 (omega arith))),
        refl,
      )
]

-- ---- texts

tag_done : (tag text : List ℕ) (acts : Acts) → with_parts stands.First (codes "tag") (Some tag) text acts ≡ Ok (record acts { tags = acts.tags ++ tag ∷ [] })
unfolding with_piece action_of is_refused_action kind_named
tag_done tag text acts = refl

tags_follow : (tags : List (List ℕ)) (acts : Acts) → AllByRecursion IsValue tags → Follow stands.First (map (quoted_piece (codes "tag:")) tags) acts (record acts { tags = acts.tags ++ tags })
tags_follow [] acts is = ap (λ (l : List (List ℕ)). record acts { tags = l }) (sym (append-nil acts.tags))
tags_follow (tag ∷ tags) acts is =
    let mid : Acts = record acts { tags = acts.tags ++ tag ∷ [] } in (
      mid,
      quoted_said stands.First (codes "tag") tag acts mid refl is.0 (λ text. tag_done tag text acts),
      subst (λ (l : List (List ℕ)). Follow stands.First (map (quoted_piece (codes "tag:")) tags) mid (record acts { tags = l })) (append_assoc acts.tags (tag ∷ []) tags) (tags_follow tags mid is.1),
    )

label_done : (label text : List ℕ) (acts : Acts) → is_empty label ≡ false → with_parts stands.First (codes "skipAfter") (Some label) text acts ≡ Ok (record acts { skip_after = Some label })
unfolding with_piece action_of is_refused_action kind_named
label_done [] text acts some = absurd cc
label_done (b ∷ label) text acts some = refl

label_follows : (label : Option (List ℕ)) (acts : Acts) → IsLabel label → acts.skip_after ≡ None → Follow stands.First (if_there (codes "skipAfter:") label) acts (record acts { skip_after = label })
label_follows None acts is none = ap (λ (o : Option (List ℕ)). record acts { skip_after = o }) none
label_follows (Some label) acts is none =
    let after : Acts = record acts { skip_after = Some label } in
    (after, quoted_said stands.First (codes "skipAfter") label acts after refl is.0 (λ text. label_done label text acts is.1), refl)

log_done : (text : List ℕ) (acts : Acts) → with_parts stands.First (codes "log") None text acts ≡ Ok (record acts { log = Some true })
unfolding with_piece action_of is_refused_action kind_named
log_done text acts = refl

nolog_done : (text : List ℕ) (acts : Acts) → with_parts stands.First (codes "nolog") None text acts ≡ Ok (record acts { log = Some false })
unfolding with_piece action_of is_refused_action kind_named
nolog_done text acts = refl

log_says : (is_logged : Bool) (acts : Acts) → Says stands.First (log_text is_logged) acts (record acts { log = Some is_logged })
log_says true acts = alone_said stands.First (codes "log") acts (record acts { log = Some true }) refl (λ text. log_done text acts)
log_says false acts = alone_said stands.First (codes "nolog") acts (record acts { log = Some false }) refl (λ text. nolog_done text acts)

msg_done : (value text : List ℕ) (macro : List Part) (acts : Acts) → macro_of value ≡ Ok macro → with_parts stands.First (codes "msg") (Some value) text acts ≡ Ok (record acts { msg = macro })
unfolding with_piece action_of is_refused_action kind_named
msg_done value text macro acts is = rw is refl

logdata_done : (value text : List ℕ) (macro : List Part) (acts : Acts) → macro_of value ≡ Ok macro → with_parts stands.First (codes "logdata") (Some value) text acts ≡ Ok (record acts { logdata = macro })
unfolding with_piece action_of is_refused_action kind_named
logdata_done value text macro acts is = rw is refl

-- ---- what is done with a transaction

pass_done : (text : List ℕ) (acts : Acts) → with_parts stands.First (codes "pass") None text acts ≡ Ok (record acts { disrupt = Some disrupts.Pass })
unfolding with_piece action_of is_refused_action kind_named
pass_done text acts = refl

deny_done : (text : List ℕ) (acts : Acts) → with_parts stands.First (codes "deny") None text acts ≡ Ok (record acts { disrupt = Some disrupts.Deny })
unfolding with_piece action_of is_refused_action kind_named
deny_done text acts = refl

drop_done : (text : List ℕ) (acts : Acts) → with_parts stands.First (codes "drop") None text acts ≡ Ok (record acts { disrupt = Some disrupts.Drop })
unfolding with_piece action_of is_refused_action kind_named
drop_done text acts = refl

allow_done : (text : List ℕ) (acts : Acts) → with_parts stands.First (codes "allow") None text acts ≡ Ok (record acts { disrupt = Some disrupts.Allow })
unfolding with_piece action_of is_refused_action kind_named
allow_done text acts = refl

phase_allowed : (text : List ℕ) (acts : Acts) → with_parts stands.First (codes "allow") (Some (codes "phase")) text acts ≡ Ok (record acts { disrupt = Some disrupts.AllowPhase })
unfolding with_piece action_of is_refused_action kind_named is_word
phase_allowed text acts = refl

request_allowed : (text : List ℕ) (acts : Acts) → with_parts stands.First (codes "allow") (Some (codes "request")) text acts ≡ Ok (record acts { disrupt = Some disrupts.AllowRequest })
unfolding with_piece action_of is_refused_action kind_named is_word
request_allowed text acts = refl

redirect_done : (value text : List ℕ) (location : List Part) (acts : Acts) → is_empty value ≡ false → macro_of value ≡ Ok location → with_parts stands.First (codes "redirect") (Some value) text acts ≡ Ok (record acts { disrupt = Some (disrupts.Redirect location) })
unfolding with_piece action_of is_refused_action kind_named
redirect_done [] text location acts some is = absurd cc
redirect_done (b ∷ value) text location acts some is = rw is refl

phase_word : IsPlainValue (codes "phase")
phase_word = record { commas = refl; begins = refl; trimmed = refl; ends = refl }

request_word : IsPlainValue (codes "request")
request_word = record { commas = refl; begins = refl; trimmed = refl; ends = refl }

module _ (macros : (macro : List Part) → IsMacro macro → macro_of (macro_text macro) ≡ Ok macro) where
  disrupt_says : (disrupt : Disrupt) (acts : Acts) → IsDisrupt disrupt → Says stands.First (disrupt_text disrupt) acts (record acts { disrupt = Some disrupt })
  disrupt_says disrupts.Pass acts is = alone_said stands.First (codes "pass") acts (record acts { disrupt = Some disrupts.Pass }) refl (λ text. pass_done text acts)
  disrupt_says disrupts.Deny acts is = alone_said stands.First (codes "deny") acts (record acts { disrupt = Some disrupts.Deny }) refl (λ text. deny_done text acts)
  disrupt_says disrupts.Drop acts is = alone_said stands.First (codes "drop") acts (record acts { disrupt = Some disrupts.Drop }) refl (λ text. drop_done text acts)
  disrupt_says (disrupts.Redirect location) acts is =
      quoted_said stands.First (codes "redirect") (macro_text location) acts (record acts { disrupt = Some (disrupts.Redirect location) }) refl is.0.1
      (λ text. redirect_done (macro_text location) text location acts is.1 (macros location is.0.0))
  disrupt_says disrupts.Allow acts is = alone_said stands.First (codes "allow") acts (record acts { disrupt = Some disrupts.Allow }) refl (λ text. allow_done text acts)
  disrupt_says disrupts.AllowPhase acts is = plain_said stands.First (codes "allow") (codes "phase") acts (record acts { disrupt = Some disrupts.AllowPhase }) refl phase_word (λ text. phase_allowed text acts)
  disrupt_says disrupts.AllowRequest acts is = plain_said stands.First (codes "allow") (codes "request") acts (record acts { disrupt = Some disrupts.AllowRequest }) refl request_word (λ text. request_allowed text acts)

  msg_follows : (macro : List Part) (acts : Acts) → IsMacroValue macro → acts.msg ≡ [] → Follow stands.First (if_not_empty (codes "msg:") macro) acts (record acts { msg = macro })
  msg_follows [] acts is none = ap (λ (m : List Part). record acts { msg = m }) none
  msg_follows (part ∷ macro) acts is none =
      let whole : List Part = part ∷ macro in
      let after : Acts = record acts { msg = whole } in
      (after, quoted_said stands.First (codes "msg") (macro_text whole) acts after refl is.1 (λ text. msg_done (macro_text whole) text whole acts (macros whole is.0)), refl)

  logdata_follows : (macro : List Part) (acts : Acts) → IsMacroValue macro → acts.logdata ≡ [] → Follow stands.First (if_not_empty (codes "logdata:") macro) acts (record acts { logdata = macro })
  logdata_follows [] acts is none = ap (λ (m : List Part). record acts { logdata = m }) none
  logdata_follows (part ∷ macro) acts is none =
      let whole : List Part = part ∷ macro in
      let after : Acts = record acts { logdata = whole } in
      (after, quoted_said stands.First (codes "logdata") (macro_text whole) acts after refl is.1 (λ text. logdata_done (macro_text whole) text whole acts (macros whole is.0)), refl)

  rule_follows : (rule : Rule) → IsHead rule → Follow stands.First (rule_pieces rule) no_acts (of_rule rule)
  unfolding rule_pieces
  rule_follows rule is =
      let a1 : Acts = record no_acts { id = Some rule.id } in
      let a2 : Acts = record a1 { phase = Some rule.phase } in
      let a3 : Acts = record a2 { disrupt = Some rule.disrupt } in
      let a4 : Acts = record a3 { status = unless_zero rule.status } in
      let a5 : Acts = record a4 { log = Some rule.log } in
      let a6 : Acts = record a5 { msg = rule.msg } in
      let a7 : Acts = record a6 { logdata = rule.logdata } in
      let a8 : Acts = record a7 { tags = rule.tags } in
      let a9 : Acts = record a8 { skip = rule.skip } in
      let s1 : Says stands.First (codes "id:" ++ decimal rule.id) no_acts a1 =
      plain_said stands.First (codes "id") (decimal rule.id) no_acts a1 refl (decimal_plain rule.id (omega (arith, is.id.1)))
      (λ text. id_done rule.id (decimal rule.id) text (number_again 1 999999999 rule.id is.id.0 is.id.1 (omega arith))) in
      let s2 : Says stands.First (codes "phase:" ++ decimal rule.phase) a1 a2 =
      plain_said stands.First (codes "phase") (decimal rule.phase) a1 a2 refl (decimal_plain rule.phase (omega (arith, is.phase.1)))
      (λ text. phase_done rule.phase (decimal rule.phase) text a1 (short_decimal rule.phase (omega (arith, is.phase.1))) is.phase.0 is.phase.1) in
      let p1 : List (List ℕ) = (codes "id:" ++ decimal rule.id) ∷ (codes "phase:" ++ decimal rule.phase) ∷ disrupt_text rule.disrupt ∷ if_not_zero (codes "status:") rule.status in
      let p2 : List (List ℕ) = log_text rule.log ∷ if_not_empty (codes "msg:") rule.msg in
      let p3 : List (List ℕ) = if_not_empty (codes "logdata:") rule.logdata in
      let p4 : List (List ℕ) = map (quoted_piece (codes "tag:")) rule.tags in
      let p5 : List (List ℕ) = if_not_zero (codes "skip:") rule.skip in
      let p6 : List (List ℕ) = if_there (codes "skipAfter:") rule.skip_after in
      let f1 : Follow stands.First p1 no_acts a4 = (a1, s1, (a2, s2, (a3, disrupt_says rule.disrupt a2 is.disrupt, status_follows rule.status a3 is.status refl))) in
      let f2 : Follow stands.First p2 a4 a6 = (a5, log_says rule.log a4, msg_follows rule.msg a5 is.msg refl) in
      let f3 : Follow stands.First p3 a6 a7 = logdata_follows rule.logdata a6 is.logdata refl in
      let f4 : Follow stands.First p4 a7 a8 = tags_follow rule.tags a7 is.tags in
      let f5 : Follow stands.First p5 a8 a9 = skip_follows rule.skip a8 is.skip refl in
      let f6 : Follow stands.First p6 a9 (of_rule rule) = label_follows rule.skip_after a9 is.label refl in
      let g2 : Follow stands.First (p1 ++ p2) no_acts a6 = follow_append stands.First p1 p2 no_acts a4 a6 f1 f2 in
      let g3 : Follow stands.First (p1 ++ p2 ++ p3) no_acts a7 = follow_append stands.First (p1 ++ p2) p3 no_acts a6 a7 g2 f3 in
      let g4 : Follow stands.First (p1 ++ p2 ++ p3 ++ p4) no_acts a8 = follow_append stands.First (p1 ++ p2 ++ p3) p4 no_acts a7 a8 g3 f4 in
      let g5 : Follow stands.First (p1 ++ p2 ++ p3 ++ p4 ++ p5) no_acts a9 = follow_append stands.First (p1 ++ p2 ++ p3 ++ p4) p5 no_acts a8 a9 g4 f5 in
      follow_append stands.First (p1 ++ p2 ++ p3 ++ p4 ++ p5) p6 no_acts a9 (of_rule rule) g5 f6

  module _ (engines : (engine : Engine) → engine_named (engine_name engine) ≡ Some engine)
      (named : (transform : Transform) → transform_named (transform_name transform) ≡ Some transform)
      (allowed : (transform : Transform) → is_refused_transform (transform_name transform) ≡ false)
      (others : (transform : Transform) → is_word (codes "none") (transform_name transform) ≡ false)
      (plain : (transform : Transform) → IsPlainValue (transform_name transform)) where
    pub first_read : (rule : Rule) (link : Link) (follows : Bool) → IsHead rule → IsTail link
        → actions_in stands.First (join_with_byte 44 (rule_pieces rule ++ link_pieces link follows)) ≡ Ok (with_link link follows (of_rule rule))
    unfolding rule_pieces
    first_read rule link follows head tail =
        read_pieces stands.First (rule_pieces rule ++ link_pieces link follows) (with_link link follows (of_rule rule)) refl
        (follow_append stands.First (rule_pieces rule) (link_pieces link follows) no_acts (of_rule rule) (with_link link follows (of_rule rule)) (rule_follows rule head)
        (link_follows macros engines named allowed others plain stands.First refl link follows (of_rule rule) tail refl refl refl refl refl refl))
