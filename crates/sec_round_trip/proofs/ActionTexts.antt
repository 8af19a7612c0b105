-- The actions of a rule and of its links are read from their text.
use Rattle.std.proofs.Common.{◌≡◌, ℕ, ◌^◌, ◌<◌, ◌≤◌, Bool, true, false, List, [], ◌∷◌, ◌++◌, map, length, take, drop, Option, Some, None, Result, Ok, refl, sym, ap, ap₂, ◌∙◌, append_assoc, append-nil, arith, subst, inl, inr, codes, decimal}
use Rattle.std.specs.Prelude.{◌&&◌, ◌==◌, nat_le}
use Rattle.std.specs.List.{AllByRecursion, join_with_byte, list_any}
use Rattle.std.proofs.lemmas.Bool.{cases_Bool, eqb-true, false≢true, le-leb, or_parts}
use Rattle.std.proofs.lemmas.List.{take_all, drop_all}
use Rattle.sec_ast.specs.PrintActions.{change_of_setting, change_text, ctl_text, if_set, link_pieces, range_text, setvar_text, switch_text, transform_text}
use Rattle.sec_ast.specs.PrintMacros.{macro_text}
use Rattle.sec_ast.specs.PrintTexts.{escaped}
use Rattle.sec_ast.specs.Settings.{engine_name, engine_named, processor_named}
use Rattle.sec_ast.specs.Transform.{transform_name, transform_named}
use Rattle.sec_ast.specs.declared.action.Change.{Change}
use Rattle.sec_ast.specs.declared.action.Change.TheVariants as changes
use Rattle.sec_ast.specs.declared.action.Ctl.{Ctl}
use Rattle.sec_ast.specs.declared.action.Ctl.TheVariants as ctls
use Rattle.sec_ast.specs.declared.action.SetVar.{SetVar}
use Rattle.sec_ast.specs.declared.link.Link.{Link}
use Rattle.sec_ast.specs.declared.macros.Part.{Part}
use Rattle.sec_ast.specs.declared.settings.Engine.{Engine}
use Rattle.sec_ast.specs.declared.settings.Processor.TheVariants as processors
use Rattle.sec_ast.specs.declared.transform.Transform.{Transform}
use Rattle.sec_text.specs.Written.{ends_with_backslash}
use Rattle.sec_parts.specs.declared.acts.Acts.{Acts}
use Rattle.sec_parts.specs.declared.faults.Bad.{Bad}
use Rattle.sec_parts.specs.declared.kinds.Stand.{Stand}
use Rattle.sec_parts.specs.declared.kinds.Stand.TheVariants as stands
use Rattle.sec_parts.specs.Actions.{action_of, is_word}
use Rattle.sec_parts.specs.Acts.{actions_in, no_acts, with_piece}
use Rattle.sec_parts.specs.Changes.{change_to, ctl_named, ctl_of, id_range, is_of_tx, is_refused_collection, is_refused_ctl, range_from, range_of, setvar_of, switch_named}
use Rattle.sec_parts.specs.Kinds.{is_link, is_refused_action, is_refused_transform, kind_named}
use Rattle.sec_parts.specs.Macros.{macro_of}
use Rattle.sec_parts.specs.Numbers.{number_in}
use Rattle.sec_parts.specs.Pieces.{Read, ended, piece_at}
use Rattle.sec_parts.specs.Results.{◌>>=◌}
use Rattle.sec_parts.specs.Texts.{behind_first, piece_before, to_byte, trim}
use Rattle.sec_round_trip.specs.Actions.{IsChange, IsCtl, IsPlainValue, IsSetVar, IsSetting, IsTail, begins_with_sign, has_equals, has_pieces, is_comma, with_link}
use Rattle.sec_round_trip.specs.Macros.{IsMacro}
use Rattle.sec_round_trip.specs.Targets.{is_empty}
use Rattle.sec_round_trip.proofs.DecimalTexts.{no_dash, number_again}
use Rattle.sec_round_trip.proofs.PieceTexts.{Follow, Says, alone_is, ends_label, follow_append, one_piece, read_pieces, plain_is, quoted_is}
use Rattle.sec_round_trip.proofs.Places.{drop_to, stops, take_to, to_at, to_end}
use Rattle.sec_round_trip.proofs.Spreads.{quoted_again}

-- ---- pieces by their form

abbrev pub with_parts : Stand → List ℕ → Option (List ℕ) → List ℕ → Acts → Result Acts Bad
with_parts stand name value text acts = with_piece stand (record { name = trim name; value = value; text = text }) acts

said : (stand : Stand) (text name : List ℕ) (value : Option (List ℕ)) (rest : List ℕ) (before after : Acts) → piece_at text ≡ ended text name value rest
    → with_parts stand name value (piece_before text rest) before ≡ Ok after → one_piece stand text before ≡ Ok (after, behind_first rest)
said stand text name value rest before after at done =
    ap (λ (r : Read). r >>= λ piece. (with_piece stand piece.0 before >>= λ next. Ok (next, piece.1))) at
    ∙ ap (λ (r : Result Acts Bad). r >>= λ next. Ok (next, behind_first rest)) done

pub alone_said : (stand : Stand) (name : List ℕ) (before after : Acts) → list_any ends_label name ≡ false → ((text : List ℕ) → with_parts stand name None text before ≡ Ok after) → Says stand name before after
alone_said stand name before after none done = λ rest end. said stand (name ++ rest) name None rest before after (alone_is name rest none end) (done (piece_before (name ++ rest) rest))

pub plain_said : (stand : Stand) (name value : List ℕ) (before after : Acts) → list_any ends_label name ≡ false → IsPlainValue value → ((text : List ℕ) → with_parts stand name (Some value) text before ≡ Ok after)
    → (rest : List ℕ) → stops is_comma rest ≡ true → one_piece stand (name ++ 58 ∷ (value ++ rest)) before ≡ Ok (after, behind_first rest)
plain_said stand name value before after none is done rest end =
    let text : List ℕ = name ++ 58 ∷ (value ++ rest) in
    said stand text name (Some value) rest before after (plain_is name value rest none is end) (done (piece_before text rest))

pub quoted_said : (stand : Stand) (name value : List ℕ) (before after : Acts) → list_any ends_label name ≡ false → ends_with_backslash value ≡ false → ((text : List ℕ) → with_parts stand name (Some value) text before ≡ Ok after)
    → (rest : List ℕ) → stops is_comma rest ≡ true → one_piece stand (name ++ 58 ∷ 39 ∷ ((escaped 39 value ++ 39 ∷ []) ++ rest)) before ≡ Ok (after, behind_first rest)
quoted_said stand name value before after none ends done rest end =
    let text : List ℕ = name ++ 58 ∷ 39 ∷ (escaped 39 value ++ 39 ∷ rest) in
    ap (λ (l : List ℕ). one_piece stand (name ++ 58 ∷ 39 ∷ l) before) (append_assoc (escaped 39 value) (39 ∷ []) rest)
    ∙ said stand text name (Some value) rest before after (quoted_is quoted_again name value rest none ends end) (done (piece_before text rest))

-- ---- what may stand in each link

module _ (named : (transform : Transform) → transform_named (transform_name transform) ≡ Some transform)
    (allowed : (transform : Transform) → is_refused_transform (transform_name transform) ≡ false)
    (others : (transform : Transform) → is_word (codes "none") (transform_name transform) ≡ false)
    (plain : (transform : Transform) → IsPlainValue (transform_name transform)) where
  transform_done : (stand : Stand) → is_link stand ≡ true → (transform : Transform) (text : List ℕ) (acts : Acts)
      → with_parts stand (codes "t") (Some (transform_name transform)) text acts ≡ Ok (record acts { transforms = acts.transforms ++ transform ∷ [] })
  unfolding with_piece action_of is_refused_action kind_named
  transform_done stands.First h transform text acts = rw (others transform, allowed transform, named transform) refl
  transform_done stands.Later h transform text acts = rw (others transform, allowed transform, named transform) refl
  transform_done stands.Defaults h transform text acts = absurd (false≢true h)

  transforms_follow : (stand : Stand) → is_link stand ≡ true → (list : List Transform) (acts : Acts) → Follow stand (map transform_text list) acts (record acts { transforms = acts.transforms ++ list })
  transforms_follow stand h [] acts = ap (λ (l : List Transform). record acts { transforms = l }) (sym (append-nil acts.transforms))
  transforms_follow stand h (transform ∷ list) acts =
      let mid : Acts = record acts { transforms = acts.transforms ++ transform ∷ [] } in (
        mid,
        plain_said stand (codes "t") (transform_name transform) acts mid refl (plain transform) (λ text. transform_done stand h transform text acts),
        subst (λ (l : List Transform). Follow stand (map transform_text list) mid (record acts { transforms = l })) (append_assoc acts.transforms (transform ∷ []) list) (transforms_follow stand h list mid),
      )

capture_done : (stand : Stand) → is_link stand ≡ true → (text : List ℕ) (acts : Acts) → with_parts stand (codes "capture") None text acts ≡ Ok (record acts { capture = true })
unfolding with_piece action_of is_refused_action kind_named
capture_done stands.First h text acts = refl
capture_done stands.Later h text acts = refl
capture_done stands.Defaults h text acts = absurd (false≢true h)

multi_done : (stand : Stand) → is_link stand ≡ true → (text : List ℕ) (acts : Acts) → with_parts stand (codes "multiMatch") None text acts ≡ Ok (record acts { multi = true })
unfolding with_piece action_of is_refused_action kind_named
multi_done stands.First h text acts = refl
multi_done stands.Later h text acts = refl
multi_done stands.Defaults h text acts = absurd (false≢true h)

chain_done : (stand : Stand) → is_link stand ≡ true → (text : List ℕ) (acts : Acts) → with_parts stand (codes "chain") None text acts ≡ Ok (record acts { chain = true })
unfolding with_piece action_of is_refused_action kind_named
chain_done stands.First h text acts = refl
chain_done stands.Later h text acts = refl
chain_done stands.Defaults h text acts = absurd (false≢true h)

capture_follows : (stand : Stand) → is_link stand ≡ true → (is_set : Bool) (acts : Acts) → acts.capture ≡ false → Follow stand (if_set (codes "capture") is_set) acts (record acts { capture = is_set })
capture_follows stand h true acts off = (record acts { capture = true }, alone_said stand (codes "capture") acts (record acts { capture = true }) refl (λ text. capture_done stand h text acts), refl)
capture_follows stand h false acts off = ap (λ (b : Bool). record acts { capture = b }) off

multi_follows : (stand : Stand) → is_link stand ≡ true → (is_set : Bool) (acts : Acts) → acts.multi ≡ false → Follow stand (if_set (codes "multiMatch") is_set) acts (record acts { multi = is_set })
multi_follows stand h true acts off = (record acts { multi = true }, alone_said stand (codes "multiMatch") acts (record acts { multi = true }) refl (λ text. multi_done stand h text acts), refl)
multi_follows stand h false acts off = ap (λ (b : Bool). record acts { multi = b }) off

chain_follows : (stand : Stand) → is_link stand ≡ true → (is_set : Bool) (acts : Acts) → acts.chain ≡ false → Follow stand (if_set (codes "chain") is_set) acts (record acts { chain = is_set })
chain_follows stand h true acts off = (record acts { chain = true }, alone_said stand (codes "chain") acts (record acts { chain = true }) refl (λ text. chain_done stand h text acts), refl)
chain_follows stand h false acts off = ap (λ (b : Bool). record acts { chain = b }) off

-- ---- ctl

identifier_range : (first last : ℕ) → first ≤ last → range_of (Some first) (Some last) ≡ Some (first, last)
identifier_range first last order = rw (le-leb first last order) refl

small_id : (n : ℕ) → n ≤ 999999999 → n < 2 ^ 64
small_id n most = omega (arith, most)

id_is : (n : ℕ) → 1 ≤ n → n ≤ 999999999 → number_in 1 999999999 (decimal n) ≡ Some n
id_is n least most = number_again 1 999999999 n least most (omega arith)

one_id : (n : ℕ) → 1 ≤ n → n ≤ 999999999 → id_range (decimal n) ≡ Some (n, n)
unfolding id_range
one_id n least most =
    let text : List ℕ = decimal n in
    let long : to_byte 45 text ≡ length text = to_end (λ b. b == 45) text (no_dash n (small_id n most)) in
    let front : take (to_byte 45 text) text ≡ text = take_all (to_byte 45 text) text (omega (arith, long)) in
    let behind : drop (to_byte 45 text) text ≡ [] = drop_all (to_byte 45 text) text (omega (arith, long)) in
    ap₂ range_from front behind ∙ ap (λ (o : Option ℕ). range_of o o) (id_is n least most) ∙ identifier_range n n (omega arith)

two_ids : (first last : ℕ) → 1 ≤ first → first ≤ last → last ≤ 999999999 → id_range (decimal first ++ 45 ∷ decimal last) ≡ Some (first, last)
unfolding id_range
two_ids first last least order most =
    let low : first ≤ 999999999 = omega (arith, order, most) in
    let text : List ℕ = decimal first ++ 45 ∷ decimal last in
    let long : to_byte 45 text ≡ length (decimal first) = to_at (λ b. b == 45) (decimal first) 45 (decimal last) (no_dash first (small_id first low)) refl in
    let front : take (to_byte 45 text) text ≡ decimal first = take_to (to_byte 45 text) (decimal first) (45 ∷ decimal last) long in
    let behind : drop (to_byte 45 text) text ≡ 45 ∷ decimal last = drop_to (to_byte 45 text) (decimal first) (45 ∷ decimal last) long in
    ap₂ range_from front behind ∙ ap₂ range_of (id_is first least low) (id_is last (omega (arith, least, order)) most) ∙ identifier_range first last order

range_is : (first last : ℕ) → 1 ≤ first → first ≤ last → last ≤ 999999999 → id_range (range_text first last) ≡ Some (first, last)
range_is first last least order most =
    elim (cases_Bool (first == last)) [
      | inl is ↦
          let same : first ≡ last = eqb-true first last is in
          rw is (one_id first least (omega (arith, order, most)) ∙ ap (λ n. Some (first, n)) same)
      | inr not_is ↦
          rw not_is (ap id_range (append_assoc (decimal first) (45 ∷ []) (decimal last)) ∙ two_ids first last least order most)
    ]

module _ (engines : (engine : Engine) → engine_named (engine_name engine) ≡ Some engine) where
  switch_is : (is_on : Bool) → switch_named (switch_text is_on) ≡ Some is_on
  unfolding switch_named
  switch_is true = refl
  switch_is false = refl

  -- where it may stand at all, in the first link and in a later one alike
  ctl_first : (ctl : Ctl) → IsSetting ctl → (text : List ℕ) (acts : Acts)
      → with_parts stands.First (codes "ctl") (Some (change_of_setting ctl)) text acts ≡ Ok (record acts { ctls = acts.ctls ++ ctl ∷ [] })
  unfolding with_piece action_of is_refused_action kind_named ctl_of ctl_named is_refused_ctl processor_named
  ctl_first (ctls.Engine engine) is text acts = rw (engines engine) refl
  ctl_first (ctls.RequestBody is_on) is text acts = rw (switch_is is_on) refl
  ctl_first (ctls.ResponseBody is_on) is text acts = rw (switch_is is_on) refl
  ctl_first (ctls.Body processors.Plain) is text acts = absurd is
  ctl_first (ctls.Body processors.Urlencoded) is text acts = refl
  ctl_first (ctls.Body processors.Xml) is text acts = refl
  ctl_first (ctls.RemoveById first last) is text acts = rw (range_is first last is.0 is.1 is.2) refl
  ctl_first (ctls.RemoveByTag []) is text acts = absurd cc
  ctl_first (ctls.RemoveByTag (b ∷ tag)) is text acts = refl

  ctl_later : (ctl : Ctl) → IsSetting ctl → (text : List ℕ) (acts : Acts)
      → with_parts stands.Later (codes "ctl") (Some (change_of_setting ctl)) text acts ≡ Ok (record acts { ctls = acts.ctls ++ ctl ∷ [] })
  unfolding with_piece action_of is_refused_action kind_named ctl_of ctl_named is_refused_ctl processor_named
  ctl_later (ctls.Engine engine) is text acts = rw (engines engine) refl
  ctl_later (ctls.RequestBody is_on) is text acts = rw (switch_is is_on) refl
  ctl_later (ctls.ResponseBody is_on) is text acts = rw (switch_is is_on) refl
  ctl_later (ctls.Body processors.Plain) is text acts = absurd is
  ctl_later (ctls.Body processors.Urlencoded) is text acts = refl
  ctl_later (ctls.Body processors.Xml) is text acts = refl
  ctl_later (ctls.RemoveById first last) is text acts = rw (range_is first last is.0 is.1 is.2) refl
  ctl_later (ctls.RemoveByTag []) is text acts = absurd cc
  ctl_later (ctls.RemoveByTag (b ∷ tag)) is text acts = refl

  ctl_done : (stand : Stand) → is_link stand ≡ true → (ctl : Ctl) → IsSetting ctl → (text : List ℕ) (acts : Acts)
      → with_parts stand (codes "ctl") (Some (change_of_setting ctl)) text acts ≡ Ok (record acts { ctls = acts.ctls ++ ctl ∷ [] })
  ctl_done stands.First h ctl is text acts = ctl_first ctl is text acts
  ctl_done stands.Later h ctl is text acts = ctl_later ctl is text acts
  ctl_done stands.Defaults h ctl is text acts = absurd (false≢true h)

  ctls_follow : (stand : Stand) → is_link stand ≡ true → (list : List Ctl) (acts : Acts) → AllByRecursion IsCtl list → Follow stand (map ctl_text list) acts (record acts { ctls = acts.ctls ++ list })
  ctls_follow stand h [] acts is = ap (λ (l : List Ctl). record acts { ctls = l }) (sym (append-nil acts.ctls))
  ctls_follow stand h (ctl ∷ list) acts is =
      let mid : Acts = record acts { ctls = acts.ctls ++ ctl ∷ [] } in (
        mid,
        quoted_said stand (codes "ctl") (change_of_setting ctl) acts mid refl is.0.1 (λ text. ctl_done stand h ctl is.0.0 text acts),
        subst (λ (l : List Ctl). Follow stand (map ctl_text list) mid (record acts { ctls = l })) (append_assoc acts.ctls (ctl ∷ []) list) (ctls_follow stand h list mid is.1),
      )

-- ---- setvar

no_beginning : (p : Bool) → (p && false) ≡ false
no_beginning true = refl
no_beginning false = refl

kept_collection : (rest : List ℕ) → is_refused_collection (116 ∷ 120 ∷ 46 ∷ rest) ≡ false
unfolding is_refused_collection
kept_collection rest =
    rw (
      no_beginning (nat_le 3 (length (116 ∷ 120 ∷ 46 ∷ rest))),
      no_beginning (nat_le 8 (length (116 ∷ 120 ∷ 46 ∷ rest))),
      no_beginning (nat_le 5 (length (116 ∷ 120 ∷ 46 ∷ rest))),
      no_beginning (nat_le 7 (length (116 ∷ 120 ∷ 46 ∷ rest))),
      no_beginning (nat_le 9 (length (116 ∷ 120 ∷ 46 ∷ rest))),
    ) refl

is_of_tx_is : (rest : List ℕ) → is_of_tx (116 ∷ 120 ∷ 46 ∷ rest) ≡ true
unfolding is_of_tx
is_of_tx_is rest = rw (le-leb 3 (length (116 ∷ 120 ∷ 46 ∷ rest)) (omega arith)) refl

module _ (macros : (macro : List Part) → IsMacro macro → macro_of (macro_text macro) ≡ Ok macro) where
  put_is : (text : List ℕ) (value : List Part) → macro_of text ≡ Ok value → begins_with_sign text ≡ false → change_to text ≡ Ok (changes.Put value)
  put_is [] value read h = rw read refl
  put_is (b ∷ text) value read h =
      let both = or_parts (b == 43) (b == 45) h in rw (both.0, both.1, read) refl

  add_is : (value : List Part) → IsMacro value → change_to (43 ∷ macro_text value) ≡ Ok (changes.Add value)
  add_is value is = rw (macros value is) refl

  sub_is : (value : List Part) → IsMacro value → change_to (45 ∷ macro_text value) ≡ Ok (changes.Sub value)
  sub_is value is = rw (macros value is) refl

  assigned_first : (name value : List ℕ) (parts : List Part) (change : Change) → macro_of name ≡ Ok parts → is_empty name ≡ false → has_equals name ≡ false → change_to value ≡ Ok change → (text : List ℕ) (acts : Acts)
      → with_parts stands.First (codes "setvar") (Some (116 ∷ 120 ∷ 46 ∷ (name ++ 61 ∷ value))) text acts ≡ Ok (record acts { setvars = acts.setvars ++ record { name = parts; change = change } ∷ [] })
  unfolding with_piece action_of is_refused_action kind_named setvar_of
  assigned_first [] value parts change read some none changed text acts = absurd cc
  assigned_first (b ∷ name) value parts change read some none changed text acts =
      let whole : List ℕ = (b ∷ name) ++ 61 ∷ value in
      let long : to_byte 61 whole ≡ length (b ∷ name) = to_at (λ b. b == 61) (b ∷ name) 61 value none refl in
      let front : take (to_byte 61 whole) whole ≡ b ∷ name = take_to (to_byte 61 whole) (b ∷ name) (61 ∷ value) long in
      let behind : drop (to_byte 61 whole) whole ≡ 61 ∷ value = drop_to (to_byte 61 whole) (b ∷ name) (61 ∷ value) long in
      rw (kept_collection whole, is_of_tx_is whole, front, behind, read, changed) refl

  assigned_later : (name value : List ℕ) (parts : List Part) (change : Change) → macro_of name ≡ Ok parts → is_empty name ≡ false → has_equals name ≡ false → change_to value ≡ Ok change → (text : List ℕ) (acts : Acts)
      → with_parts stands.Later (codes "setvar") (Some (116 ∷ 120 ∷ 46 ∷ (name ++ 61 ∷ value))) text acts ≡ Ok (record acts { setvars = acts.setvars ++ record { name = parts; change = change } ∷ [] })
  unfolding with_piece action_of is_refused_action kind_named setvar_of
  assigned_later [] value parts change read some none changed text acts = absurd cc
  assigned_later (b ∷ name) value parts change read some none changed text acts =
      let whole : List ℕ = (b ∷ name) ++ 61 ∷ value in
      let long : to_byte 61 whole ≡ length (b ∷ name) = to_at (λ b. b == 61) (b ∷ name) 61 value none refl in
      let front : take (to_byte 61 whole) whole ≡ b ∷ name = take_to (to_byte 61 whole) (b ∷ name) (61 ∷ value) long in
      let behind : drop (to_byte 61 whole) whole ≡ 61 ∷ value = drop_to (to_byte 61 whole) (b ∷ name) (61 ∷ value) long in
      rw (kept_collection whole, is_of_tx_is whole, front, behind, read, changed) refl

  deleted_done : (stand : Stand) → is_link stand ≡ true → (name : List ℕ) (parts : List Part) → macro_of name ≡ Ok parts → is_empty name ≡ false → (text : List ℕ) (acts : Acts)
      → with_parts stand (codes "setvar") (Some (33 ∷ 116 ∷ 120 ∷ 46 ∷ name)) text acts ≡ Ok (record acts { setvars = acts.setvars ++ record { name = parts; change = changes.Delete } ∷ [] })
  unfolding with_piece action_of is_refused_action kind_named setvar_of
  deleted_done stand h [] parts read some text acts = absurd cc
  deleted_done stands.First h (b ∷ name) parts read some text acts = rw (kept_collection (b ∷ name), is_of_tx_is (b ∷ name), read) refl
  deleted_done stands.Later h (b ∷ name) parts read some text acts = rw (kept_collection (b ∷ name), is_of_tx_is (b ∷ name), read) refl
  deleted_done stands.Defaults h (b ∷ name) parts read some text acts = absurd (false≢true h)

  assigned_done : (stand : Stand) → is_link stand ≡ true → (name value : List ℕ) (parts : List Part) (change : Change) → macro_of name ≡ Ok parts → is_empty name ≡ false → has_equals name ≡ false → change_to value ≡ Ok change → (text : List ℕ) (acts : Acts)
      → with_parts stand (codes "setvar") (Some (116 ∷ 120 ∷ 46 ∷ (name ++ 61 ∷ value))) text acts ≡ Ok (record acts { setvars = acts.setvars ++ record { name = parts; change = change } ∷ [] })
  assigned_done stands.First h name value parts change read some none changed text acts = assigned_first name value parts change read some none changed text acts
  assigned_done stands.Later h name value parts change read some none changed text acts = assigned_later name value parts change read some none changed text acts
  assigned_done stands.Defaults h name value parts change read some none changed text acts = absurd (false≢true h)

  -- a value is written behind the name and =
  change_done : (stand : Stand) → is_link stand ≡ true → (name : List Part) (change : Change) → IsMacro name → is_empty (macro_text name) ≡ false → IsChange (macro_text name) change → (text : List ℕ) (acts : Acts)
      → with_parts stand (codes "setvar") (Some (change_text (macro_text name) change)) text acts ≡ Ok (record acts { setvars = acts.setvars ++ record { name = name; change = change } ∷ [] })
  change_done stand h name (changes.Put value) is some c text acts =
      let n : List ℕ = macro_text name in
      let grouped : (n ++ 61 ∷ []) ++ macro_text value ≡ n ++ 61 ∷ macro_text value = append_assoc n (61 ∷ []) (macro_text value) in
      ap (λ (l : List ℕ). with_parts stand (codes "setvar") (Some (116 ∷ 120 ∷ 46 ∷ l)) text acts) grouped
      ∙ assigned_done stand h n (macro_text value) name (changes.Put value) (macros name is) some c.0 (put_is (macro_text value) value (macros value c.1) c.2) text acts
  change_done stand h name (changes.Add value) is some c text acts =
      let n : List ℕ = macro_text name in
      let grouped : (n ++ 61 ∷ 43 ∷ []) ++ macro_text value ≡ n ++ 61 ∷ 43 ∷ macro_text value = append_assoc n (61 ∷ 43 ∷ []) (macro_text value) in
      ap (λ (l : List ℕ). with_parts stand (codes "setvar") (Some (116 ∷ 120 ∷ 46 ∷ l)) text acts) grouped
      ∙ assigned_done stand h n (43 ∷ macro_text value) name (changes.Add value) (macros name is) some c.0 (add_is value c.1) text acts
  change_done stand h name (changes.Sub value) is some c text acts =
      let n : List ℕ = macro_text name in
      let grouped : (n ++ 61 ∷ 45 ∷ []) ++ macro_text value ≡ n ++ 61 ∷ 45 ∷ macro_text value = append_assoc n (61 ∷ 45 ∷ []) (macro_text value) in
      ap (λ (l : List ℕ). with_parts stand (codes "setvar") (Some (116 ∷ 120 ∷ 46 ∷ l)) text acts) grouped
      ∙ assigned_done stand h n (45 ∷ macro_text value) name (changes.Sub value) (macros name is) some c.0 (sub_is value c.1) text acts
  change_done stand h name changes.Delete is some c text acts = deleted_done stand h (macro_text name) name (macros name is) some text acts

  setvars_follow : (stand : Stand) → is_link stand ≡ true → (list : List SetVar) (acts : Acts) → AllByRecursion IsSetVar list → Follow stand (map setvar_text list) acts (record acts { setvars = acts.setvars ++ list })
  setvars_follow stand h [] acts is = ap (λ (l : List SetVar). record acts { setvars = l }) (sym (append-nil acts.setvars))
  setvars_follow stand h (setvar ∷ list) acts is =
      let mid : Acts = record acts { setvars = acts.setvars ++ setvar ∷ [] } in (
        mid,
        quoted_said stand (codes "setvar") (change_text (macro_text setvar.name) setvar.change) acts mid refl is.0.ends
            (λ text. change_done stand h setvar.name setvar.change is.0.name is.0.some is.0.change text acts),
        subst (λ (l : List SetVar). Follow stand (map setvar_text list) mid (record acts { setvars = l })) (append_assoc acts.setvars (setvar ∷ []) list) (setvars_follow stand h list mid is.1),
      )

-- ---- the actions of a link, which stand behind those of its rule or alone

module _ (macros : (macro : List Part) → IsMacro macro → macro_of (macro_text macro) ≡ Ok macro) (engines : (engine : Engine) → engine_named (engine_name engine) ≡ Some engine)
    (named : (transform : Transform) → transform_named (transform_name transform) ≡ Some transform)
    (allowed : (transform : Transform) → is_refused_transform (transform_name transform) ≡ false)
    (others : (transform : Transform) → is_word (codes "none") (transform_name transform) ≡ false)
    (plain : (transform : Transform) → IsPlainValue (transform_name transform)) where
  pub link_follows : (stand : Stand) → is_link stand ≡ true → (link : Link) (follows : Bool) (acts : Acts) → IsTail link
      → acts.transforms ≡ [] → acts.capture ≡ false → acts.multi ≡ false → acts.setvars ≡ [] → acts.ctls ≡ [] → acts.chain ≡ false
      → Follow stand (link_pieces link follows) acts (with_link link follows acts)
  unfolding link_pieces
  link_follows stand h link follows acts is t c m s k f =
      let a1 : Acts = record acts { transforms = acts.transforms ++ link.transforms } in
      let a2 : Acts = record a1 { capture = link.capture } in
      let a3 : Acts = record a2 { multi = link.multi } in
      let a4 : Acts = record a3 { setvars = acts.setvars ++ link.setvars } in
      let a5 : Acts = record a4 { ctls = acts.ctls ++ link.ctls } in
      let a6 : Acts = record a5 { chain = follows } in
      let p1 = map transform_text link.transforms in
      let p2 = if_set (codes "capture") link.capture in
      let p3 = if_set (codes "multiMatch") link.multi in
      let p4 = map setvar_text link.setvars in
      let p5 = map ctl_text link.ctls in
      let p6 = if_set (codes "chain") follows in
      let f1 : Follow stand p1 acts a1 = transforms_follow named allowed others plain stand h link.transforms acts in
      let f2 : Follow stand p2 a1 a2 = capture_follows stand h link.capture a1 c in
      let f3 : Follow stand p3 a2 a3 = multi_follows stand h link.multi a2 m in
      let f4 : Follow stand p4 a3 a4 = setvars_follow macros stand h link.setvars a3 is.setvars in
      let f5 : Follow stand p5 a4 a5 = ctls_follow engines stand h link.ctls a4 is.ctls in
      let f6 : Follow stand p6 a5 a6 = chain_follows stand h follows a5 f in
      let g2 : Follow stand (p1 ++ p2) acts a2 = follow_append stand p1 p2 acts a1 a2 f1 f2 in
      let g3 : Follow stand (p1 ++ p2 ++ p3) acts a3 = follow_append stand (p1 ++ p2) p3 acts a2 a3 g2 f3 in
      let g4 : Follow stand (p1 ++ p2 ++ p3 ++ p4) acts a4 = follow_append stand (p1 ++ p2 ++ p3) p4 acts a3 a4 g3 f4 in
      let g5 : Follow stand (p1 ++ p2 ++ p3 ++ p4 ++ p5) acts a5 = follow_append stand (p1 ++ p2 ++ p3 ++ p4) p5 acts a4 a5 g4 f5 in
      let g6 : Follow stand (p1 ++ p2 ++ p3 ++ p4 ++ p5 ++ p6) acts a6 = follow_append stand (p1 ++ p2 ++ p3 ++ p4 ++ p5) p6 acts a5 a6 g5 f6 in
      let done : a6 ≡ with_link link follows acts =
      ap (λ (l : List Transform). record a6 { transforms = l ++ link.transforms }) t
      ∙ ap (λ (l : List SetVar). record a6 { transforms = link.transforms; setvars = l ++ link.setvars }) s
      ∙ ap (λ (l : List Ctl). record a6 { transforms = link.transforms; setvars = link.setvars; ctls = l ++ link.ctls }) k in
      subst (λ (x : Acts). Follow stand (p1 ++ p2 ++ p3 ++ p4 ++ p5 ++ p6) acts x) done g6

  pub later_read : (link : Link) (follows : Bool) → IsTail link → has_pieces (link_pieces link follows) ≡ true
      → actions_in stands.Later (join_with_byte 44 (link_pieces link follows)) ≡ Ok (with_link link follows no_acts)
  later_read link follows is some =
      read_pieces stands.Later (link_pieces link follows) (with_link link follows no_acts) some
      (link_follows stands.Later refl link follows no_acts is refl refl refl refl refl refl)
