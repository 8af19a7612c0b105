-- The actions that were read from a list are read back from their own text.
use Rattle.std.proofs.Common.{◌^◌, ◌≡◌, ℕ, zero, suc, ◌+◌, ◌<◌, ◌≤◌, Bool, true, false, cond, List, [], ◌∷◌, ◌++◌, length, take, drop, Option, Some, None, Ok, refl, sym, ap, ◌∙◌, arith, inl, inr, codes, decimal}
use Rattle.std.specs.Prelude.{◌&&◌, ◌||◌, ◌==◌, nat_le, nat_lt}
use Rattle.std.specs.Char.{to_ascii_lowercase}
use Rattle.std.specs.List.{AllByRecursion, list_all}
use Rattle.std.proofs.lemmas.Bool.{and_parts, cases_Bool, eqb-true, false≢true, leb-true, ltb-false}
use Rattle.sec_ast.specs.PrintActions.{change_of_setting, change_text, range_text, switch_text}
use Rattle.sec_ast.specs.PrintMacros.{macro_text}
use Rattle.sec_ast.specs.Settings.{engine_name, engine_named, processor_named}
use Rattle.sec_ast.specs.Transform.{transform_named}
use Rattle.sec_ast.specs.declared.action.Change.{Change}
use Rattle.sec_ast.specs.declared.action.Change.TheVariants as changes
use Rattle.sec_ast.specs.declared.action.Ctl.{Ctl}
use Rattle.sec_ast.specs.declared.action.Disrupt.{Disrupt}
use Rattle.sec_ast.specs.declared.action.Disrupt.TheVariants as disrupts
use Rattle.sec_ast.specs.declared.action.SetVar.{SetVar}
use Rattle.sec_ast.specs.declared.macros.Part.{Part}
use Rattle.sec_ast.specs.declared.macros.Part.TheVariants as parts
use Rattle.sec_ast.specs.declared.settings.Engine.{Engine}
use Rattle.sec_ast.specs.declared.settings.Engine.TheVariants as engines
use Rattle.sec_ast.specs.declared.settings.Processor.{Processor}
use Rattle.sec_ast.specs.declared.settings.Processor.TheVariants as processors
use Rattle.sec_ast.specs.declared.transform.Transform.{Transform}
use Rattle.sec_text.specs.Quotes.{is_blank, quoted}
use Rattle.sec_parts.specs.declared.actions.Action.{Action}
use Rattle.sec_parts.specs.declared.actions.Action.TheVariants as actions
use Rattle.sec_parts.specs.declared.acts.Acts.{Acts}
use Rattle.sec_parts.specs.declared.controls.CtlKind.{CtlKind}
use Rattle.sec_parts.specs.declared.controls.CtlKind.TheVariants as controls
use Rattle.sec_parts.specs.declared.kinds.Kind.{Kind}
use Rattle.sec_parts.specs.declared.kinds.Kind.TheVariants as kinds
use Rattle.sec_parts.specs.declared.kinds.Stand.{Stand}
use Rattle.sec_parts.specs.declared.pieces.Piece.{Piece}
use Rattle.sec_parts.specs.Actions.{action_of, allow_of, alone, id_of, is_defaults, is_word, label_of, logdata_of, msg_of, of_kind, or_bad, phase_in, phase_of, redirect_of, said, skip_of, status_of, transform_in, transform_of, with_value}
use Rattle.sec_parts.specs.Acts.{actions_in, added, no_acts, pieces_in, repeats, with_action, with_piece}
use Rattle.sec_parts.specs.Changes.{assigned, assignment, body_ctl, change_of, change_to, ctl_named, ctl_of, delete_of, deletion, engine_ctl, id_range, identifier, is_of_tx, is_refused_collection, is_refused_ctl, known_ctl, of_ctl, put_of, range_from, range_of, remove_by_id_ctl, remove_by_tag_ctl, request_body_ctl, response_body_ctl, set_ctl, setvar_of, switch_named}
use Rattle.sec_parts.specs.Kinds.{is_refused_action, is_refused_transform, kind_named, may_stand}
use Rattle.sec_parts.specs.Macros.{macro_of}
use Rattle.sec_parts.specs.Numbers.{is_number, number_in, value_of}
use Rattle.sec_parts.specs.Pieces.{behind_name, closed, ended, piece_at, plain, valued}
use Rattle.sec_parts.specs.Results.{◌>>=◌, bad, refused}
use Rattle.sec_parts.specs.Texts.{behind_first, ends_open, piece_before, skip_blanks, to_byte, to_either, trim_end}
use Rattle.sec_round_trip.specs.Actions.{IsChange, IsCtl, IsNumber, IsSetVar, begins_with_sign, has_equals}
use Rattle.sec_round_trip.specs.Macros.{IsMacro}
use Rattle.sec_round_trip.specs.Targets.{is_empty}
use Rattle.sec_round_trip.proofs.AddressReads.{decimal_bytes}
use Rattle.sec_round_trip.proofs.Alike.{Alike, empty_alike, ends_alike, sign_alike}
use Rattle.sec_round_trip.proofs.FineTexts.{blank_low, FineQuoted, IsFine, IsLow, begins_ascii, fine_append, fine_at, fine_behind, fine_end, fine_from, fine_printed, fine_skip, fine_to, low_at, low_byte, low_two, quoted_from}
use Rattle.sec_parts.proofs.Given.{Given, all_push, given_bind, given_from, given_if}
use Rattle.sec_round_trip.proofs.MacroReads.{before_first}
use Rattle.sec_round_trip.proofs.OperatorReads.{word_graph}
use Rattle.sec_round_trip.proofs.ReadTexts.{Ends, last_is, quoted_ends}
use Rattle.sec_round_trip.proofs.Sound.{IsSound, is_graph, ends_drop, ends_tail, graphs_clean, sound_append, sound_behind, sound_of}

comma_low : IsLow (λ b. b == 44)
comma_low = low_byte 44 refl

-- ---- a piece: its value, and what is left behind it

abbrev FineLeft : Option (List ℕ) → Type 0
FineLeft None = Unit {0}
FineLeft (Some text) = IsFine text

abbrev SoundValue : Option (List ℕ) → Type 0
SoundValue None = Unit {0}
SoundValue (Some text) = IsSound text

abbrev IsPiece : Piece × Option (List ℕ) → Type 0
IsPiece x = SoundValue x.0.value × FineLeft x.1

left_fine : (rest : List ℕ) → begins_ascii rest ≡ true → IsFine rest → FineLeft (behind_first rest)
left_fine [] low fine = tt
left_fine (b ∷ rest) low fine = fine_behind true b rest low fine

ended_gives : (text name : List ℕ) (value : Option (List ℕ)) (rest : List ℕ) → SoundValue value → begins_ascii rest ≡ true → IsFine rest → Given IsPiece (ended text name value rest)
ended_gives text name value rest is low fine = (is, left_fine rest low fine)

closed_gives : (text name : List ℕ) (o : Option (List ℕ × List ℕ)) → Ends o → FineQuoted true [] o → Given IsPiece (closed text name o)
closed_gives text name None ends fine = tt
closed_gives text name (Some x) ends fine =
    let rest : List ℕ = drop (to_byte 44 x.1) x.1 in
    given_if IsPiece (list_all is_blank (take (to_byte 44 x.1) x.1)) (ended text name (Some x.0) rest) (bad (piece_before text rest))
    (λ h. ended_gives text name (Some x.0) rest (record { fine = fine.0; ends = ends }) (low_at (λ b. b == 44) comma_low x.1) (fine_from true (λ b. b == 44) comma_low x.1 fine.1)) (λ h. tt)

plain_gives : (text name here : List ℕ) → IsFine here → Given IsPiece (plain text name here)
plain_gives text name here fine =
    let front : List ℕ = take (to_byte 44 here) here in
    let value : List ℕ = trim_end front in
    let rest : List ℕ = drop (to_byte 44 here) here in
    given_if IsPiece (ends_open value) (bad (piece_before text rest)) (ended text name (Some value) rest) (λ h. tt)
    (λ h. ended_gives text name (Some value) rest
    (record { fine = fine_end true is_blank blank_low front (fine_to true (λ b. b == 44) comma_low here fine); ends = last_is value ∙ h })
    (low_at (λ b. b == 44) comma_low here) (fine_from true (λ b. b == 44) comma_low here fine))

value_at : (text name here : List ℕ) → IsFine here → Given IsPiece (valued text name here)
value_at text name [] fine = plain_gives text name [] fine
value_at text name (b ∷ rest) fine =
    given_if IsPiece (b == 39) (closed text name (quoted 39 rest)) (plain text name (b ∷ rest))
    (λ h. closed_gives text name (quoted 39 rest) (quoted_ends 39 refl rest) (quoted_from true 39 refl [] rest (fine_behind true b rest (low_byte 39 refl b h) fine)))
    (λ h. plain_gives text name (b ∷ rest) fine)

behind_gives : (text name rest : List ℕ) → begins_ascii rest ≡ true → IsFine rest → Given IsPiece (behind_name text name rest)
behind_gives text name [] low fine = ended_gives text name None [] tt refl fine
behind_gives text name (b ∷ rest) low fine =
    given_if IsPiece (b == 58) (valued text name (skip_blanks rest)) (ended text name None (b ∷ rest))
    (λ h. value_at text name (skip_blanks rest) (fine_skip true is_blank blank_low rest (fine_behind true b rest low fine))) (λ h. ended_gives text name None (b ∷ rest) tt low fine)

either_low : IsLow (λ b. (b == 44) || (b == 58))
either_low = low_two 44 58 refl refl

pub piece_gives : (text : List ℕ) → IsFine text → Given IsPiece (piece_at text)
unfolding piece_at
piece_gives text fine =
    behind_gives text (take (to_either 44 58 text) text) (drop (to_either 44 58 text) text) (low_at (λ b. (b == 44) || (b == 58)) either_low text) (fine_from true (λ b. (b == 44) || (b == 58)) either_low text fine)

-- ---- what each action is

abbrev pub Within : ℕ → ℕ → Option ℕ → Type 0
Within low high None = Unit {0}
Within low high (Some n) = (low ≤ n) × (n ≤ high)

abbrev pub GoodMacro : List Part → Type 0
GoodMacro macro = IsMacro macro × IsSound (macro_text macro)

abbrev pub GoodDisrupt : Disrupt → Type 0
GoodDisrupt (disrupts.Redirect location) = GoodMacro location × (is_empty (macro_text location) ≡ false)
GoodDisrupt other = Unit {0}

abbrev pub GoodLabel : List ℕ → Type 0
GoodLabel label = IsSound label × (is_empty label ≡ false)

abbrev pub GoodSetVar : SetVar → Type 0
GoodSetVar setvar = IsSetVar setvar × IsFine (change_text (macro_text setvar.name) setvar.change)

abbrev pub GoodCtl : Ctl → Type 0
GoodCtl ctl = IsCtl ctl × IsFine (change_of_setting ctl)

abbrev IsAction : Action → Type 0
IsAction (actions.Id n) = Within 1 999999999 (Some n)
IsAction (actions.Phase n) = Within 1 5 (Some n)
IsAction (actions.Msg macro) = GoodMacro macro
IsAction (actions.Logdata macro) = GoodMacro macro
IsAction (actions.Tag tag) = IsSound tag
IsAction (actions.Log is_logged) = Unit {0}
IsAction (actions.Disrupt disrupt) = GoodDisrupt disrupt
IsAction actions.Block = Unit {0}
IsAction (actions.Status n) = Within 100 999 (Some n)
IsAction (actions.Skip n) = Within 1 20000 (Some n)
IsAction (actions.SkipAfter label) = GoodLabel label
IsAction actions.Chain = Unit {0}
IsAction actions.NoTransforms = Unit {0}
IsAction (actions.Transform transform) = Unit {0}
IsAction actions.Capture = Unit {0}
IsAction actions.MultiMatch = Unit {0}
IsAction (actions.SetVar setvar) = GoodSetVar setvar
IsAction (actions.Ctl ctl) = GoodCtl ctl
IsAction actions.Nothing = Unit {0}

-- ---- numbers

number_if : (low high n : ℕ) (p q r : Bool) → nat_le low n ≡ q → nat_le n high ≡ r → Within low high (cond ((p && q) && r) (Some n) None)
number_if low high n true true true least most = (leb-true low n least, leb-true n high most)
number_if low high n true true false least most = tt
number_if low high n true false r least most = tt
number_if low high n false q r least most = tt

pub number_within : (low high : ℕ) (text : List ℕ) → Within low high (number_in low high text)
number_within low high text = number_if low high (value_of text) (is_number text) (nat_le low (value_of text)) (nat_le (value_of text) high) refl refl

within_if : (low high : ℕ) (p : Bool) (x y : Option ℕ) → Within low high x → Within low high y → Within low high (cond p x y)
within_if low high true x y a b = a
within_if low high false x y a b = b

or_bad_gives : (piece : List ℕ) (low high : ℕ) (o : Option ℕ) (make : ℕ → Action) → Within low high o → ((n : ℕ) → (low ≤ n) × (n ≤ high) → IsAction (make n)) → Given IsAction (or_bad piece o make)
or_bad_gives piece low high None make is made = tt
or_bad_gives piece low high (Some n) make is made = made n is

id_gives : (piece text : List ℕ) → Given IsAction (id_of piece text)
id_gives piece text = or_bad_gives piece 1 999999999 (number_in 1 999999999 text) (λ n. actions.Id n) (number_within 1 999999999 text) (λ n h. h)

phase_within : (text : List ℕ) → Within 1 5 (phase_in text)
unfolding phase_in
phase_within text =
    within_if 1 5 (is_word (codes "request") text) (Some 2) _ (omega arith, omega arith) (within_if 1 5 (is_word (codes "response") text) (Some 4) _ (omega arith, omega arith)
    (within_if 1 5 (is_word (codes "logging") text) (Some 5) (number_in 1 5 text) (omega arith, omega arith) (number_within 1 5 text)))

phase_gives : (piece text : List ℕ) → Given IsAction (phase_of piece text)
phase_gives piece text = or_bad_gives piece 1 5 (phase_in text) (λ n. actions.Phase n) (phase_within text) (λ n h. h)

status_gives : (piece text : List ℕ) → Given IsAction (status_of piece text)
status_gives piece text = or_bad_gives piece 100 999 (number_in 100 999 text) (λ n. actions.Status n) (number_within 100 999 text) (λ n h. h)

skip_gives : (piece text : List ℕ) → Given IsAction (skip_of piece text)
skip_gives piece text = or_bad_gives piece 1 20000 (number_in 1 20000 text) (λ n. actions.Skip n) (number_within 1 20000 text) (λ n h. h)

-- ---- words

label_gives : (piece text : List ℕ) → IsSound text → Given IsAction (label_of piece text)
label_gives piece [] is = tt
label_gives piece (b ∷ text) is = (is, refl)

allow_gives : (piece text : List ℕ) → Given IsAction (allow_of piece text)
allow_gives piece text =
    given_if IsAction (is_word (codes "phase") text) (Ok (actions.Disrupt disrupts.AllowPhase)) _ (λ h. tt)
    (λ h. given_if IsAction (is_word (codes "request") text) (Ok (actions.Disrupt disrupts.AllowRequest)) (bad piece) (λ i. tt) (λ i. tt))

transform_in_gives : (piece : List ℕ) (o : Option Transform) → Given IsAction (transform_in piece o)
transform_in_gives piece None = tt
transform_in_gives piece (Some transform) = tt

transform_gives : (in_defaults : Bool) (piece text : List ℕ) → Given IsAction (transform_of in_defaults piece text)
transform_gives in_defaults piece text =
    given_if IsAction (is_word (codes "none") text) (Ok actions.NoTransforms) _ (λ h. tt)
    (λ h. given_if IsAction in_defaults (bad piece) _ (λ i. tt)
    (λ i. given_if IsAction (is_refused_transform text) (refused text) (transform_in piece (transform_named text)) (λ j. tt) (λ j. transform_in_gives piece (transform_named text))))

alone_gives : (piece : List ℕ) (kind : Kind) → Given IsAction (alone piece kind)
alone_gives piece kinds.Id = tt
alone_gives piece kinds.Phase = tt
alone_gives piece kinds.Msg = tt
alone_gives piece kinds.Logdata = tt
alone_gives piece kinds.Tag = tt
alone_gives piece kinds.Log = tt
alone_gives piece kinds.Nolog = tt
alone_gives piece kinds.Pass = tt
alone_gives piece kinds.Deny = tt
alone_gives piece kinds.Drop = tt
alone_gives piece kinds.Redirect = tt
alone_gives piece kinds.Allow = tt
alone_gives piece kinds.Block = tt
alone_gives piece kinds.Status = tt
alone_gives piece kinds.Skip = tt
alone_gives piece kinds.SkipAfter = tt
alone_gives piece kinds.Chain = tt
alone_gives piece kinds.T = tt
alone_gives piece kinds.Capture = tt
alone_gives piece kinds.MultiMatch = tt
alone_gives piece kinds.Setvar = tt
alone_gives piece kinds.Ctl = tt
alone_gives piece kinds.Auditlog = tt
alone_gives piece kinds.Noauditlog = tt
alone_gives piece kinds.Severity = tt
alone_gives piece kinds.Ver = tt
alone_gives piece kinds.Rev = tt
alone_gives piece kinds.Maturity = tt
alone_gives piece kinds.Accuracy = tt

-- ---- ctl

pub engine_ends : (engine : Engine) → IsSound (engine_name engine)
engine_ends engines.On = sound_of (codes "On") (graphs_clean (codes "On") refl)
engine_ends engines.Off = sound_of (codes "Off") (graphs_clean (codes "Off") refl)
engine_ends engines.DetectionOnly = sound_of (codes "DetectionOnly") (graphs_clean (codes "DetectionOnly") refl)

pub switch_ends : (is_on : Bool) → IsSound (switch_text is_on)
switch_ends true = sound_of (codes "On") (graphs_clean (codes "On") refl)
switch_ends false = sound_of (codes "Off") (graphs_clean (codes "Off") refl)

pub graph_sound : (text : List ℕ) → list_all is_graph text ≡ true → IsSound text
graph_sound text h = sound_of text (graphs_clean text h)

engine_gives : (piece : List ℕ) (o : Option Engine) → Given IsAction (engine_ctl piece o)
engine_gives piece None = tt
engine_gives piece (Some engine) =
    let sound : IsSound (codes "ruleEngine=" ++ engine_name engine) = sound_append (codes "ruleEngine=") (engine_name engine) (graph_sound (codes "ruleEngine=") refl) (engine_ends engine) in
    ((tt, sound.ends), sound.fine)

request_gives : (piece : List ℕ) (o : Option Bool) → Given IsAction (request_body_ctl piece o)
request_gives piece None = tt
request_gives piece (Some is_on) =
    let sound : IsSound (codes "requestBodyAccess=" ++ switch_text is_on) = sound_append (codes "requestBodyAccess=") (switch_text is_on) (graph_sound (codes "requestBodyAccess=") refl) (switch_ends is_on) in
    ((tt, sound.ends), sound.fine)

response_gives : (piece : List ℕ) (o : Option Bool) → Given IsAction (response_body_ctl piece o)
response_gives piece None = tt
response_gives piece (Some is_on) =
    let sound : IsSound (codes "responseBodyAccess=" ++ switch_text is_on) = sound_append (codes "responseBodyAccess=") (switch_text is_on) (graph_sound (codes "responseBodyAccess=") refl) (switch_ends is_on) in
    ((tt, sound.ends), sound.fine)

abbrev SomeProcessor : Option Processor → Type 0
SomeProcessor None = Unit {0}
SomeProcessor (Some processors.Plain) = ⊥
SomeProcessor (Some processors.Urlencoded) = Unit {0}
SomeProcessor (Some processors.Xml) = Unit {0}

processor_if : (p q : Bool) → SomeProcessor (cond p (Some processors.Urlencoded) (cond q (Some processors.Xml) None))
processor_if true q = tt
processor_if false true = tt
processor_if false false = tt

processor_some : (text : List ℕ) → SomeProcessor (processor_named text)
unfolding processor_named
processor_some text = processor_if _ _

body_gives : (piece : List ℕ) (o : Option Processor) → SomeProcessor o → Given IsAction (body_ctl piece o)
body_gives piece None is = tt
body_gives piece (Some processors.Plain) is = absurd is
body_gives piece (Some processors.Urlencoded) is =
    let sound : IsSound (codes "requestBodyProcessor=URLENCODED") = graph_sound (codes "requestBodyProcessor=URLENCODED") refl in ((tt, sound.ends), sound.fine)
body_gives piece (Some processors.Xml) is =
    let sound : IsSound (codes "requestBodyProcessor=XML") = graph_sound (codes "requestBodyProcessor=XML") refl in ((tt, sound.ends), sound.fine)

abbrev IsIds : Option (ℕ × ℕ) → Type 0
IsIds None = Unit {0}
IsIds (Some ids) = (1 ≤ ids.0) × (ids.0 ≤ ids.1) × (ids.1 ≤ 999999999)

ids_if : (first last : ℕ) (p : Bool) → nat_le first last ≡ p → 1 ≤ first → last ≤ 999999999 → IsIds (cond p (Some (first, last)) None)
ids_if first last true order least most = (least, leb-true first last order, most)
ids_if first last false order least most = tt

range_within : (o p : Option ℕ) → Within 1 999999999 o → Within 1 999999999 p → IsIds (range_of o p)
range_within None p a b = tt
range_within (Some first) None a b = tt
range_within (Some first) (Some last) a b = ids_if first last (nat_le first last) refl a.0 b.1

from_within : (first rest : List ℕ) → IsIds (range_from first rest)
from_within first [] = range_within (identifier first) (identifier first) (number_within 1 999999999 first) (number_within 1 999999999 first)
from_within first (dash ∷ last) = range_within (identifier first) (identifier last) (number_within 1 999999999 first) (number_within 1 999999999 last)

ids_within : (text : List ℕ) → IsIds (id_range text)
unfolding id_range
ids_within text = from_within (take (to_byte 45 text) text) (drop (to_byte 45 text) text)

pub decimal_sound : (n : ℕ) → n < 2 ^ 64 → IsSound (decimal n)
decimal_sound n small = graph_sound (decimal n) (word_graph (decimal n) (decimal_bytes n small))

small_id : (n : ℕ) → n ≤ 999999999 → n < 2 ^ 64
small_id n most = omega (arith, most)

range_sound : (first last : ℕ) → first ≤ 999999999 → last ≤ 999999999 → IsSound (range_text first last)
range_sound first last a b = elim (cases_Bool (first == last)) [
  | inl is ↦ rw is (decimal_sound first (small_id first a))
  | inr not_is ↦
      rw not_is (sound_append (decimal first ++ codes "-") (decimal last) (sound_append (decimal first) (codes "-") (decimal_sound first (small_id first a)) (graph_sound (codes "-") refl)) (decimal_sound last (small_id last b)))
]

ids_gives : (piece : List ℕ) (o : Option (ℕ × ℕ)) → IsIds o → Given IsAction (remove_by_id_ctl piece o)
ids_gives piece None is = tt
ids_gives piece (Some ids) is =
    let order = is.1 in let most = is.2 in
    let sound : IsSound (codes "ruleRemoveById=" ++ range_text ids.0 ids.1) =
    sound_append (codes "ruleRemoveById=") (range_text ids.0 ids.1) (graph_sound (codes "ruleRemoveById=") refl) (range_sound ids.0 ids.1 (omega (arith, order, most)) is.2) in
    ((is, sound.ends), sound.fine)

tag_gives : (piece tag : List ℕ) → IsSound tag → Given IsAction (remove_by_tag_ctl piece tag)
tag_gives piece [] is = tt
tag_gives piece (b ∷ tag) is =
    let sound : IsSound (codes "ruleRemoveByTag=" ++ b ∷ tag) = sound_append (codes "ruleRemoveByTag=") (b ∷ tag) (graph_sound (codes "ruleRemoveByTag=") refl) is in
    ((refl, sound.ends), sound.fine)

of_ctl_gives : (piece value : List ℕ) (kind : CtlKind) → IsSound value → Given IsAction (of_ctl piece value kind)
of_ctl_gives piece value controls.RuleEngine is = engine_gives piece (engine_named value)
of_ctl_gives piece value controls.RequestBodyAccess is = request_gives piece (switch_named value)
of_ctl_gives piece value controls.ResponseBodyAccess is = response_gives piece (switch_named value)
of_ctl_gives piece value controls.RequestBodyProcessor is = body_gives piece (processor_named value) (processor_some value)
of_ctl_gives piece value controls.RuleRemoveById is = ids_gives piece (id_range value) (ids_within value)
of_ctl_gives piece value controls.RuleRemoveByTag is = tag_gives piece value is
of_ctl_gives piece value controls.AuditEngine is = tt
of_ctl_gives piece value controls.AuditLogParts is = tt
of_ctl_gives piece value controls.DebugLogLevel is = tt
of_ctl_gives piece value controls.ForceRequestBodyVariable is = tt

known_gives : (piece value : List ℕ) (o : Option CtlKind) → IsSound value → Given IsAction (known_ctl piece value o)
known_gives piece value None is = tt
known_gives piece value (Some kind) is = of_ctl_gives piece value kind is

set_gives : (piece name rest : List ℕ) → begins_ascii rest ≡ true → IsSound rest → Given IsAction (set_ctl piece name rest)
set_gives piece name [] low is = tt
set_gives piece name (equals ∷ value) low is = known_gives piece value (ctl_named name) (record { fine = fine_behind true equals value low is.fine; ends = ends_tail equals value is.ends })

equals_low : IsLow (λ b. b == 61)
equals_low = low_byte 61 refl

-- what stands from = on
sound_from : (text : List ℕ) → IsSound text → IsSound (drop (to_byte 61 text) text)
sound_from text is = record { fine = fine_from true (λ b. b == 61) equals_low text is.fine; ends = ends_drop (to_byte 61 text) text is.ends }

ctl_gives : (piece text : List ℕ) → IsSound text → Given IsAction (ctl_of piece text)
unfolding ctl_of
ctl_gives piece text is =
    let name : List ℕ = take (to_byte 61 text) text in
    let rest : List ℕ = drop (to_byte 61 text) text in
    given_if IsAction (is_refused_ctl name) (refused text) (set_ctl piece name rest) (λ h. tt) (λ h. set_gives piece name rest (low_at (λ b. b == 61) equals_low text) (sound_from text is))

-- ---- what a list says

abbrev pub GoodDisrupts : Option Disrupt → Type 0
GoodDisrupts None = Unit {0}
GoodDisrupts (Some disrupt) = GoodDisrupt disrupt

abbrev pub GoodLabels : Option (List ℕ) → Type 0
GoodLabels None = Unit {0}
GoodLabels (Some label) = GoodLabel label

pub record IsSaid (acts : Acts) : Type 0 where
  pub id : Within 1 999999999 acts.id
  pub phase : Within 1 5 acts.phase
  pub msg : GoodMacro acts.msg
  pub logdata : GoodMacro acts.logdata
  pub tags : AllByRecursion IsSound acts.tags
  pub disrupt : GoodDisrupts acts.disrupt
  pub status : Within 100 999 acts.status
  pub skip : IsNumber 1 20000 acts.skip
  pub label : GoodLabels acts.skip_after
  pub setvars : AllByRecursion GoodSetVar acts.setvars
  pub ctls : AllByRecursion GoodCtl acts.ctls

nothing_good : GoodMacro []
unfolding macro_text
nothing_good = (tt, graph_sound [] refl)

pub none_said : IsSaid no_acts
none_said = record {
  id = tt;
  phase = tt;
  msg = nothing_good;
  logdata = nothing_good;
  tags = tt;
  disrupt = tt;
  status = tt;
  skip = λ h. absurd (false≢true (sym h));
  label = tt;
  setvars = tt;
  ctls = tt;
}

action_said : (action : Action) (acts : Acts) → IsAction action → IsSaid acts → IsSaid (with_action action acts)
action_said (actions.Id n) acts is so = record { id = is; phase = so.phase; msg = so.msg; logdata = so.logdata; tags = so.tags; disrupt = so.disrupt; status = so.status; skip = so.skip; label = so.label; setvars = so.setvars; ctls = so.ctls }
action_said (actions.Phase n) acts is so = record { id = so.id; phase = is; msg = so.msg; logdata = so.logdata; tags = so.tags; disrupt = so.disrupt; status = so.status; skip = so.skip; label = so.label; setvars = so.setvars; ctls = so.ctls }
action_said (actions.Msg macro) acts is so = record { id = so.id; phase = so.phase; msg = is; logdata = so.logdata; tags = so.tags; disrupt = so.disrupt; status = so.status; skip = so.skip; label = so.label; setvars = so.setvars; ctls = so.ctls }
action_said (actions.Logdata macro) acts is so = record { id = so.id; phase = so.phase; msg = so.msg; logdata = is; tags = so.tags; disrupt = so.disrupt; status = so.status; skip = so.skip; label = so.label; setvars = so.setvars; ctls = so.ctls }
action_said (actions.Tag tag) acts is so = record { id = so.id; phase = so.phase; msg = so.msg; logdata = so.logdata; tags = all_push IsSound acts.tags tag so.tags is; disrupt = so.disrupt; status = so.status; skip = so.skip; label = so.label; setvars = so.setvars; ctls = so.ctls }
action_said (actions.Log is_logged) acts is so = record { id = so.id; phase = so.phase; msg = so.msg; logdata = so.logdata; tags = so.tags; disrupt = so.disrupt; status = so.status; skip = so.skip; label = so.label; setvars = so.setvars; ctls = so.ctls }
action_said (actions.Disrupt disrupt) acts is so = record { id = so.id; phase = so.phase; msg = so.msg; logdata = so.logdata; tags = so.tags; disrupt = is; status = so.status; skip = so.skip; label = so.label; setvars = so.setvars; ctls = so.ctls }
action_said actions.Block acts is so = record { id = so.id; phase = so.phase; msg = so.msg; logdata = so.logdata; tags = so.tags; disrupt = tt; status = so.status; skip = so.skip; label = so.label; setvars = so.setvars; ctls = so.ctls }
action_said (actions.Status n) acts is so = record { id = so.id; phase = so.phase; msg = so.msg; logdata = so.logdata; tags = so.tags; disrupt = so.disrupt; status = is; skip = so.skip; label = so.label; setvars = so.setvars; ctls = so.ctls }
action_said (actions.Skip n) acts is so = record { id = so.id; phase = so.phase; msg = so.msg; logdata = so.logdata; tags = so.tags; disrupt = so.disrupt; status = so.status; skip = λ h. is; label = so.label; setvars = so.setvars; ctls = so.ctls }
action_said (actions.SkipAfter label) acts is so = record { id = so.id; phase = so.phase; msg = so.msg; logdata = so.logdata; tags = so.tags; disrupt = so.disrupt; status = so.status; skip = so.skip; label = is; setvars = so.setvars; ctls = so.ctls }
action_said actions.Chain acts is so = record { id = so.id; phase = so.phase; msg = so.msg; logdata = so.logdata; tags = so.tags; disrupt = so.disrupt; status = so.status; skip = so.skip; label = so.label; setvars = so.setvars; ctls = so.ctls }
action_said actions.NoTransforms acts is so = record { id = so.id; phase = so.phase; msg = so.msg; logdata = so.logdata; tags = so.tags; disrupt = so.disrupt; status = so.status; skip = so.skip; label = so.label; setvars = so.setvars; ctls = so.ctls }
action_said (actions.Transform transform) acts is so = record { id = so.id; phase = so.phase; msg = so.msg; logdata = so.logdata; tags = so.tags; disrupt = so.disrupt; status = so.status; skip = so.skip; label = so.label; setvars = so.setvars; ctls = so.ctls }
action_said actions.Capture acts is so = record { id = so.id; phase = so.phase; msg = so.msg; logdata = so.logdata; tags = so.tags; disrupt = so.disrupt; status = so.status; skip = so.skip; label = so.label; setvars = so.setvars; ctls = so.ctls }
action_said actions.MultiMatch acts is so = record { id = so.id; phase = so.phase; msg = so.msg; logdata = so.logdata; tags = so.tags; disrupt = so.disrupt; status = so.status; skip = so.skip; label = so.label; setvars = so.setvars; ctls = so.ctls }
action_said (actions.SetVar setvar) acts is so = record { id = so.id; phase = so.phase; msg = so.msg; logdata = so.logdata; tags = so.tags; disrupt = so.disrupt; status = so.status; skip = so.skip; label = so.label; setvars = all_push GoodSetVar acts.setvars setvar so.setvars is; ctls = so.ctls }
action_said (actions.Ctl ctl) acts is so = record { id = so.id; phase = so.phase; msg = so.msg; logdata = so.logdata; tags = so.tags; disrupt = so.disrupt; status = so.status; skip = so.skip; label = so.label; setvars = so.setvars; ctls = all_push GoodCtl acts.ctls ctl so.ctls is }
action_said actions.Nothing acts is so = so

added_said : (piece : List ℕ) (action : Action) (acts : Acts) → IsAction action → IsSaid acts → Given IsSaid (added piece action acts)
added_said piece action acts is said = given_if IsSaid (repeats action acts) (bad piece) (Ok (with_action action acts)) (λ h. tt) (λ h. action_said action acts is said)

-- ---- setvar

lower_if : (c d : ℕ) (p q : Bool) → nat_lt c 65 ≡ p → d < 65 → (cond p c (cond q (c + 32) c) == d) ≡ true → c ≡ d
lower_if c d true q e low h = eqb-true c d h
lower_if c d false true e low h = let least = ltb-false c 65 e in let same = eqb-true (c + 32) d h in absurd (omega (arith, least, same, low))
lower_if c d false false e low h = let least = ltb-false c 65 e in let same = eqb-true c d h in absurd (omega (arith, least, same, low))

dot_is : (c : ℕ) → (to_ascii_lowercase c == 46) ≡ true → c ≡ 46
dot_is c h = lower_if c 46 (nat_lt c 65) (nat_lt c 91) refl (omega arith) h

-- behind tx.
tx_sound : (text : List ℕ) → is_of_tx text ≡ true → IsSound text → IsSound (drop 3 text)
unfolding is_of_tx
tx_sound [] h is = absurd (false≢true h)
tx_sound (a ∷ []) h is = absurd (false≢true h)
tx_sound (a ∷ b ∷ []) h is = absurd (false≢true h)
tx_sound (a ∷ b ∷ c ∷ text) h is =
    let named = (and_parts (nat_le 3 (length (a ∷ b ∷ c ∷ text))) _ h).1 in
    let two = (and_parts (to_ascii_lowercase a == 116) _ named).1 in
    let three = (and_parts (to_ascii_lowercase b == 120) _ two).1 in
    let dot : c ≡ 46 = dot_is c (and_parts (to_ascii_lowercase c == 46) true three).0 in
    let low : nat_lt c 128 ≡ true = ap (λ n. nat_lt n 128) dot in
    record { fine = fine_behind true c text low (fine_at true (a ∷ b ∷ []) (c ∷ text) low is.fine); ends = ends_drop 3 (a ∷ b ∷ c ∷ text) is.ends }

module _ (macros : (text : List ℕ) (macro : List Part) → macro_of text ≡ Ok macro → IsMacro macro)
    (alike : (text : List ℕ) (macro : List Part) → macro_of text ≡ Ok macro → Alike true text (macro_text macro)) where
  -- a macro, and the text that it was read from
  abbrev FromText : List ℕ → List Part → Type 0
  FromText text macro = GoodMacro macro × Alike true text (macro_text macro)

  macro_gives : (text : List ℕ) → IsSound text → Given (FromText text) (macro_of text)
  macro_gives text is = given_from (FromText text) (macro_of text) (λ macro e.
      let same = alike text macro e in
      ((macros text macro e, record { fine = same.fine is.fine; ends = sym (ends_alike true text (macro_text macro) same) ∙ is.ends }), same))

  msg_gives : (text : List ℕ) → IsSound text → Given IsAction (msg_of text)
  msg_gives text is = given_bind (FromText text) IsAction (macro_of text) (λ macro. Ok (actions.Msg macro)) (macro_gives text is) (λ macro h. h.0)

  logdata_gives : (text : List ℕ) → IsSound text → Given IsAction (logdata_of text)
  logdata_gives text is = given_bind (FromText text) IsAction (macro_of text) (λ macro. Ok (actions.Logdata macro)) (macro_gives text is) (λ macro h. h.0)

  redirect_gives : (piece text : List ℕ) → IsSound text → Given IsAction (redirect_of piece text)
  redirect_gives piece [] is = tt
  redirect_gives piece (b ∷ text) is =
      given_bind (FromText (b ∷ text)) IsAction (macro_of (b ∷ text)) (λ macro. Ok (actions.Disrupt (disrupts.Redirect macro))) (macro_gives (b ∷ text) is)
      (λ macro h. (h.0, sym (empty_alike true (b ∷ text) (macro_text macro) h.1)))

  -- what a name is changed to
  abbrev GoodChange : Change → Type 0
  GoodChange (changes.Put value) = GoodMacro value × (begins_with_sign (macro_text value) ≡ false)
  GoodChange (changes.Add value) = GoodMacro value
  GoodChange (changes.Sub value) = GoodMacro value
  GoodChange changes.Delete = ⊥

  to_gives : (value : List ℕ) → IsSound value → Given GoodChange (change_to value)
  to_gives [] is =
      given_bind (FromText []) GoodChange (macro_of []) (λ value. Ok (changes.Put value)) (macro_gives [] is) (λ macro h. (h.0, sym (sign_alike true [] (macro_text macro) h.1)))
  to_gives (b ∷ value) is =
      given_if GoodChange (b == 43) (macro_of value >>= λ parts. Ok (changes.Add parts)) _
      (λ h. given_bind (FromText value) GoodChange (macro_of value) (λ parts. Ok (changes.Add parts)) (macro_gives value (tail b value (low_byte 43 refl b h) is)) (λ macro i. i.0))
      (λ plus. given_if GoodChange (b == 45) (macro_of value >>= λ parts. Ok (changes.Sub parts)) (macro_of (b ∷ value) >>= λ parts. Ok (changes.Put parts))
      (λ h. given_bind (FromText value) GoodChange (macro_of value) (λ parts. Ok (changes.Sub parts)) (macro_gives value (tail b value (low_byte 45 refl b h) is)) (λ macro i. i.0))
      (λ minus. given_bind (FromText (b ∷ value)) GoodChange (macro_of (b ∷ value)) (λ parts. Ok (changes.Put parts)) (macro_gives (b ∷ value) is)
      (λ macro i. (i.0, sym (sign_alike true (b ∷ value) (macro_text macro) i.1) ∙ no_sign b plus minus))))
    where
      tail : (b : ℕ) (value : List ℕ) → nat_lt b 128 ≡ true → IsSound (b ∷ value) → IsSound value
      tail b value low is = record { fine = fine_behind true b value low is.fine; ends = ends_tail b value is.ends }

      no_sign : (b : ℕ) → (b == 43) ≡ false → (b == 45) ≡ false → ((b == 43) || (b == 45)) ≡ false
      no_sign b plus minus = rw (plus, minus) refl

  one_put : GoodChange (changes.Put (parts.Text (codes "1") ∷ []))
  unfolding macro_text
  one_put = (((refl, refl, tt), graph_sound (codes "1") refl), refl)

  change_gives : (rest : List ℕ) → begins_ascii rest ≡ true → IsSound rest → Given GoodChange (change_of rest)
  change_gives [] low is = one_put
  change_gives (equals ∷ value) low is = to_gives value (record { fine = fine_behind true equals value low is.fine; ends = ends_tail equals value is.ends })

  -- a name without =, and a change
  put_sound : (name : List ℕ) (change : Change) → IsFine name → GoodChange change → IsSound (change_text name change)
  put_sound name (changes.Put value) a b =
      sound_append (codes "tx." ++ name ++ codes "=") (macro_text value) (sound_behind (codes "tx." ++ name) (codes "=") (fine_append true (codes "tx.") name (fine_printed true (codes "tx.") refl) a) refl (graph_sound (codes "=") refl)) b.0.1
  put_sound name (changes.Add value) a b =
      sound_append (codes "tx." ++ name ++ codes "=+") (macro_text value) (sound_behind (codes "tx." ++ name) (codes "=+") (fine_append true (codes "tx.") name (fine_printed true (codes "tx.") refl) a) refl (graph_sound (codes "=+") refl)) b.1
  put_sound name (changes.Sub value) a b =
      sound_append (codes "tx." ++ name ++ codes "=-") (macro_text value) (sound_behind (codes "tx." ++ name) (codes "=-") (fine_append true (codes "tx.") name (fine_printed true (codes "tx.") refl) a) refl (graph_sound (codes "=-") refl)) b.1
  put_sound name changes.Delete a b = absurd b

  put_change : (name : List ℕ) (change : Change) → has_equals name ≡ false → GoodChange change → IsChange name change
  put_change name (changes.Put value) none b = (none, b.0.0, b.1)
  put_change name (changes.Add value) none b = (none, b.0)
  put_change name (changes.Sub value) none b = (none, b.0)
  put_change name changes.Delete none b = absurd b

  abbrev FineText : List ℕ → List Part → Type 0
  FineText text macro = IsMacro macro × IsFine (macro_text macro) × Alike true text (macro_text macro)

  fine_gives : (text : List ℕ) → IsFine text → Given (FineText text) (macro_of text)
  fine_gives text fine = given_from (FineText text) (macro_of text) (λ macro e. let same = alike text macro e in (macros text macro e, same.fine fine, same))

  -- a name is the front of a text up to =, and may end with any byte
  assigned_gives : (piece name value : List ℕ) → IsFine name → has_equals name ≡ false → begins_ascii value ≡ true → IsSound value → Given IsAction (assigned piece name value)
  assigned_gives piece [] value fine none low is = tt
  assigned_gives piece (b ∷ name) value fine none low is =
      given_bind (FineText (b ∷ name)) IsAction (macro_of (b ∷ name)) (λ parts. change_of value >>= λ change. Ok (actions.SetVar (record { name = parts; change = change }))) (fine_gives (b ∷ name) fine)
      (λ parts h. given_bind GoodChange IsAction (change_of value) (λ change. Ok (actions.SetVar (record { name = parts; change = change }))) (change_gives value low is)
      (λ change i.
      let sound : IsSound (change_text (macro_text parts) change) = put_sound (macro_text parts) change h.1 i in (
        record {
          name = h.0;
          some = sym (empty_alike true (b ∷ name) (macro_text parts) h.2);
          change = put_change (macro_text parts) change (h.2.equals none) i;
          ends = sound.ends;
        },
        sound.fine,
      )))

  assignment_gives : (piece text : List ℕ) → IsSound text → Given IsAction (assignment piece text)
  assignment_gives piece text is =
      assigned_gives piece (take (to_byte 61 text) text) (drop (to_byte 61 text) text) (fine_to true (λ b. b == 61) equals_low text is.fine) (before_first (λ b. b == 61) text) (low_at (λ b. b == 61) equals_low text) (sound_from text is)

  deletion_gives : (piece text : List ℕ) → IsSound text → Given IsAction (deletion piece text)
  deletion_gives piece [] is = tt
  deletion_gives piece (b ∷ name) is =
      given_bind (FromText (b ∷ name)) IsAction (macro_of (b ∷ name)) (λ parts. Ok (actions.SetVar (record { name = parts; change = changes.Delete }))) (macro_gives (b ∷ name) is)
      (λ parts h.
      let sound : IsSound (codes "!tx." ++ macro_text parts) = sound_append (codes "!tx.") (macro_text parts) (graph_sound (codes "!tx.") refl) h.0.1 in
      (record { name = h.0.0; some = sym (empty_alike true (b ∷ name) (macro_text parts) h.1); change = tt; ends = sound.ends }, sound.fine))

  put_gives : (piece text : List ℕ) → IsSound text → Given IsAction (put_of piece text)
  put_gives piece text is =
      given_if IsAction (is_refused_collection text) (refused text) _ (λ h. tt)
      (λ h. given_if IsAction (is_of_tx text) (assignment piece (drop 3 text)) (bad piece) (λ i. assignment_gives piece (drop 3 text) (tx_sound text i is)) (λ i. tt))

  delete_gives : (piece value text : List ℕ) → IsSound text → Given IsAction (delete_of piece value text)
  delete_gives piece value text is =
      given_if IsAction (is_refused_collection text) (refused value) _ (λ h. tt)
      (λ h. given_if IsAction (is_of_tx text) (deletion piece (drop 3 text)) (bad piece) (λ i. deletion_gives piece (drop 3 text) (tx_sound text i is)) (λ i. tt))

  setvar_gives : (piece text : List ℕ) → IsSound text → Given IsAction (setvar_of piece text)
  unfolding setvar_of
  setvar_gives piece [] is = put_gives piece [] is
  setvar_gives piece (b ∷ text) is =
      given_if IsAction (b == 33) (delete_of piece (b ∷ text) text) (put_of piece (b ∷ text))
      (λ h. delete_gives piece (b ∷ text) text (record { fine = fine_behind true b text (low_byte 33 refl b h) is.fine; ends = ends_tail b text is.ends })) (λ h. put_gives piece (b ∷ text) is)

  -- ---- one action

  value_gives : (stand : Stand) (piece text : List ℕ) (kind : Kind) → IsSound text → Given IsAction (with_value stand piece text kind)
  value_gives stand piece text kinds.Id is = id_gives piece text
  value_gives stand piece text kinds.Phase is = phase_gives piece text
  value_gives stand piece text kinds.Msg is = msg_gives text is
  value_gives stand piece text kinds.Logdata is = logdata_gives text is
  value_gives stand piece text kinds.Tag is = is
  value_gives stand piece text kinds.Log is = tt
  value_gives stand piece text kinds.Nolog is = tt
  value_gives stand piece text kinds.Pass is = tt
  value_gives stand piece text kinds.Deny is = tt
  value_gives stand piece text kinds.Drop is = tt
  value_gives stand piece text kinds.Redirect is = redirect_gives piece text is
  value_gives stand piece text kinds.Allow is = allow_gives piece text
  value_gives stand piece text kinds.Block is = tt
  value_gives stand piece text kinds.Status is = status_gives piece text
  value_gives stand piece text kinds.Skip is = skip_gives piece text
  value_gives stand piece text kinds.SkipAfter is = label_gives piece text is
  value_gives stand piece text kinds.Chain is = tt
  value_gives stand piece text kinds.T is = transform_gives (is_defaults stand) piece text
  value_gives stand piece text kinds.Capture is = tt
  value_gives stand piece text kinds.MultiMatch is = tt
  value_gives stand piece text kinds.Setvar is = setvar_gives piece text is
  value_gives stand piece text kinds.Ctl is = ctl_gives piece text is
  value_gives stand piece text kinds.Auditlog is = tt
  value_gives stand piece text kinds.Noauditlog is = tt
  value_gives stand piece text kinds.Severity is = tt
  value_gives stand piece text kinds.Ver is = tt
  value_gives stand piece text kinds.Rev is = tt
  value_gives stand piece text kinds.Maturity is = tt
  value_gives stand piece text kinds.Accuracy is = tt

  said_gives : (stand : Stand) (piece : List ℕ) (value : Option (List ℕ)) (kind : Kind) → SoundValue value → Given IsAction (said stand piece value kind)
  said_gives stand piece None kind is = alone_gives piece kind
  said_gives stand piece (Some text) kind is = value_gives stand piece text kind is

  kind_gives : (stand : Stand) (piece : Piece) (o : Option Kind) → SoundValue piece.value → Given IsAction (of_kind stand piece o)
  kind_gives stand piece None is = tt
  kind_gives stand piece (Some kind) is =
      given_if IsAction (may_stand kind stand) (said stand piece.text piece.value kind) (bad piece.text) (λ h. said_gives stand piece.text piece.value kind is) (λ h. tt)

  action_gives : (stand : Stand) (piece : Piece) → SoundValue piece.value → Given IsAction (action_of stand piece)
  unfolding action_of
  action_gives stand piece is =
      given_if IsAction (is_refused_action piece.name) (refused piece.name) (of_kind stand piece (kind_named piece.name)) (λ h. tt) (λ h. kind_gives stand piece (kind_named piece.name) is)

  -- ---- all of them

  piece_said : (stand : Stand) (piece : Piece) (acts : Acts) → SoundValue piece.value → IsSaid acts → Given IsSaid (with_piece stand piece acts)
  unfolding with_piece
  piece_said stand piece acts is said =
      given_bind IsAction IsSaid (action_of stand piece) (λ action. added piece.text action acts) (action_gives stand piece is) (λ action h. added_said piece.text action acts h said)

  pieces_give : (stand : Stand) (most : ℕ) (text : Option (List ℕ)) (acts : Acts) → FineLeft text → IsSaid acts → Given IsSaid (pieces_in stand most text acts)
  pieces_give stand zero None acts fine said = said
  pieces_give stand (suc most) None acts fine said = said
  pieces_give stand zero (Some text) acts fine said = said
  pieces_give stand (suc most) (Some text) acts fine said =
      given_bind IsPiece IsSaid (piece_at text) (λ piece. with_piece stand piece.0 acts >>= λ next. pieces_in stand most piece.1 next) (piece_gives text fine)
      (λ piece h. given_bind IsSaid IsSaid (with_piece stand piece.0 acts) (λ next. pieces_in stand most piece.1 next) (piece_said stand piece.0 acts h.0 said)
      (λ next i. pieces_give stand most piece.1 next h.1 i))

  pub actions_give : (stand : Stand) (text : List ℕ) → IsFine text → Given IsSaid (actions_in stand text)
  unfolding actions_in
  actions_give stand text fine = pieces_give stand (suc (length text)) (Some text) no_acts fine none_said
