-- What a list of actions says, taken together.
use Rattle.std.specs.Prelude.{◌≡◌, ℕ, zero, suc, Bool, true, false, List, [], ◌∷◌, ◌++◌, length, is_some, Option, Some, None, Result, Ok, Err, if◌then◌else◌}
use Rattle.sec_text.specs.Readers.{Takes}
use Rattle.sec_parts.specs.declared.faults.Bad.{Bad}
use Rattle.sec_parts.specs.declared.pieces.Piece.{Piece}
use Rattle.sec_parts.specs.declared.kinds.Stand.{Stand}
use Rattle.sec_parts.specs.declared.actions.Action.{Action}
use Rattle.sec_parts.specs.declared.actions.Action.TheVariants as actions
use Rattle.sec_parts.specs.declared.acts.Acts.{Acts}
use Rattle.sec_parts.specs.Results.{◌>>=◌, bad}
use Rattle.sec_parts.specs.Pieces.{piece_at}
use Rattle.sec_parts.specs.Actions.{action_of}

abbrev pub no_acts : Acts
no_acts = record {
  id = None;
  phase = None;
  msg = [];
  logdata = [];
  tags = [];
  log = None;
  disrupt = None;
  status = None;
  skip = 0;
  skip_after = None;
  chain = false;
  transforms = [];
  capture = false;
  multi = false;
  setvars = [];
  ctls = [];
}

-- one more action; of what can stand once the last wins
abbrev pub with_action : Action → Acts → Acts
with_action (actions.Id id) acts = record acts { id = Some id }
with_action (actions.Phase phase) acts = record acts { phase = Some phase }
with_action (actions.Msg text) acts = record acts { msg = text }
with_action (actions.Logdata text) acts = record acts { logdata = text }
with_action (actions.Tag tag) acts = record acts { tags = acts.tags ++ tag ∷ [] }
with_action (actions.Log is_logged) acts = record acts { log = Some is_logged }
with_action (actions.Disrupt disrupt) acts = record acts { disrupt = Some disrupt }
with_action actions.Block acts = record acts { disrupt = None }
with_action (actions.Status status) acts = record acts { status = Some status }
with_action (actions.Skip skip) acts = record acts { skip = skip }
with_action (actions.SkipAfter label) acts = record acts { skip_after = Some label }
with_action actions.Chain acts = record acts { chain = true }
with_action actions.NoTransforms acts = record acts { transforms = [] }
with_action (actions.Transform transform) acts = record acts { transforms = acts.transforms ++ transform ∷ [] }
with_action actions.Capture acts = record acts { capture = true }
with_action actions.MultiMatch acts = record acts { multi = true }
with_action (actions.SetVar setvar) acts = record acts { setvars = acts.setvars ++ setvar ∷ [] }
with_action (actions.Ctl ctl) acts = record acts { ctls = acts.ctls ++ ctl ∷ [] }
with_action actions.Nothing acts = acts

-- an identifier stands once
abbrev pub repeats : Action → Acts → Bool
repeats (actions.Id id) acts = is_some acts.id
repeats other acts = false

abbrev pub added : List ℕ → Action → Acts → Result Acts Bad
added piece action acts = if repeats action acts then bad piece else Ok (with_action action acts)

-- one piece after those before it
unfoldable pub with_piece : Stand → Piece → Acts → Result Acts Bad
with_piece stand piece acts = action_of stand piece >>= λ action. added piece.text action acts

-- the pieces one after the other: their first fault, or all that they say; a text has fewer pieces than bytes, or one
abbrev pub pieces_in : Stand → ℕ → Option (List ℕ) → Acts → Result Acts Bad
pieces_in stand most None acts = Ok acts
pieces_in stand zero (Some text) acts = Ok acts
pieces_in stand (suc most) (Some text) acts = do
  piece ← piece_at text
  next ← with_piece stand piece.0 acts
  pieces_in stand most piece.1 next

unfoldable pub actions_in : Stand → List ℕ → Result Acts Bad
actions_in stand text = pieces_in stand (suc (length text)) (Some text) no_acts

-- ---- the same as a relation: one piece after the other, each added to what those before it say

-- what is left of a text, and what was said before that
abbrev pub Progress : Type 0
Progress = Option (List ℕ) × Acts

abbrev pub with_next : Piece → Option (List ℕ) → Result Acts Bad → Result (Option (Piece × Progress)) Bad
with_next piece rest (Ok acts) = Ok (Some (piece, (rest, acts)))
with_next piece rest (Err fault) = Err fault

abbrev pub next_action : Stand → Progress → Result (Option (Piece × Progress)) Bad
next_action stand (None, acts) = Ok None
next_action stand (Some text, acts) =
    piece_at text >>= λ piece. with_next piece.0 piece.1 (with_piece stand piece.0 acts)

-- good pieces up to the end say this, or some good pieces come before one that is refused with this fault
abbrev pub ActsFrom : Stand → Progress → Result Acts Bad → Type 0
ActsFrom stand start (Ok acts) = (pieces : List Piece) × Takes (next_action stand) start pieces (None, acts)
ActsFrom stand start (Err fault) =
    (pieces : List Piece) × (rest : Progress) × Takes (next_action stand) start pieces rest
    × (next_action stand rest ≡ Err fault)

abbrev pub AreActs : Stand → List ℕ → Result Acts Bad → Type 0
AreActs stand text answer = ActsFrom stand (Some text, no_acts) answer
