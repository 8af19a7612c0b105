-- What holds of every history of the list of applications. An entry is a call with its reply.
use Rattle.std.specs.Prelude.{◌≡◌, ◌+◌, List, [], ◌∷◌, ◌++◌, length}
use Rattle.shelf.specs.declared.apps.Apps.{Apps}
use Rattle.shelf.specs.declared.calls.Published.TheVariants.{Generation}
use Rattle.shelf.specs.declared.calls.Call.{Call}
use Rattle.shelf.specs.declared.calls.Call.TheVariants.{Publish}
use Rattle.shelf.specs.declared.calls.Reply.{Reply}
use Rattle.shelf.specs.declared.calls.Reply.TheVariants.{OfPublish}
use Rattle.shelf.specs.State.{State}
use Rattle.shelf.specs.Step.{allows, after, starts}

abbrev pub Made : Type 0 → Type 0
Made R = Call R × Reply R

module _ {R : Type 0} where
  -- the state that a history leaves
  abbrev pub left_by : State R → List (Made R) → State R
  left_by s [] = s
  left_by s (e ∷ es) = left_by (after s e.0 e.1) es

  -- what an entry published
  abbrev pub published_by : Call R → Reply R → List (Apps R)
  published_by (Publish apps) (OfPublish (Generation n)) = apps ∷ []
  published_by _ _ = []

  abbrev pub published_in : List (Made R) → List (Apps R)
  published_in [] = []
  published_in (e ∷ es) = published_by e.0 e.1 ++ published_in es

module _ {R : Type 0} (IsShare : R → R → Type 0) where
  -- each call had a reply that it may have there
  abbrev pub Legal : State R → List (Made R) → Type 0
  Legal s [] = Unit {0}
  Legal s (e ∷ es) = allows IsShare s e.0 e.1 × Legal (after s e.0 e.1) es

-- the list in force is the last of those that were published, and its generation says how many these are
abbrev pub Numbered : (R : Type 0) → (R → R → Type 0) → Type 0
Numbered R IsShare = (s : State R) (log : List (Made R)) → starts s → Legal IsShare s log
    → (before : List (Apps R)) × (s.apps ∷ published_in log ≡ before ++ (left_by s log).apps ∷ [])
    × ((left_by s log).generation ≡ length before + 1)
