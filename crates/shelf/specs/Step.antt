-- The step of the list of applications: the replies that a call may have, and the state after it. Every call may be
-- made.
use Rattle.std.specs.Prelude.{◌≡◌, ◌≢◌, ℕ, ◌+◌, List, Some, None}
use Rattle.shelf.specs.declared.apps.App.{App}
use Rattle.shelf.specs.declared.apps.Apps.{Apps}
use Rattle.shelf.specs.declared.calls.Look as looking
use Rattle.shelf.specs.declared.calls.Look.TheVariants as looks
use Rattle.shelf.specs.declared.calls.Published as publishing
use Rattle.shelf.specs.declared.calls.Published.TheVariants.{Generation, Worn}
use Rattle.shelf.specs.declared.calls.Call.{Call}
use Rattle.shelf.specs.declared.calls.Call.TheVariants.{Look, Publish}
use Rattle.shelf.specs.declared.calls.Reply.{Reply}
use Rattle.shelf.specs.declared.calls.Reply.TheVariants.{OfLook, OfPublish}
use Rattle.shelf.specs.Found.{app_in}
use Rattle.shelf.specs.State.{State, last_generation}

module _ {R : Type 0} where
  -- as it is when it is made
  pub record IsNew (apps : Apps R) (s : State R) : Type 0 where
    pub first : s.generation ≡ 1
    pub given : s.apps ≡ apps

  abbrev pub starts : State R → Type 0
  starts s = s.generation ≡ 1

  abbrev pub IsPublished : State R → publishing.Published → Type 0
  IsPublished s (Generation n) = (s.generation ≢ last_generation) × (n ≡ s.generation + 1)
  IsPublished s Worn = s.generation ≡ last_generation

  -- the state after these applications were published with this answer
  abbrev pub published : Apps R → publishing.Published → State R → State R
  published apps (Generation n) s = record { generation = n; apps = apps }
  published apps Worn s = s

  abbrev pub after : State R → Call R → Reply R → State R
  after s (Publish apps) (OfPublish answer) = published apps answer s
  after s _ _ = s

-- IsShare says of two handles that the second is a share of the first
module _ {R : Type 0} (IsShare : R → R → Type 0) where
  abbrev pub IsLook : State R → List ℕ → looking.Look R → Type 0
  IsLook s name (looks.Found n rules settings) = (app : App R) × (app_in s.apps name ≡ Some app)
      × (n ≡ s.generation) × IsShare app.rules rules × (settings ≡ app.settings)
  IsLook s name (looks.UnknownApp n) = (app_in s.apps name ≡ None) × (n ≡ s.generation)
  IsLook s name looks.NoMemory = Unit {0}

  abbrev pub allows : State R → Call R → Reply R → Type 0
  allows s (Look name) (OfLook answer) = IsLook s name answer
  allows s (Publish apps) (OfPublish answer) = IsPublished s answer
  allows s _ _ = ⊥
