-- What callers of the shared list of applications know.
use Rattle.std.specs.Prelude.{◌≡◌, ℕ, ◌≤◌, List, []}
use Rattle.turn_lock.specs.History.{Legal, left_by}
use Rattle.turn_lock.specs.Lock.{TurnLock, Pass, Extends, Joins, IsPassOf, marks_of, opened_with, seen_of, share_of}
use Rattle.turn_lock.specs.View.{all_shares}
use Rattle.shelf.specs.declared.apps.Apps.{Apps}
use Rattle.shelf.specs.declared.calls.Look as looking
use Rattle.shelf.specs.declared.calls.Published as publishing
use Rattle.shelf.specs.declared.calls.Call.{Call}
use Rattle.shelf.specs.declared.calls.Reply.{Reply}
use Rattle.shelf.specs.State.{State}
use Rattle.shelf.specs.Step.{IsLook, IsNew, IsPublished, allows, after, published, starts}
use Rattle.shelf_lock.specs.declared.shared.Guarded.{Guarded}

abbrev pub SharedShelf : Type 0 → Type 0
SharedShelf R = Guarded (TurnLock (State R) (Call R) (Reply R))

abbrev pub ShelfPass : Type 0 → Type 0
ShelfPass R = Pass (State R) (Call R) (Reply R)

module _ {R : Type 0} where
  -- the list in force after what the pass has seen
  abbrev pub left_in : SharedShelf R → ShelfPass R → State R
  left_in h p = left_by after (opened_with h.lock) (seen_of p)

  -- it has seen nothing and made no call, and has all shares, and these applications are in force
  pub record IsFirst (apps : Apps R) (h : SharedShelf R) (p : ShelfPass R) : Type 0 where
    pub opened : IsNew apps (opened_with h.lock)
    pub seen : seen_of p ≡ []
    pub marks : marks_of p ≡ []
    pub share : share_of p ≡ all_shares

  -- the list in force, before and after: this one was published in between, with that answer
  pub record PublishesAs (h : SharedShelf R) (p : ShelfPass R) (apps : Apps R) (answer : publishing.Published)
      (q : ShelfPass R) : Type 0 where
    pub before : State R
    pub answers : IsPublished before answer
    pub since : (left_in h p).generation ≤ before.generation
    pub now : left_in h q ≡ published apps answer before

-- every call may be made
abbrev pub always : {R : Type 0} → State R → Call R → Type 0
always s c = Unit {0}

module _ {R : Type 0} (IsShare : R → R → Type 0) where
  -- a pass of this list's lock, which was opened with generation 1. What it has seen is a legal history from there
  pub record IsPassOfShelf (h : SharedShelf R) (p : ShelfPass R) : Type 0 where
    pub pass : IsPassOf h.lock p
    pub opened : starts (opened_with h.lock)
    pub legal : Legal always (allows IsShare) after (opened_with h.lock) (seen_of p)

  -- q is the pass p after this call
  abbrev pub Turned : SharedShelf R → ShelfPass R → Call R → Reply R → ShelfPass R → Type 0
  Turned h p call reply q = Extends always (allows IsShare) after (opened_with h.lock) p call reply q

  -- q is the pass p after it took in o
  abbrev pub Joined : SharedShelf R → ShelfPass R → ShelfPass R → ShelfPass R → Type 0
  Joined h p o q = Joins always (allows IsShare) after (opened_with h.lock) p o q

  -- there is a state in which the call may have this reply
  abbrev pub Answered : Call R → Reply R → Type 0
  Answered call reply = (s : State R) × allows IsShare s call reply

  -- the answer is that of the list in force at the look, which is not older than what the pass had seen
  pub record LooksAt (h : SharedShelf R) (p : ShelfPass R) (name : List ℕ) (answer : looking.Look R) (q : ShelfPass R)
      : Type 0 where
    pub answers : IsLook IsShare (left_in h q) name answer
    pub since : (left_in h p).generation ≤ (left_in h q).generation
