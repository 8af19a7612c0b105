-- Histories of the list of applications.
use Rattle.std.proofs.Common.{◌≡◌, ℕ, ◌+◌, ◌≤◌, List, [], ◌∷◌, ◌++◌, refl, sym, ap, ◌∙◌, subst, arith}
use Rattle.turn_lock.specs.declared.history.Entry.{Entry}
use Rattle.turn_lock.specs.History.{Legal, entry, left_by}
use Rattle.turn_lock.specs.Lock.{opened_with, seen_of}
use Rattle.shelf.specs.declared.apps.Apps.{Apps}
use Rattle.shelf.specs.declared.calls.Look as looking
use Rattle.shelf.specs.declared.calls.Published as publishing
use Rattle.shelf.specs.declared.calls.Published.TheVariants.{Generation, Worn}
use Rattle.shelf.specs.declared.calls.Call.{Call}
use Rattle.shelf.specs.declared.calls.Call.TheVariants.{Look, Publish}
use Rattle.shelf.specs.declared.calls.Reply.{Reply}
use Rattle.shelf.specs.declared.calls.Reply.TheVariants.{OfLook, OfPublish}
use Rattle.shelf.specs.State.{State}
use Rattle.shelf.specs.Step.{allows, after}
use Rattle.shelf_lock.specs.Passes.{Answered, LooksAt, PublishesAs, SharedShelf, ShelfPass, Turned, left_in}

module _ {R : Type 0} (IsShare : R → R → Type 0) where
  abbrev Made : Type 0
  Made = Entry (Call R) (Reply R)

  abbrev IsLegal : State R → List Made → Type 0
  IsLegal s log = Legal (λ (s : State R) (c : Call R). Unit {0}) (allows IsShare) after s log

  left_append : (s : State R) (xs ys : List Made) → left_by after s (xs ++ ys) ≡ left_by after (left_by after s xs) ys
  left_append s [] ys = refl
  left_append s (e ∷ es) ys = left_append (after s e.call e.reply) es ys

  legal_last : (s : State R) (log : List Made) (e : Made) → IsLegal s (log ++ e ∷ []) → allows IsShare (left_by after s log) e.call e.reply
  legal_last s [] e h = h.1
  legal_last s (x ∷ xs) e h = legal_last (after s x.call x.reply) xs e h.2

  legal_front : (s : State R) (xs ys : List Made) → IsLegal s (xs ++ ys) → IsLegal (left_by after s xs) ys
  legal_front s [] ys h = h
  legal_front s (e ∷ es) ys h = legal_front (after s e.call e.reply) es ys h.2

  -- generations only grow
  step_grows : (s : State R) (c : Call R) (r : Reply R) → allows IsShare s c r → s.generation ≤ (after s c r).generation
  step_grows s (Publish apps) (OfPublish (Generation n)) a = let b = a.1 in omega arith
  step_grows s (Publish apps) (OfPublish Worn) a = omega arith
  step_grows s (Publish apps) (OfLook answer) a = absurd a
  step_grows s (Look name) (OfLook answer) a = omega arith
  step_grows s (Look name) (OfPublish answer) a = absurd a

  grows : (s : State R) (log : List Made) → IsLegal s log → s.generation ≤ (left_by after s log).generation
  grows s [] h = omega arith
  grows s (e ∷ es) h = let a = step_grows s e.call e.reply h.1 in let b = grows (after s e.call e.reply) es h.2 in omega arith

  module _ (h : SharedShelf R) (p q : ShelfPass R) (call : Call R) (reply : Reply R) (x : Turned IsShare h p call reply q) where
    abbrev start : State R
    start = opened_with h.lock

    legal : IsLegal start (x.log ++ entry call reply ∷ [])
    legal = subst (λ (log : List Made). IsLegal start log) x.seen x.legal

    allowed : allows IsShare (left_by after start x.log) call reply
    allowed = legal_last start x.log (entry call reply) legal

    pub answered : Answered IsShare call reply
    answered = (left_by after start x.log, allowed)

    left_now : left_in h q ≡ after (left_by after start x.log) call reply
    left_now = ap (λ (log : List Made). left_by after start log) x.seen ∙ left_append start x.log (entry call reply ∷ [])

    -- from what the pass had seen to the call
    since : (left_in h p).generation ≤ (left_by after start x.log).generation
    since =
        let parts = x.begins.1 ∙ refl in
        let all : IsLegal start ((seen_of p ++ x.begins.0) ++ entry call reply ∷ []) = subst (λ (log : List Made). IsLegal start (log ++ entry call reply ∷ [])) parts legal in
        let rest = legal_part start (seen_of p) x.begins.0 (entry call reply) all in
        let more = grows (left_in h p) x.begins.0 rest in
        subst (λ (n : ℕ). (left_in h p).generation ≤ n) (sym (ap (λ (s : State R). s.generation) (ap (λ (log : List Made). left_by after start log) parts ∙ left_append start (seen_of p) x.begins.0))) more
      where
        legal_cut : (s : State R) (xs : List Made) (e : Made) → IsLegal s (xs ++ e ∷ []) → IsLegal s xs
        legal_cut s [] e k = tt
        legal_cut s (z ∷ zs) e k = (k.0, k.1, legal_cut (after s z.call z.reply) zs e k.2)

        legal_part : (s : State R) (xs ys : List Made) (e : Made) → IsLegal s ((xs ++ ys) ++ e ∷ []) → IsLegal (left_by after s xs) ys
        legal_part s xs ys e k = legal_front s xs ys (legal_cut s (xs ++ ys) e k)

    pub looks_at : (name : List ℕ) (answer : looking.Look R) → call ≡ Look name → reply ≡ OfLook answer → LooksAt IsShare h p name answer q
    looks_at name answer asked got =
        let before : State R = left_by after start x.log in
        let same : left_in h q ≡ before = left_now ∙ (ap (λ (c : Call R). after before c reply) asked ∙ ap (λ (r : Reply R). after before (Look name) r) got) in
        let a : allows IsShare before (Look name) (OfLook answer) = subst (λ (c : Call R). allows IsShare before c (OfLook answer)) asked (subst (λ (r : Reply R). allows IsShare before call r) got allowed) in
        record {
          answers = subst (λ (s : State R). allows IsShare s (Look name) (OfLook answer)) (sym same) a;
          since = subst (λ (s : State R). (left_in h p).generation ≤ s.generation) (sym same) since;
        }

    pub publishes : (apps : Apps R) (answer : publishing.Published) → call ≡ Publish apps → reply ≡ OfPublish answer → PublishesAs h p apps answer q
    publishes apps answer asked got =
        let before : State R = left_by after start x.log in
        record {
          before = before;
          answers = subst (λ (c : Call R). allows IsShare before c (OfPublish answer)) asked (subst (λ (r : Reply R). allows IsShare before call r) got allowed);
          since = since;
          now = left_now ∙ (ap (λ (c : Call R). after before c reply) asked ∙ ap (λ (r : Reply R). after before (Publish apps) r) got);
        }
