-- The lists that were published are numbered in their order.
use Rattle.std.proofs.Common.{◌≡◌, ◌+◌, List, [], ◌∷◌, ◌++◌, length, append-nil, append_assoc, length-append, refl, ap, ◌∙◌, subst, arith}
use Rattle.shelf.specs.declared.apps.Apps.{Apps}
use Rattle.shelf.specs.declared.calls.Published.TheVariants.{Generation, Worn}
use Rattle.shelf.specs.declared.calls.Call.{Call}
use Rattle.shelf.specs.declared.calls.Call.TheVariants.{Look, Publish}
use Rattle.shelf.specs.declared.calls.Reply.{Reply}
use Rattle.shelf.specs.declared.calls.Reply.TheVariants.{OfLook, OfPublish}
use Rattle.shelf.specs.State.{State}
use Rattle.shelf.specs.Step.{allows, after, starts}
use Rattle.shelf.specs.Promised.{Made, left_by, published_by, published_in, Legal}

module _ {R : Type 0} (IsShare : R → R → Type 0) where
  -- the lists so far are those before the one in force, and that one
  record Stand (lists : List (Apps R)) (s : State R) : Type 0 where
    before : List (Apps R)
    all : lists ≡ before ++ s.apps ∷ []
    number : s.generation ≡ length before + 1

  step : (lists : List (Apps R)) (s : State R) (c : Call R) (r : Reply R) → allows IsShare s c r → Stand lists s → Stand (lists ++ published_by c r) (after s c r)
  step lists s (Publish apps) (OfPublish (Generation n)) a h = record {
    before = lists;
    all = refl;
    number = (let p = a.1 in let q = h.number in let l : length lists ≡ length h.before + 1 = ap length h.all ∙ length-append h.before (s.apps ∷ []) in omega arith);
  }
  step lists s (Publish apps) (OfPublish Worn) a h = record { before = h.before; all = append-nil lists ∙ h.all; number = h.number }
  step lists s (Publish apps) (OfLook answer) a h = absurd a
  step lists s (Look name) (OfLook answer) a h = record { before = h.before; all = append-nil lists ∙ h.all; number = h.number }
  step lists s (Look name) (OfPublish answer) a h = absurd a

  along : (lists : List (Apps R)) (s : State R) (log : List (Made R)) → Legal IsShare s log → Stand lists s → Stand (lists ++ published_in log) (left_by s log)
  along lists s [] l h = record { before = h.before; all = append-nil lists ∙ h.all; number = h.number }
  along lists s (e ∷ es) l h = subst (λ (z : List (Apps R)). Stand z (left_by (after s e.0 e.1) es)) (append_assoc lists (published_by e.0 e.1) (published_in es))
      (along (lists ++ published_by e.0 e.1) (after s e.0 e.1) es l.1 (step lists s e.0 e.1 l.0 h))

  pub numbered : (s : State R) (log : List (Made R)) → starts s → Legal IsShare s log
      → (before : List (Apps R)) × (s.apps ∷ published_in log ≡ before ++ (left_by s log).apps ∷ []) × ((left_by s log).generation ≡ length before + 1)
  numbered s log z l = let h = along (s.apps ∷ []) s log l (record { before = []; all = refl; number = z }) in (h.before, h.all, h.number)
