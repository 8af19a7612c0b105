-- Peers that were served.
use Rattle.std.proofs.Common.{◌≡◌, ℕ, List, [], ◌∷◌, ◌++◌, append_assoc, append-nil, map, Option, Some, None, refl, sym, ap, ◌∙◌, subst}
use mathlib.Core.List.{map-append}
use Rattle.waf_io.specs.Door.{Keeps, TakesFirst}
use Rattle.waf_io.specs.Doors.{KeepsAll}
use Rattle.conn_worker.specs.Desk.{Passes}
use Rattle.conn_worker.specs.Served.{Served}
use Rattle.conn_worker.specs.Worked.{IsCaused, Sight, TakesAll, Visit, Visited, Worked, at_peer}

module _ {A : Type 0} where
  takes_none : (left : Option (List A)) → TakesAll [] left left
  takes_none (Some left) = (left, refl, refl)
  takes_none None = refl

  keeps_none : (served : Option (List A)) → KeepsAll served [] served
  keeps_none (Some held) = (held, refl, sym (append-nil held))
  keeps_none None = tt

  takes_one : (peer : A) (left still : Option (List A)) → TakesFirst peer left still → TakesAll (peer ∷ []) left still
  takes_one peer (Some left) still t = t
  takes_one peer None still t = t

  keeps_one : (peer : A) (served now : Option (List A)) → Keeps served peer now → KeepsAll served (peer ∷ []) now
  keeps_one peer served (Some now) k = k
  keeps_one peer served None k = tt

  takes_both : (xs ys : List A) (left still now : Option (List A)) → TakesAll xs left still → TakesAll ys still now → TakesAll (xs ++ ys) left now
  takes_both xs ys (Some left) still now t u =
      let v : TakesAll ys (Some t.0) now = subst (λ (o : Option (List A)). TakesAll ys o now) t.2 u in
      (v.0, t.1 ∙ ap (λ (l : List A). xs ++ l) v.1 ∙ sym (append_assoc xs ys v.0), v.2)
  takes_both xs ys None still now t u = subst (λ (o : Option (List A)). TakesAll ys o now) t u

  keeps_both : (xs ys : List A) (served now last : Option (List A)) → KeepsAll served xs now → KeepsAll now ys last → KeepsAll served (xs ++ ys) last
  keeps_both xs ys served now (Some last) k m =
      let h : KeepsAll served xs (Some m.0) = subst (λ (o : Option (List A)). KeepsAll served xs o) m.1 k in
      (h.0, h.1, m.2 ∙ ap (λ (l : List A). l ++ ys) h.2 ∙ append_assoc h.0 xs ys)
  keeps_both xs ys served now None k m = tt

module _ {I O : Type 0} (sight : Sight I O) (told : Option ℕ) (size : ℕ) where
  visited_both : (p q r : Passes) (visits more : List (Visit I O)) → Visited sight told size p visits q → Visited sight told size q more r → Visited sight told size p (visits ++ more) r
  visited_both p q r [] more is next = subst (λ (x : Passes). Visited sight told size x more r) is next
  visited_both p q r (v ∷ visits) more is next = (is.0, is.1, is.2, visited_both is.0 q r visits more is.3 next)

  pub worked_none : (p : Passes) (left served : Option (List (I × O))) → Worked sight told size p p left left served served
  worked_none p left served = record { visits = []; visited = refl; came = takes_none left; went = keeps_none served }

  pub worked_same : (p : Passes) (left still served now : Option (List (I × O))) → still ≡ left → now ≡ served → Worked sight told size p p left still served now
  worked_same p left still served now a b =
      subst (λ (o : Option (List (I × O))). Worked sight told size p p left o served now) (sym a)
      (subst (λ (o : Option (List (I × O))). Worked sight told size p p left left served o) (sym b) (worked_none p left served))

  pub worked_one : (p q : Passes) (v : Visit I O) (left mid still served same now : Option (List (I × O))) → Served told size v.how (at_peer sight p v.came) (at_peer sight q v.went) → IsCaused sight v
      → TakesFirst v.came left mid → still ≡ mid → same ≡ served → Keeps same v.went now → Worked sight told size p q left still served now
  worked_one p q v left mid still served same now s c t a b k = record {
    visits = v ∷ [];
    visited = (q, s, c, refl);
    came = takes_one v.came left still (subst (λ (o : Option (List (I × O))). TakesFirst v.came left o) (sym a) t);
    went = keeps_one v.went served now (subst (λ (o : Option (List (I × O))). Keeps o v.went now) b k);
  }

  pub worked_both : (p q r : Passes) (left still none served now last : Option (List (I × O))) → Worked sight told size p q left still served now → Worked sight told size q r still none now last
      → Worked sight told size p r left none served last
  worked_both p q r left still none served now last a b = record {
    visits = a.visits ++ b.visits;
    visited = visited_both p q r a.visits b.visits a.visited b.visited;
    came = subst (λ (l : List (I × O)). TakesAll l left none) (sym (map-append (λ (u : Visit I O). u.came) a.visits b.visits)) (takes_both (map (λ (u : Visit I O). u.came) a.visits) (map (λ (u : Visit I O). u.came) b.visits) left still none a.came b.came);
    went = subst (λ (l : List (I × O)). KeepsAll served l last) (sym (map-append (λ (u : Visit I O). u.went) a.visits b.visits)) (keeps_both (map (λ (u : Visit I O). u.went) a.visits) (map (λ (u : Visit I O). u.went) b.visits) served now last a.went b.went);
  }
