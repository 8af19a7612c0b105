-- The values that are tested with `multiMatch`.
use Rattle.std.proofs.Common.{◌≡◌, ◌∙◌, ℕ, ◌+◌, ◌<◌, length, drop, get_or, subst, Bool, true, false, cond, List, [], ◌∷◌, ◌++◌, Option, Some, None, refl, ap, sym}
use Rattle.std.proofs.lemmas.List.{drop_more}
use Rattle.std.proofs.lemmas.Slice.Eq.{bytes_eq-Decides}
use Rattle.std.specs.Option.{option_map, option_or}
use Rattle.std.specs.Prelude.{Result, Ok, Err}
use Rattle.std.specs.Result.{IfOk}
use Rattle.std.specs.Str.{bytes_eq}
use Rattle.sec_ast.specs.declared.link.Link.{Link}
use Rattle.sec_ast.specs.declared.transform.Transform.{Transform}
use Rattle.sec_eval.specs.Search.{IsMissed, LeadsTo, found_by, found_then}
use Rattle.sec_eval.specs.declared.search.Search.{Search}
use Rattle.sec_eval.specs.declared.search.Search.TheVariants as searches
use Rattle.sec_meaning.specs.Values.{Groups, changes, first_hit, found_in, tested}
use Rattle.sec_meaning.specs.declared.state.Found.{Found}
use Rattle.sec_transforms.specs.Apply.{chained, transformed}

turned : (o : Option Groups) (w : List ℕ) (a b : Option Found) → (o ≡ None → a ≡ b) → option_or (option_map (found_in w) o) a ≡ option_or (option_map (found_in w) o) b
turned None w a b same = same refl
turned (Some groups) w a b same = refl

changed : (b : Bool) (f : List ℕ → Option Groups) (w v : List ℕ) (left : List (List ℕ)) (last : List ℕ) → (b ≡ true → w ≡ v) → f v ≡ None → (f w ≡ None → first_hit f (left ++ last ∷ []) ≡ first_hit f left)
    → first_hit f ((cond b [] (w ∷ []) ++ left) ++ last ∷ []) ≡ first_hit f (cond b [] (w ∷ []) ++ left)
changed true f w v left last same none on = on (ap f (same refl) ∙ none)
changed false f w v left last same none on = turned (f w) w _ _ on

again : (f : List ℕ → Option Groups) (ts : List Transform) (v : List ℕ) → f v ≡ None → first_hit f (changes ts v ++ chained ts v ∷ []) ≡ first_hit f (changes ts v)
unfolding chained
again f [] v none = rw none refl
again f (t ∷ ts) v none =
    let w = transformed t v in
    changed (bytes_eq w v) f w v (changes ts w) (chained ts w) (bytes_eq-Decides w v).0 none (λ e. again f ts w e)

-- the value after the whole chain was tested before, so a further test of it finds nothing new
pub last_again : (f : List ℕ → Option Groups) (ts : List Transform) (v : List ℕ) → first_hit f ((v ∷ changes ts v) ++ chained ts v ∷ []) ≡ first_hit f (v ∷ changes ts v)
last_again f ts v = turned (f v) v _ _ (λ e. again f ts v e)

found_first : (o a : Option Found) (x : Found) → Some x ≡ option_or o None → Some x ≡ option_or o a
found_first None a x is = cc
found_first (Some y) a x is = is

found_later : (o a : Option Found) → None ≡ option_or o None → a ≡ option_or o a
found_later None a is = refl
found_later (Some y) a is = cc

-- once one value was tested, the changes of it are left
pub begun : (f : List ℕ → Option Groups) (ts : List Transform) (v : List ℕ) (s : Search) → found_by s ≡ first_hit f (v ∷ []) → IsMissed v s → found_then f ts s ≡ first_hit f (v ∷ changes ts v)
begun f ts v (searches.Found value groups) is missed = found_first _ _ _ is
begun f ts v (searches.Missed value) is missed = ap (λ (w : List ℕ). first_hit f (changes ts w)) missed ∙ found_later _ _ is

pub ended : (f : List ℕ → Option Groups) (s : Search) → found_then f [] s ≡ found_by s
ended f (searches.Found value groups) = refl
ended f (searches.Missed value) = refl

pub leads_on : (ts : List Transform) (v : List ℕ) (s : Search) → IsMissed v s → LeadsTo (chained ts v) ts s
leads_on ts v (searches.Found value groups) missed = tt
leads_on ts v (searches.Missed value) missed = ap (chained ts) missed

pub led : (last : List ℕ) (s : Search) → LeadsTo last [] s → IsMissed last s
unfolding chained
led last (searches.Found value groups) leads = tt
led last (searches.Missed value) leads = leads

-- one transformation more of a chain
pub next_found : (f : List ℕ → Option Groups) (ts : List Transform) (i : ℕ) (d : Transform) (old new : Search) (whole : Option Found) → i < length ts → found_then f (drop i ts) old ≡ whole
    → ((left : List Transform) → found_then f left new ≡ found_then f (get_or ts i d ∷ left) old) → found_then f (drop (i + 1) ts) new ≡ whole
next_found f ts i d old new whole below is step = step (drop (i + 1) ts) ∙ ap (λ (left : List Transform). found_then f left old) (sym (drop_more ts i d below)) ∙ is

pub next_leads : (ts : List Transform) (i : ℕ) (d : Transform) (old new : Search) (last : List ℕ) → i < length ts → LeadsTo last (drop i ts) old
    → ((left : List Transform) (end : List ℕ) → LeadsTo end (get_or ts i d ∷ left) old → LeadsTo end left new) → LeadsTo last (drop (i + 1) ts) new
next_leads ts i d old new last below leads step = step (drop (i + 1) ts) last (subst (λ (left : List Transform). LeadsTo last left old) (drop_more ts i d below) leads)

-- a transformation that changes nothing, and one that makes a value in which nothing is found
pub kept : (t : Transform) (left : List Transform) (v next last : List ℕ) → next ≡ transformed t v → bytes_eq next v ≡ true → chained (t ∷ left) v ≡ last → chained left v ≡ last
unfolding chained
kept t left v next last is same leads = ap (chained left) (sym ((bytes_eq-Decides next v).0 same) ∙ is) ∙ leads

pub stepped : (t : Transform) (left : List Transform) (v next last : List ℕ) (s : Search) → next ≡ transformed t v → IsMissed next s → chained (t ∷ left) v ≡ last → LeadsTo last left s
unfolding chained
stepped t left v next last (searches.Found value groups) is missed leads = tt
stepped t left v next last (searches.Missed value) is missed leads = ap (chained left) (missed ∙ is) ∙ leads

pub tested_each : {E : Type 0} (result : Result Search E) (f : List ℕ → Option Groups) (link : Link) (v : List ℕ) → link.multi ≡ true
    → IfOk result (λ s. found_by s ≡ first_hit f (v ∷ changes link.transforms v)) → IfOk result (λ s. found_by s ≡ first_hit f (tested link v))
tested_each (Ok s) f link v multi is = is ∙ rw multi (sym (last_again f link.transforms v))
tested_each (Err e) f link v multi is = tt
