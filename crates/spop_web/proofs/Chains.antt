-- The first bad argument, found one rule after the other.
use Rattle.std.proofs.Common.{◌≡◌, ℕ, Bool, true, false, not, cond, List, [], ◌∷◌, refl, sym, subst, ap, ◌∙◌, Option, Some, None}
use Rattle.std.specs.Prelude.{bytes_eq, find}
use Rattle.std.specs.Option.{option_map}
use Rattle.spop_data.specs.declared.value.Pair.{Pair}
use Rattle.spop_web.specs.declared.argument.Arg.{Arg}
use Rattle.spop_web.specs.declared.argument.ArgFault.TheVariants as faults
use Rattle.spop_web.specs.Reading.{Rule, first_bad, meets, noted}
use Rattle.spop_web.specs.Names.{name_of}
use Rattle.spop_web.specs.Refusal.{RefusesFirst}
use Rattle.spop_web.specs.Taking.{without}
use Rattle.spop_web.specs.Values.{given}
use Rattle.spop_web.proofs.Takes.{given_without}

-- what was bad before, or else the first bad argument of the rules
abbrev pub chain : List Rule → List Pair → Option Arg → Option Arg
chain [] args bad = bad
chain (r ∷ rules) args bad = chain rules args (noted bad r.arg (meets args r))

chain_some : (rules : List Rule) (args : List Pair) (bad : Arg) → chain rules args (Some bad) ≡ Some bad
chain_some [] args bad = refl
chain_some (r ∷ rules) args bad = chain_some rules args bad

step : (r : Rule) (rules : List Rule) (args : List Pair) (good : Bool) → chain rules args None ≡ first_bad rules args →
    chain rules args (noted None r.arg good) ≡ option_map (λ q. q.arg) (cond (not good) (Some r) (find (λ q. not (meets args q)) rules))
step r rules args true rest = rest
step r rules args false rest = chain_some rules args r.arg

pub chain_none : (rules : List Rule) (args : List Pair) → chain rules args None ≡ first_bad rules args
chain_none [] args = refl
chain_none (r ∷ rules) args = step r rules args (meets args r) (chain_none rules args)

-- of each rule's argument the same value is seen
abbrev pub Same : List Rule → List Pair → List Pair → Type 0
Same [] seen args = Unit {0}
Same (r ∷ rules) seen args = (given r.arg seen ≡ given r.arg args) × Same rules seen args

pub same_all : (rules : List Rule) (args : List Pair) → Same rules args args
same_all [] args = tt
same_all (r ∷ rules) args = (refl, same_all rules args)

-- none of the rules has that name
abbrev pub Apart : List Rule → Arg → Type 0
Apart [] arg = Unit {0}
Apart (r ∷ rules) arg = (bytes_eq (name_of arg) (name_of r.arg) ≡ false) × Apart rules arg

same_without : (rules : List Rule) (seen args : List Pair) (arg : Arg) → Apart rules arg → Same rules seen args → Same rules (without arg seen) args
same_without [] seen args arg apart same = tt
same_without (r ∷ rules) seen args arg apart same =
    (given_without r.arg arg seen apart.0 ∙ same.0, same_without rules seen args arg apart.1 same.1)

-- what is known once the rules before `rest` were asked
pub record Stage (all rest : List Rule) (args seen : List Pair) (bad : Option Arg) : Type 0 where
  pub same : Same rest seen args
  pub left : chain rest args bad ≡ first_bad all args

pub begin : (all : List Rule) (args seen : List Pair) (bad : Option Arg) → seen ≡ args → bad ≡ None → Stage all all args seen bad
begin all args seen bad is nothing = record {
  same = subst (λ (l : List Pair). Same all l args) (sym is) (same_all all args);
  left = ap (λ (b : Option Arg). chain all args b) nothing ∙ chain_none all args;
}

pub next : (all rest : List Rule) (r : Rule) (args seen new : List Pair) (bad now : Option Arg) →
    Stage all (r ∷ rest) args seen bad → new ≡ without r.arg seen → now ≡ noted bad r.arg (meets seen r) → Apart rest r.arg → Stage all rest args new now
next all rest r args seen new bad now stage taken is apart = record {
  same = subst (λ (l : List Pair). Same rest l args) (sym taken) (same_without rest seen args r.arg apart stage.same.1);
  left = ap (λ (b : Option Arg). chain rest args b) (is ∙ ap (λ v. noted bad r.arg (r.good v)) stage.same.0) ∙ stage.left;
}

pub refuses : (arg : Arg) (bad first : Option Arg) (id identifier : Option (List ℕ)) →
    bad ≡ Some arg → bad ≡ first → id ≡ identifier → RefusesFirst (faults.Bad arg id) first identifier
refuses arg bad first id identifier is same good = (sym same ∙ is, good)
