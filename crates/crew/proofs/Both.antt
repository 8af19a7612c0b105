-- What two parts of a crew did, the whole crew did.
use Rattle.std.proofs.Common.{◌≡◌, ◌+◌, ℕ, List, [], ◌∷◌, ◌++◌, arith, length, subst}
use Rattle.crew.specs.Served.{Each}

module _ {D M : Type 0} (did : ℕ → D → D → M → M → Type 0) where
  -- the second part's numbers go on where those of the first end
  pub both : (first second : ℕ) (ds es : List D) (ms ns : List M) (ds' es' : List D) (ms' ns' : List M) → second ≡ first + length ds → Each did first ds es ms ns → Each did second ds' es' ms' ns' → Each did first (ds ++ ds') (es ++ es') (ms ++ ms') (ns ++ ns')
  both first second [] [] [] [] ds' es' ms' ns' on a b =
      let same : second ≡ first = omega (arith, on) in
      subst (λ k. Each did k ds' es' ms' ns') same b
  both first second (d ∷ ds) (e ∷ es) (m ∷ ms) (n ∷ ns) ds' es' ms' ns' on a b =
      let next : second ≡ (first + 1) + length ds = omega (arith, on) in
      (a.0, both (first + 1) second ds es ms ns ds' es' ms' ns' next a.1 b)
  both first second [] [] [] (n ∷ ns) ds' es' ms' ns' on a b = absurd a
  both first second [] [] (m ∷ ms) ns ds' es' ms' ns' on a b = absurd a
  both first second [] (e ∷ es) ms ns ds' es' ms' ns' on a b = absurd a
  both first second (d ∷ ds) [] ms ns ds' es' ms' ns' on a b = absurd a
  both first second (d ∷ ds) (e ∷ es) [] ns ds' es' ms' ns' on a b = absurd a
  both first second (d ∷ ds) (e ∷ es) (m ∷ ms) [] ds' es' ms' ns' on a b = absurd a
