-- Vectors with a value up to a bound, and the values of minimal pairs, by [2] and [3].
use Rattle.std.proofs.Common.{◌≡◌, ℕ, zero, suc, ◌+◌, ◌*◌, ◌<◌, ◌≤◌, List, [], ◌∷◌, ◌++◌, length, get_or, refl, sym, ap, subst, ◌∙◌, inl, inr, arith}
use Rattle.std.specs.Prelude.{◌⊎◌, ◌↔◌, negsuc}
use Rattle.std.proofs.lemmas.Bool.{cases_lt}
use Rattle.sg_defs.specs.Vectors.{ListsDescending}
use Rattle.sg_nonunique.specs.Affine.{vector_value_of, IsVectorFactorization}
use Rattle.sg_nonunique.specs.Costs.{IsAtomValue, IsIntegerPartial, IsPartial}
use Rattle.sg_nonunique.specs.Equations.{IsAtom}
use Rattle.sg_laws_finite.specs.Listing.{levels, all_partial}
use Rattle.sg_laws_finite.proofs.PartialLemmas.{partial-listed}
use Rattle.sg_nonunique_samples.proofs.AffineSamples.{two_three}
use Rattle.sg_nonunique_samples.proofs.EquationSamples.{columns, atom-from, below-4, nonzero-4, positive-4, solves, solved}

-- ---- vectors with a value up to a bound

pub partial-six : ListsDescending (IsPartial 1 ((2 ∷ []) ∷ (3 ∷ []) ∷ []) (6 ∷ []))
    ((3 ∷ 0 ∷ []) ∷ (2 ∷ 0 ∷ []) ∷ (1 ∷ 1 ∷ []) ∷ (1 ∷ 0 ∷ []) ∷ (0 ∷ 2 ∷ []) ∷ (0 ∷ 1 ∷ []) ∷ (0 ∷ 0 ∷ []) ∷ [])
unfolding levels all_partial
partial-six = partial-listed 1 ((2 ∷ []) ∷ (3 ∷ []) ∷ []) (6 ∷ []) two_three.dimension two_three.nonzero refl

pub partial-two : ListsDescending (IsPartial 1 ((2 ∷ []) ∷ (3 ∷ []) ∷ []) (2 ∷ [])) ((1 ∷ 0 ∷ []) ∷ (0 ∷ 0 ∷ []) ∷ [])
unfolding levels all_partial
partial-two = partial-listed 1 ((2 ∷ []) ∷ (3 ∷ []) ∷ []) (2 ∷ []) two_three.dimension two_three.nonzero refl

pub partial-three : ListsDescending (IsPartial 1 ((2 ∷ []) ∷ (3 ∷ []) ∷ []) (3 ∷ [])) ((1 ∷ 0 ∷ []) ∷ (0 ∷ 1 ∷ []) ∷ (0 ∷ 0 ∷ []) ∷ [])
unfolding levels all_partial
partial-three = partial-listed 1 ((2 ∷ []) ∷ (3 ∷ []) ∷ []) (3 ∷ []) two_three.dimension two_three.nonzero refl

pub partial-negative : (z : List ℕ) → IsIntegerPartial 1 ((2 ∷ []) ∷ (3 ∷ []) ∷ []) (negsuc 0 ∷ []) z → ⊥
partial-negative z h = h

-- ---- values of minimal pairs

abbrev A : List (List ℕ)
A = (2 ∷ []) ∷ (3 ∷ []) ∷ []

abbrev IsOneOf : List ℕ → Type 0
IsOneOf v = (v ≡ 2 ∷ []) ⊎ ((v ≡ 3 ∷ []) ⊎ (v ≡ 6 ∷ []))

two-places : (z : List ℕ) → length z ≡ 2 → (a b : ℕ) × (z ≡ a ∷ b ∷ [])
two-places [] e = absurd (omega arith)
two-places (a ∷ []) e = absurd (omega arith)
two-places (a ∷ b ∷ []) e = (a, b, refl)
two-places (a ∷ b ∷ c ∷ z) e = absurd (omega arith)

-- an atom is one of four, each below whatever it can be
value-of_atom : (a b c d : ℕ) → IsAtom 1 columns (a ∷ b ∷ c ∷ d ∷ []) → IsOneOf ((a * 2 + (b * 3 + 0)) ∷ [])
value-of_atom a b c d h = elim (cases_lt 0 a) [
  | inl some_a ↦ elim (cases_lt 0 c) [
    | inl some_c ↦
        let e = h.minimal (1 ∷ 0 ∷ 1 ∷ 0 ∷ []) (solves 1 0 1 0 refl) (nonzero-4 1 0 1 0 (omega arith)) (below-4 1 0 1 0 a b c d some_a (omega arith) some_c (omega arith)) in
        inl (ap (λ n. n ∷ []) (value 1 0 1 0 2 e refl))
    | inr no_c ↦ without_ac (inr (omega arith))
  ]
  | inr no_a ↦ without_ac (inl (omega arith))
]
  where
    equation : 2 * a + 3 * b ≡ 2 * c + 3 * d
    equation = solved a b c d h.solution

    positive : 0 < a + b + c + d
    positive = positive-4 a b c d h.nonzero

    value : (p q r s n : ℕ) → p ∷ q ∷ r ∷ s ∷ [] ≡ a ∷ b ∷ c ∷ d ∷ [] → p * 2 + (q * 3 + 0) ≡ n → a * 2 + (b * 3 + 0) ≡ n
    value p q r s n e f = omega (arith, ap (λ v. get_or v 0 0) e, ap (λ v. get_or v 1 0) e, f)

    without_bd : (a ≡ 0) ⊎ (c ≡ 0) → (b ≡ 0) ⊎ (d ≡ 0) → IsOneOf ((a * 2 + (b * 3 + 0)) ∷ [])
    without_bd (inl no_a) (inl no_b) = absurd (omega (arith, equation, positive))
    without_bd (inr no_c) (inr no_d) = absurd (omega (arith, equation, positive))
    without_bd (inl no_a) (inr no_d) =
        let many_b : 2 ≤ b = omega (arith, equation, positive) in
        let many_c : 3 ≤ c = omega (arith, equation, positive) in
        let e = h.minimal (0 ∷ 2 ∷ 3 ∷ 0 ∷ []) (solves 0 2 3 0 refl) (nonzero-4 0 2 3 0 (omega arith)) (below-4 0 2 3 0 a b c d (omega arith) many_b many_c (omega arith)) in
        inr (inr (ap (λ n. n ∷ []) (value 0 2 3 0 6 e refl)))
    without_bd (inr no_c) (inl no_b) =
        let many_a : 3 ≤ a = omega (arith, equation, positive) in
        let many_d : 2 ≤ d = omega (arith, equation, positive) in
        let e = h.minimal (3 ∷ 0 ∷ 0 ∷ 2 ∷ []) (solves 3 0 0 2 refl) (nonzero-4 3 0 0 2 (omega arith)) (below-4 3 0 0 2 a b c d many_a (omega arith) (omega arith) many_d) in
        inr (inr (ap (λ n. n ∷ []) (value 3 0 0 2 6 e refl)))

    without_ac : (a ≡ 0) ⊎ (c ≡ 0) → IsOneOf ((a * 2 + (b * 3 + 0)) ∷ [])
    without_ac no_ac = elim (cases_lt 0 b) [
      | inl some_b ↦ elim (cases_lt 0 d) [
        | inl some_d ↦
            let e = h.minimal (0 ∷ 1 ∷ 0 ∷ 1 ∷ []) (solves 0 1 0 1 refl) (nonzero-4 0 1 0 1 (omega arith)) (below-4 0 1 0 1 a b c d (omega arith) some_b (omega arith) some_d) in
            inr (inl (ap (λ n. n ∷ []) (value 0 1 0 1 3 e refl)))
        | inr no_d ↦ without_bd no_ac (inr (omega arith))
      ]
      | inr no_b ↦ without_bd no_ac (inl (omega arith))
    ]

pub atom_values : (v : List ℕ) → IsAtomValue 1 ((2 ∷ []) ∷ (3 ∷ []) ∷ []) v ↔ ((v ≡ 2 ∷ []) ⊎ ((v ≡ 3 ∷ []) ⊎ (v ≡ 6 ∷ [])))
atom_values v = ((λ h. to h.0 h.1 h.2 h.3), from)
  where
    to : (z z' : List ℕ) → IsVectorFactorization 1 A v z → IsAtom 1 columns (z ++ z') → IsOneOf v
    to z z' f atom =
        let p = two-places z f.places in
        let e : z ++ z' ≡ p.0 ∷ p.1 ∷ z' = ap (λ x. x ++ z') p.2 in
        let long : length (p.0 ∷ p.1 ∷ z') ≡ 4 = ap length (sym e) ∙ atom.solution.places in
        let q = two-places z' (omega arith) in
        let g : z ++ z' ≡ p.0 ∷ p.1 ∷ q.0 ∷ q.1 ∷ [] = e ∙ ap (λ x. p.0 ∷ p.1 ∷ x) q.2 in
        let is : vector_value_of 1 A (p.0 ∷ p.1 ∷ []) ≡ v = ap (vector_value_of 1 A) (sym p.2) ∙ f.value in
        subst IsOneOf is (value-of_atom p.0 p.1 q.0 q.1 (subst (IsAtom 1 columns) g atom))

    from : IsOneOf v → IsAtomValue 1 A v
    from (inl e) = (1 ∷ 0 ∷ [], 1 ∷ 0 ∷ [], record { places = refl; value = sym e }, atom-from 1 0 1 0 refl (omega arith) (λ a b c d l m n o e p. (omega arith, omega arith, omega arith, omega arith)))
    from (inr (inl e)) = (0 ∷ 1 ∷ [], 0 ∷ 1 ∷ [], record { places = refl; value = sym e }, atom-from 0 1 0 1 refl (omega arith) (λ a b c d l m n o e p. (omega arith, omega arith, omega arith, omega arith)))
    from (inr (inr e)) = (3 ∷ 0 ∷ [], 0 ∷ 2 ∷ [], record { places = refl; value = sym e }, atom-from 3 0 0 2 refl (omega arith) (λ a b c d l m n o e p. (omega arith, omega arith, omega arith, omega arith)))
