-- Catenary degrees of small numbers, of <2, 3> and of N.
use Rattle.std.proofs.Common.{◌≡◌, ℕ, ◌<◌, ◌≤◌, List, [], ◌∷◌, sum, refl, sym, ap, subst, ◌∙◌, inl, inr, arith}
use Rattle.std.specs.Prelude.{◌⊎◌}
use Rattle.sg_defs.specs.Membership.{IsFactorization}
use Rattle.sg_defs.specs.Vectors.{distance}
use Rattle.sg_nonunique.specs.Catenary.{IsChained, IsCatenary, IsCatenaryOf}
use Rattle.sg_nonunique.specs.Classes.{IsSameClass}
use Rattle.sg_nonunique.specs.Walks.{IsJoined}
use Rattle.sg_nonunique.proofs.WalkLemmas.{joined-here, joined-step}
use Rattle.sg_laws_finite.proofs.ElementLemmas.{contains-nil}
use Rattle.sg_laws_families.proofs.ChainLemmas.{catenary-from_classes, unchained}
use Rattle.sg_laws_families.proofs.ClassLemmas.{class-here}
use Rattle.sg_nonunique_samples.proofs.ClassSamples.{twelve-first, thirty-first, thirty-12, six-first, six-apart}
use Rattle.sg_nonunique_samples.proofs.KnownLists.{by_one, two-of, three-of, four, twelve, thirty, six-of_two_three}
use Rattle.sg_nonunique_samples.proofs.PresentationSamples.{two_three-betti, two_three-family}

-- ---- 12 in <3, 5, 7>

abbrev Twelve : List ℕ → Type 0
Twelve = IsFactorization (3 ∷ 5 ∷ 7 ∷ []) 12

pub twelve-four : IsCatenaryOf (IsFactorization (3 ∷ 5 ∷ 7 ∷ []) 12) 4
twelve-four = record { chained = λ x y p q. joined-step Twelve (λ a b. distance a b ≤ 4) x y p q (near x y p q); least = least }
  where
    pick : (z : List ℕ) → Twelve z → (z ≡ 4 ∷ 0 ∷ 0 ∷ []) ⊎ (z ≡ 0 ∷ 1 ∷ 1 ∷ [])
    pick z f = two-of (4 ∷ 0 ∷ 0 ∷ []) (0 ∷ 1 ∷ 1 ∷ []) z ((twelve.exactly z).1 f)

    near-from : (a y : List ℕ) → Twelve y → distance a (4 ∷ 0 ∷ 0 ∷ []) ≤ 4 → distance a (0 ∷ 1 ∷ 1 ∷ []) ≤ 4 → distance a y ≤ 4
    near-from a y q l m = elim (pick y q) [
      | inl e ↦ subst (λ v. distance a v ≤ 4) (sym e) l
      | inr e ↦ subst (λ v. distance a v ≤ 4) (sym e) m
    ]

    near : (x y : List ℕ) → Twelve x → Twelve y → distance x y ≤ 4
    near x y p q = elim (pick x p) [
      | inl e ↦ subst (λ v. distance v y ≤ 4) (sym e) (near-from (4 ∷ 0 ∷ 0 ∷ []) y q (omega arith) (omega arith))
      | inr e ↦ subst (λ v. distance v y ≤ 4) (sym e) (near-from (0 ∷ 1 ∷ 1 ∷ []) y q (omega arith) (omega arith))
    ]

    least : (c : ℕ) → c < 4 → IsChained Twelve c → ⊥
    least c l h =
        let x = 4 ∷ 0 ∷ 0 ∷ [] in
        let y = 0 ∷ 1 ∷ 1 ∷ [] in
        unchained Twelve 3 (λ z f. f.places) x c (λ a s. subst (λ v. c < sum v) (sym (twelve-first a s)) l) y (record { places = refl; value = refl }) (record { places = refl; value = refl }) apart h
      where
        apart : IsSameClass Twelve (4 ∷ 0 ∷ 0 ∷ []) (0 ∷ 1 ∷ 1 ∷ []) → ⊥
        apart s = let e : ◌≡◌ {A = ℕ} 2 4 = ap sum (twelve-first (0 ∷ 1 ∷ 1 ∷ []) s) in omega arith

-- ---- 30 in <6, 10, 15>

abbrev Thirty : List ℕ → Type 0
Thirty = IsFactorization (6 ∷ 10 ∷ 15 ∷ []) 30

pub thirty-five : IsCatenaryOf (IsFactorization (6 ∷ 10 ∷ 15 ∷ []) 30) 5
thirty-five = record { chained = λ x y p q. joined-step Thirty (λ a b. distance a b ≤ 5) x y p q (near x y p q); least = least }
  where
    pick : (z : List ℕ) → Thirty z → (z ≡ 5 ∷ 0 ∷ 0 ∷ []) ⊎ ((z ≡ 0 ∷ 3 ∷ 0 ∷ []) ⊎ (z ≡ 0 ∷ 0 ∷ 2 ∷ []))
    pick z f = three-of (5 ∷ 0 ∷ 0 ∷ []) (0 ∷ 3 ∷ 0 ∷ []) (0 ∷ 0 ∷ 2 ∷ []) z ((thirty.exactly z).1 f)

    near-from : (a y : List ℕ) → Thirty y → distance a (5 ∷ 0 ∷ 0 ∷ []) ≤ 5 → distance a (0 ∷ 3 ∷ 0 ∷ []) ≤ 5 → distance a (0 ∷ 0 ∷ 2 ∷ []) ≤ 5 → distance a y ≤ 5
    near-from a y q l m n = elim (pick y q) [
      | inl e ↦ subst (λ v. distance a v ≤ 5) (sym e) l
      | inr other ↦ elim other [ inl e ↦ subst (λ v. distance a v ≤ 5) (sym e) m | inr e ↦ subst (λ v. distance a v ≤ 5) (sym e) n ]
    ]

    near : (x y : List ℕ) → Thirty x → Thirty y → distance x y ≤ 5
    near x y p q = elim (pick x p) [
      | inl e ↦ subst (λ v. distance v y ≤ 5) (sym e) (near-from (5 ∷ 0 ∷ 0 ∷ []) y q (omega arith) (omega arith) (omega arith))
      | inr other ↦ elim other [
        | inl e ↦ subst (λ v. distance v y ≤ 5) (sym e) (near-from (0 ∷ 3 ∷ 0 ∷ []) y q (omega arith) (omega arith) (omega arith))
        | inr e ↦ subst (λ v. distance v y ≤ 5) (sym e) (near-from (0 ∷ 0 ∷ 2 ∷ []) y q (omega arith) (omega arith) (omega arith))
      ]
    ]

    least : (c : ℕ) → c < 5 → IsChained Thirty c → ⊥
    least c l h =
        let x = 5 ∷ 0 ∷ 0 ∷ [] in
        let y = 0 ∷ 3 ∷ 0 ∷ [] in
        unchained Thirty 3 (λ z f. f.places) x c (λ a s. subst (λ v. c < sum v) (sym (thirty-first a s)) l) y (record { places = refl; value = refl }) (record { places = refl; value = refl }) thirty-12 h

pub gap-zero : IsCatenaryOf (IsFactorization (3 ∷ 5 ∷ 7 ∷ []) 4) 0
gap-zero = record { chained = λ x y p q. absurd (contains-nil x ((four.exactly x).1 p)); least = λ c l h. omega arith }

-- ---- over all elements

abbrev F : ℕ → List ℕ → Type 0
F = IsFactorization (2 ∷ 3 ∷ [])

pub two_three : IsCatenary (IsFactorization (2 ∷ 3 ∷ [])) 3
two_three = catenary-from_classes F (λ n. n) 2 two_three-family 3 (record { bound = bound; reached = reached })
  where
    short : (z : List ℕ) → F 6 z → sum z ≤ 3
    short z f = elim (two-of (3 ∷ 0 ∷ []) (0 ∷ 2 ∷ []) z ((six-of_two_three.exactly z).1 f)) [
      | inl e ↦ subst (λ v. sum v ≤ 3) (sym e) (omega arith)
      | inr e ↦ subst (λ v. sum v ≤ 3) (sym e) (omega arith)
    ]

    bound : (n : ℕ) (x y : List ℕ) → F n x → F n y → (IsSameClass (F n) x y → ⊥) → (a : List ℕ) × IsSameClass (F n) x a × (sum a ≤ 3)
    bound n x y p q apart = (x, class-here (F n) x p, short x (subst (λ m. F m x) (two_three-betti n (x, y, p, q, apart)) p))

    reached : ◌≡◌ {A = ℕ} 3 0 ⊎ ((n : ℕ) × (x y : List ℕ) × F n x × F n y × (IsSameClass (F n) x y → ⊥) × ((a : List ℕ) → IsSameClass (F n) x a → 3 ≤ sum a))
    reached = inr (
      6,
      3 ∷ 0 ∷ [],
      0 ∷ 2 ∷ [],
      record { places = refl; value = refl },
      record { places = refl; value = refl },
      six-apart,
      λ a s. subst (λ v. 3 ≤ sum v) (sym (six-first a s)) (omega arith),
    )

pub naturals : IsCatenary (IsFactorization (1 ∷ [])) 0
naturals = record { chained = chained; least = λ c l. absurd (omega arith) }
  where
    chained : (n : ℕ) → IsChained (IsFactorization (1 ∷ []) n) 0
    chained n x y p q =
        let a = by_one 1 n x p in
        let b = by_one 1 n y q in
        let e : a.0 ≡ b.0 = omega (arith, a.2, b.2) in
        let f : x ≡ y = a.1 ∙ ap (λ k. k ∷ []) e ∙ sym b.1 in
        let V = IsFactorization (1 ∷ []) n in
        subst (IsJoined V (λ a b. distance a b ≤ 0) x) f (joined-here V (λ a b. distance a b ≤ 0) x p)
