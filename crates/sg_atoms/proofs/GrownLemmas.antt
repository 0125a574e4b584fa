-- How vectors grow: each is a unit vector or grew from one that is shorter by 1; one that is a solution is an atom, and each
-- atom is grown (Contejean and Devie, An efficient incremental algorithm for solving systems of linear Diophantine equations, 1994).
use Rattle.std.proofs.Common.{◌≡◌, ◌≢◌, ℕ, zero, suc, ◌+◌, ◌-◌, ◌<◌, ℤ, pos, ◌+ℤ◌, ◌<ℤ◌, List, [], ◌∷◌, length, replicate, sum, refl, sym, ap, subst, ◌∙◌, inl, inr, arith}
use Rattle.std.specs.Prelude.{◌⊎◌, ⊤}
use Rattle.std.proofs.lemmas.Int.{ints}
use Rattle.sg_defs.specs.Vectors.{plus, minus, IsBelow}
use Rattle.sg_defs.proofs.VectorLemmas.{length-plus}
use Rattle.sg_nonunique.specs.Places.{unit}
use Rattle.sg_nonunique.specs.Walks.{IsWalk, IsJoined}
use Rattle.sg_nonunique.specs.Equations.{AreColumns, image_of, inner_product, IsSolution, IsAtom, GrowsTo, IsGrown}
use Rattle.sg_nonunique.proofs.SumLemmas.{zero_or_positive, sum-plus, length-minus, get_or-minus}
use Rattle.sg_nonunique.proofs.PlaceLemmas.{inside, length-unit, sum-unit}
use Rattle.sg_nonunique.proofs.OrderLemmas.{below-then, below-both, plus-minus}
use Rattle.sg_nonunique.proofs.WalkLemmas.{joined-then, joined-step}
use Rattle.sg_laws_finite.proofs.SearchLemmas.{vectors-decided}
use Rattle.sg_atoms.proofs.BelowLemmas.{positive-nonzero, nonzero-positive, below-same, below-raised, unit-below, unit-least}
use Rattle.sg_atoms.proofs.ImageLemmas.{length-image, inner-itself, inner-image, inner-zeros, weight_of, weight-plus, weight-negative}

module _ (r : ℕ) (columns : List (List ℤ)) where
  abbrev places : ℕ
  places = length columns

  abbrev Grows : List ℕ → List ℕ → Type 0
  Grows = GrowsTo r columns

  -- ---- steps

  pub length-step : (p q : List ℕ) → length p ≡ places → Grows p q → length q ≡ places
  length-step p q e s = ap length s.next ∙ length-plus p (unit places s.place) (e ∙ sym (length-unit places s.place)) ∙ e

  pub sum-step : (p q : List ℕ) → length p ≡ places → Grows p q → sum q ≡ sum p + 1
  sum-step p q e s =
      omega (arith, ap sum s.next, sum-plus p (unit places s.place) (e ∙ sym (length-unit places s.place)), sum-unit places s.place s.in_range)

  pub grown-unit : (j : ℕ) → j < places → IsGrown r columns (unit places j)
  grown-unit j l = (j, l, ([], (tt, refl)))

  pub grown-step : (p q : List ℕ) → IsGrown r columns p → Grows p q → IsGrown r columns q
  grown-step p q g s = (g.0, g.1, joined-then (λ _. ⊤) Grows (unit places g.0) p q g.2 (joined-step (λ _. ⊤) Grows p q tt tt s))

  walk-last : (ps : List (List ℕ)) (x y : List ℕ) → IsWalk (λ _. ⊤) Grows x ps y → (x ≡ y) ⊎ ((p : List ℕ) × IsJoined (λ _. ⊤) Grows x p × Grows p y)
  walk-last [] x y w = inl w.1
  walk-last (q ∷ ps) x y w = elim (walk-last ps q y w.2) [
    | inl e ↦ inr (x, ([], (tt, refl)), subst (Grows x) e w.1)
    | inr m ↦ inr (m.0, (q ∷ m.1.0, (tt, w.1, m.1.1)), m.2)
  ]

  -- a grown vector is a unit vector, or grew from a grown one
  pub grown-cases : (q : List ℕ) → IsGrown r columns q → ((j : ℕ) × (j < places) × (unit places j ≡ q)) ⊎ ((p : List ℕ) × IsGrown r columns p × Grows p q)
  grown-cases q g = elim (walk-last g.2.0 (unit places g.0) q g.2.1) [
    | inl e ↦ inl (g.0, g.1, e)
    | inr m ↦ inr (m.0, (g.0, g.1, m.1), m.2)
  ]

  walk-length : (ps : List (List ℕ)) (x y : List ℕ) → length x ≡ places → IsWalk (λ _. ⊤) Grows x ps y → length y ≡ places
  walk-length [] x y e w = ap length (sym w.1) ∙ e
  walk-length (q ∷ ps) x y e w = walk-length ps q y (length-step x q e w.1) w.2

  pub length-grown : (q : List ℕ) → IsGrown r columns q → length q ≡ places
  length-grown q g = walk-length g.2.0 (unit places g.0) q (length-unit places g.0) g.2.1

  pub grown-positive : (q : List ℕ) → IsGrown r columns q → 0 < sum q
  grown-positive q g = elim (grown-cases q g) [
    | inl first ↦ omega (arith, ap sum first.2, sum-unit places first.0 first.1)
    | inr after ↦ omega (arith, sum-step after.0 q (length-grown after.0 after.1) after.2)
  ]

  -- no other nonzero solution lies below a grown vector
  pub grown-apart : (q : List ℕ) → IsGrown r columns q → (s : List ℕ) → IsSolution r columns s → s ≢ replicate places 0 → s ≢ q → IsBelow s q → ⊥
  grown-apart q g s h n other b = elim (grown-cases q g) [
    | inl first ↦ other (unit-least places s first.0 first.1 (nonzero-positive s places h.places n) (subst (IsBelow s) (sym first.2) b) ∙ first.2)
    | inr after ↦ after.2.free s h n other b
  ]

  -- a grown solution is an atom
  pub grown-atom : (q : List ℕ) → IsGrown r columns q → IsSolution r columns q → IsAtom r columns q
  grown-atom q g h = record {
    solution = h;
    nonzero = positive-nonzero q places (grown-positive q g);
    minimal = λ s k n b. elim (vectors-decided s q) [ inl e ↦ e | inr other ↦ absurd (grown-apart q g s k n other b) ];
  }

  -- ---- each atom is grown

  module _ (shape : AreColumns r columns) where
    -- what is missing to an atom has a negative product with the image
    missing-negative : (p s : List ℕ) → length p ≡ places → IsSolution r columns s → IsBelow p s → (IsSolution r columns p → ⊥) →
        weight_of (image_of r columns p) columns (minus s p) <ℤ pos 0
    missing-negative p s e h b unsolved =
        let v = image_of r columns p in
        let rest : length (minus s p) ≡ places = length-minus s p (sym b.0) ∙ h.places in
        let whole : weight_of v columns s ≡ pos 0 = sym (inner-image v r columns s shape) ∙ ap (inner_product v) h.zero_image ∙ inner-zeros v r in
        let parts : weight_of v columns s ≡ weight_of v columns p +ℤ weight_of v columns (minus s p) =
        ap (weight_of v columns) (sym (plus-minus p s b)) ∙ weight-plus v columns p (minus s p) e rest in
        elim (inner-itself v) [
          | inl none ↦ absurd (unsolved (record { places = e; zero_image = none ∙ ap (λ n. replicate n (pos 0)) (length-image r columns p shape) }))
          | inr some ↦ less (weight_of v columns s) (weight_of v columns p) (weight_of v columns (minus s p)) whole parts
              (subst (λ z. pos 0 <ℤ z) (inner-image v r columns p shape) some)
        ]
      where
        less : (a b c : ℤ) → a ≡ pos 0 → a ≡ b +ℤ c → pos 0 <ℤ b → c <ℤ pos 0
        less a b c e f h = omega (arith, ints, e, f, h)

    -- a grown vector below an atom grows, and stays below
    step-below : (p s : List ℕ) → IsAtom r columns s → IsGrown r columns p → IsBelow p s → sum p < sum s →
        (q : List ℕ) × Grows p q × IsBelow q s
    step-below p s a g b less =
        let e = length-grown p g in
        let unsolved : IsSolution r columns p → ⊥ = λ h. omega (arith, less, ap sum (a.minimal p h (positive-nonzero p places (grown-positive p g)) b)) in
        let part = weight-negative (image_of r columns p) columns (minus s p) (missing-negative p s e a.solution b unsolved) in
        let q = plus p (unit places part.0) in
        let up : IsBelow q s = below-raised places p s part.0 e part.1 b (omega (arith, part.2, get_or-minus s p part.0 (sym b.0))) in (
          q,
          record {
            unsolved = unsolved;
            place = part.0;
            in_range = part.1;
            next = refl;
            back = part.3;
            free = λ t h n other c.
                let same : t ≡ s = a.minimal t h n (below-then t q s c up) in
                other (same ∙ sym (below-both q s up (subst (λ v. IsBelow v q) same c)));
          },
          up,
        )

    climb : (n : ℕ) (p s : List ℕ) → IsAtom r columns s → IsGrown r columns p → IsBelow p s → sum p + n ≡ sum s → IsGrown r columns s
    climb zero p s a g b e = subst (IsGrown r columns) (below-same p s b (omega (arith, e))) g
    climb (suc n) p s a g b e =
        let next = step-below p s a g b (omega (arith, e)) in
        climb n next.0 s a (grown-step p next.0 g next.1) next.2 (omega (arith, e, sum-step p next.0 (length-grown p g) next.1))

    pub atom-grown : (s : List ℕ) → IsAtom r columns s → IsGrown r columns s
    atom-grown s a = elim (zero_or_positive s) [
      | inl none ↦ absurd (a.nonzero (none ∙ ap (λ n. replicate n 0) a.solution.places))
      | inr some ↦
          let l : some.0 < places = omega (arith, inside s some.0 some.1, a.solution.places) in
          let u = unit places some.0 in
          climb (sum s - 1) u s a (grown-unit some.0 l) (unit-below places s some.0 a.solution.places l some.1)
          (omega (arith, sum-unit places some.0 l, nonzero-positive s places a.solution.places a.nonzero))
    ]
