-- Below each vector above an element lies a minimal one, and below a minimal one only itself is above the element.
use Rattle.std.proofs.Common.{◌≡◌, ℕ, zero, suc, ◌+◌, ◌-◌, ◌<◌, ◌≤◌, List, length, get_or, sum, refl, sym, ap, subst, ◌∙◌, inl, inr, arith}
use Rattle.std.specs.Prelude.{◌⊎◌, ◌↔◌}
use Rattle.std.proofs.lemmas.Bool.{cases_lt, cases_eq}
use Rattle.sg_defs.specs.Membership.{IsMember}
use Rattle.sg_defs.specs.Vectors.{value_of, minus, IsBelow}
use Rattle.sg_defs.proofs.DecidedLemmas.{member-decided}
use Rattle.sg_defs.proofs.MembershipLemmas.{member-add}
use Rattle.sg_defs.proofs.VectorLemmas.{value_of-plus}
use Rattle.sg_nonunique.specs.Omega.{IsAbove, Serves, IsOmega}
use Rattle.sg_nonunique.specs.Places.{lower}
use Rattle.sg_nonunique.proofs.OrderLemmas.{below-both, below-here, below-then, plus-minus}
use Rattle.sg_nonunique.proofs.PlaceLemmas.{inside, length-lower, lower-same, lower-other, sum-lower, value_of-lower}
use Rattle.sg_nonunique.proofs.SumLemmas.{length-minus, sum_positive}
use Rattle.sg_laws_finite.proofs.NumberLemmas.{some-below}
use Rattle.sg_omega.specs.Minimal.{IsGreatestLength, IsMinimalAbove}

-- a generator at a positive place can be taken away from the member v
abbrev pub IsLowerable : List ℕ → ℕ → List ℕ → ℕ → Type 0
IsLowerable G v z j = (0 < get_or z j 0) × (get_or G j 0 ≤ v) × IsMember G (v - get_or G j 0)

module _ (G : List ℕ) (n : ℕ) where
  pub lowerable-decided : (v : ℕ) (z : List ℕ) (j : ℕ) → IsLowerable G v z j ⊎ ¬ IsLowerable G v z j
  lowerable-decided v z j = elim (cases_lt 0 (get_or z j 0)) [
    | inr none ↦ inr (λ h. omega (arith, h.0))
    | inl some ↦ elim (cases_lt v (get_or G j 0)) [
      | inl less ↦ inr (λ h. omega (arith, h.1))
      | inr more ↦ elim (member-decided G (v - get_or G j 0)) [
        | inl member ↦ inl (some, more, member)
        | inr gap ↦ inr (λ h. gap h.2)
      ]
    ]
  ]

  lower-below : (z : List ℕ) (j : ℕ) → 0 < get_or z j 0 → IsBelow (lower z j) z
  lower-below z j h = (
    length-lower z j,
    λ k. elim (cases_eq k j) [
      | inl e ↦ subst (λ m. get_or (lower z j) m 0 ≤ get_or z m 0) (sym e) (omega (arith, lower-same z j (inside z j h)))
      | inr other ↦ omega (arith, lower-other z j k other)
    ],
  )

  pub here-minimal : (z : List ℕ) (v : ℕ) → length z ≡ length G → IsMember G v → value_of G z ≡ n + v → ((j : ℕ) → j < length z → IsLowerable G v z j → ⊥) → IsMinimalAbove G n z
  here-minimal z v e member f none = record {
    places = e;
    rest = v;
    member = member;
    value = f;
    minimal = λ j y some g q. none j (inside z j some) (some, omega (arith, g), subst (IsMember G) (let t : y ≡ v - get_or G j 0 = omega (arith, g) in t) q);
  }

  -- below a vector above n lies a minimal one
  minimal-within : (fuel : ℕ) (z : List ℕ) (v : ℕ) → sum z ≤ fuel → length z ≡ length G → IsMember G v → value_of G z ≡ n + v → (y : List ℕ) × IsBelow y z × IsMinimalAbove G n y
  minimal-within zero z v l e member f = (z, below-here z, here-minimal z v e member f (λ j _ h. omega (arith, sum_positive z j h.0, l)))
  minimal-within (suc fuel) z v l e member f = elim (some-below (IsLowerable G v z) (lowerable-decided v z) (length z)) [
    | inr none ↦ (z, below-here z, here-minimal z v e member f none)
    | inl found ↦
        let j = found.0 in
        let h = found.2 in
        let g : value_of G (lower z j) ≡ n + (v - get_or G j 0) = omega (arith, value_of-lower G z j e h.0, f, h.1) in
        let r = minimal-within fuel (lower z j) (v - get_or G j 0) (omega (arith, sum-lower z j h.0, l)) (length-lower z j ∙ e) h.2 g in
        (r.0, below-then r.0 (lower z j) z r.1 (lower-below z j h.0), r.2)
  ]

  pub minimal-below : (z : List ℕ) → IsAbove G n z → (y : List ℕ) × IsBelow y z × IsMinimalAbove G n y
  minimal-below z h = minimal-within (sum z) z h.1.0 (omega arith) h.0 h.1.1 h.1.2

  pub minimal-above : (z : List ℕ) → IsMinimalAbove G n z → IsAbove G n z
  minimal-above z m = (m.places, (m.rest, m.member, m.value))

  -- two vectors of which the first lies below the second differ at a place, or are the same
  differs-at : (y z : List ℕ) → IsBelow y z → (y ≡ z) ⊎ ((j : ℕ) × (get_or y j 0 < get_or z j 0))
  differs-at y z b = elim (some-below (λ j. get_or y j 0 < get_or z j 0) (λ j. less-decided (get_or y j 0) (get_or z j 0)) (length z)) [
    | inl found ↦ inr (found.0, found.2)
    | inr none ↦ inl (below-both y z b (
      sym b.0,
      λ j. elim (cases_lt (get_or y j 0) (get_or z j 0)) [
        | inl less ↦ absurd (none j (inside z j (omega arith)) less)
        | inr more ↦ more
      ],
    ))
  ]
    where
      less-decided : (a b : ℕ) → (a < b) ⊎ ¬ (a < b)
      less-decided a b = elim (cases_lt a b) [ inl less ↦ inl less | inr more ↦ inr (λ h. omega arith) ]

  -- what is below lower z j adds a member to reach it
  rest-member : (y w : List ℕ) → IsBelow y w → length w ≡ length G → (r : ℕ) × IsMember G r × (value_of G w ≡ value_of G y + r)
  rest-member y w b e =
      let d = minus w y in
      let len : length d ≡ length G = length-minus w y (sym b.0) ∙ e in
      (value_of G d, (d, record { places = len; value = refl }), ap (value_of G) (sym (plus-minus y w b)) ∙ value_of-plus G y d (b.0 ∙ e) len)

  -- below a minimal vector only itself is above n
  pub only-itself : (y z : List ℕ) → IsMinimalAbove G n z → IsAbove G n y → IsBelow y z → y ≡ z
  only-itself y z m h b = elim (differs-at y z b) [
    | inl same ↦ same
    | inr at ↦
        let j = at.0 in
        let some : 0 < get_or z j 0 = omega (arith, at.1) in
        let w = lower z j in
        let under : IsBelow y w = (
          b.0 ∙ sym (length-lower z j),
          λ k. elim (cases_eq k j) [
            | inl e ↦ subst (λ i. get_or y i 0 ≤ get_or w i 0) (sym e) (omega (arith, at.1, lower-same z j (inside z j some)))
            | inr other ↦ omega (arith, b.1 k, lower-other z j k other)
          ],
        ) in
        let r = rest-member y w under (length-lower z j ∙ m.places) in
        let v = h.1.0 in
        let total : v + r.0 + get_or G j 0 ≡ m.rest = omega (arith, value_of-lower G z j m.places some, r.2, h.1.2, m.value) in
        absurd (m.minimal j (v + r.0) some total (member-add G v r.0 h.1.1 r.1))
  ]

  -- a number serves exactly where no minimal vector is longer
  pub serves-iff : (N : ℕ) → Serves G n N ↔ ((z : List ℕ) → IsMinimalAbove G n z → sum z ≤ N)
  serves-iff N = (
    (λ s z m.
        let y = s z (minimal-above z m) in
        subst (λ v. sum v ≤ N) (only-itself y.0 z m y.3 y.1) y.2),
    (λ h z a.
        let y = minimal-below z a in
        (y.0, y.1, h y.0 y.2, minimal-above y.0 y.2)),
  )

  pub omega-from_greatest : (N : ℕ) → IsGreatestLength G n N → IsOmega G n N
  omega-from_greatest N g = record {
    serves = (serves-iff N).1 g.bound;
    least = λ N' less s. let l = (serves-iff N').0 s g.reached.0 g.reached.1 in omega (arith, g.reached.2);
  }

  pub one-omega : (M N : ℕ) → IsOmega G n M → IsOmega G n N → M ≡ N
  one-omega M N a b = elim (cases_lt M N) [
    | inl less ↦ absurd (b.least M less a.serves)
    | inr more ↦ elim (cases_lt N M) [ inl less ↦ absurd (a.least N less b.serves) | inr same ↦ omega arith ]
  ]
