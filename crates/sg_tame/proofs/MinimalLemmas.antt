-- A number bounds all cases where it bounds those of minimal vectors.
use Rattle.std.proofs.Common.{◌≡◌, ℕ, ◌+◌, ◌<◌, ◌≤◌, List, length, get_or, refl, sym, ap, subst, ◌∙◌, inl, inr, ◌↔◌, arith}
use Rattle.std.proofs.lemmas.Bool.{cases_lt}
use Rattle.sg_defs.specs.Membership.{IsFactorization}
use Rattle.sg_defs.specs.Vectors.{value_of, plus, minus, distance, IsBelow}
use Rattle.sg_defs.proofs.VectorLemmas.{length-plus, value_of-plus}
use Rattle.sg_nonunique.specs.Omega.{IsAbove}
use Rattle.sg_nonunique.proofs.OrderLemmas.{plus-minus}
use Rattle.sg_nonunique.proofs.SumLemmas.{get_or-plus, length-minus}
use Rattle.sg_omega.specs.Minimal.{IsMinimalAbove}
use Rattle.sg_omega.proofs.MinimalLemmas.{minimal-below}
use Rattle.sg_tame.specs.Tame.{IsNear, IsTame, IsTameBound}
use Rattle.sg_tame.proofs.DistanceLemmas.{distance-plus}

module _ (G : List ℕ) (N : ℕ) where
  -- a minimal vector is a case itself
  pub near-from_bound : IsTameBound G N → (i : ℕ) (z : List ℕ) → i < length G → IsMinimalAbove G (get_or G i 0) z → IsNear G (value_of G z) i z N
  near-from_bound h i z inside m =
      let e : m.rest + get_or G i 0 ≡ value_of G z = omega (arith, m.value) in
      h (value_of G z) i z inside (m.rest, e, m.member) (record { places = m.places; value = refl })

  -- what is near to y becomes near to z above y, once it gets what z has more
  near-lifted : (n i : ℕ) (y z : List ℕ) → IsBelow y z → IsFactorization G n z → IsNear G (value_of G y) i y N → IsNear G n i z N
  near-lifted n i y z b f near =
      let d = minus z y in
      let w = near.0 in
      let back : plus y d ≡ z = plus-minus y z b in
      let long : length d ≡ length G = length-minus z y (sym b.0) ∙ f.places in
      let as_y : length y ≡ length d = b.0 ∙ f.places ∙ sym long in
      let as_w : length w ≡ length d = near.1.places ∙ sym long in (
        plus w d,
        record {
          places = length-plus w d as_w ∙ near.1.places;
          value = value_of-plus G w d near.1.places long ∙ ap (λ k. k + value_of G d) near.1.value
              ∙ sym (value_of-plus G y d (b.0 ∙ f.places) long) ∙ ap (value_of G) back ∙ f.value;
        },
        omega (arith, near.2, get_or-plus w d i as_w),
        subst (λ v. distance v (plus w d) ≤ N) back (subst (λ k. k ≤ N) (sym (distance-plus y w d as_y as_w)) near.3),
      )

  pub bound-from_near : ((i : ℕ) (z : List ℕ) → i < length G → IsMinimalAbove G (get_or G i 0) z → IsNear G (value_of G z) i z N) → IsTameBound G N
  bound-from_near h n i z inside low f =
      let above : IsAbove G (get_or G i 0) z = (f.places, (low.0, low.2, omega (arith, low.1, f.value))) in
      let m = minimal-below G (get_or G i 0) z above in
      near-lifted n i m.0 z m.1 f (h i m.0 inside m.2)

  pub bound-iff : IsTameBound G N ↔ ((i : ℕ) (z : List ℕ) → i < length G → IsMinimalAbove G (get_or G i 0) z → IsNear G (value_of G z) i z N)
  bound-iff = (near-from_bound, bound-from_near)

pub one-tame : (G : List ℕ) (M N : ℕ) → IsTame G M → IsTame G N → M ≡ N
one-tame G M N a b = elim (cases_lt M N) [
  | inl less ↦ absurd (b.least M less a.bound)
  | inr more ↦ elim (cases_lt N M) [ inl less ↦ absurd (a.least N less b.bound) | inr same ↦ omega arith ]
]
