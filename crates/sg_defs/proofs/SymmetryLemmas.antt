-- Symmetric and pseudo-symmetric numerical semigroups are irreducible.
use Rattle.std.proofs.Common.{◌≡◌, ◌≢◌, ℕ, List, subst, inl, inr, arith}
use Rattle.std.specs.Prelude.{ℤ, pos, negsuc, ◌+ℤ◌, ◌-ℤ◌, ◌<ℤ◌, ◌≤ℤ◌, ◌⊎◌, ◌↔◌}
use Rattle.std.proofs.lemmas.Int.{ints, by_lt_z}
use Rattle.sg_defs.specs.Membership.{IsMember, IsIntegerMember}
use Rattle.sg_defs.specs.Symmetry.{IsSymmetric, IsPseudoSymmetric, IsProperlyAbove, IsIrreducible}
use Rattle.sg_defs.proofs.MembershipLemmas.{integer-add, integer-holds}

-- what is properly above a symmetric semigroup holds its Frobenius number
above-symmetric : (G H : List ℕ) (s : IsSymmetric G) → IsProperlyAbove G H → IsIntegerMember H s.frobenius
above-symmetric G H s a =
    let x = pos a.more.0 in
    elim ((s.mirrored x).one) [
      | inl member ↦ absurd (a.more.2 member)
      | inr other ↦
          let e : x +ℤ (s.frobenius -ℤ x) ≡ s.frobenius = omega (arith, ints) in
          subst (IsIntegerMember H) e (integer-add H x (s.frobenius -ℤ x) a.more.1 (integer-holds H G a.holds (s.frobenius -ℤ x) other))
    ]

-- what is in both is in their meet
both-members : (G H K : List ℕ) → ((n : ℕ) → IsMember G n ↔ (IsMember H n × IsMember K n)) → (x : ℤ) → IsIntegerMember H x → IsIntegerMember K x → IsIntegerMember G x
both-members G H K meet (pos n) p q = (meet n).1 (p, q)
both-members G H K meet (negsuc n) p q = p

-- a symmetric semigroup is irreducible
pub symmetric-irreducible : (G : List ℕ) → IsSymmetric G → IsIrreducible G
symmetric-irreducible G s H K a b meet =
    s.is_frobenius.outside (both-members G H K meet s.frobenius (above-symmetric G H s a) (above-symmetric G K s b))

-- the same of a pseudo-symmetric one: the half doubled is the Frobenius number too
above-pseudo_symmetric : (G H : List ℕ) (s : IsPseudoSymmetric G) → IsProperlyAbove G H → IsIntegerMember H (s.half +ℤ s.half)
above-pseudo_symmetric G H s a = elim (same_or_other (pos a.more.0) s.half) [
  | inl e ↦ let h : IsIntegerMember H s.half = subst (IsIntegerMember H) e a.more.1 in integer-add H s.half s.half h h
  | inr differs ↦
      let x = pos a.more.0 in
      elim ((s.mirrored x differs).one) [
        | inl member ↦ absurd (a.more.2 member)
        | inr other ↦
            let f = s.half +ℤ s.half in
            let e : x +ℤ (f -ℤ x) ≡ f = omega (arith, ints) in
            subst (IsIntegerMember H) e (integer-add H x (f -ℤ x) a.more.1 (integer-holds H G a.holds (f -ℤ x) other))
      ]
]
  where
    same_or_other : (x y : ℤ) → (x ≡ y) ⊎ (x ≢ y)
    same_or_other x y = by_lt_z x y
        (λ (l : x <ℤ y). inr (λ e. omega (arith, ints, l, e)))
        (λ (h : y ≤ℤ x). by_lt_z y x (λ (l : y <ℤ x). inr (λ e. omega (arith, ints, l, e))) (λ (k : x ≤ℤ y). inl (omega (arith, ints, h, k))))

-- so is a pseudo-symmetric one
pub pseudo_symmetric-irreducible : (G : List ℕ) → IsPseudoSymmetric G → IsIrreducible G
pseudo_symmetric-irreducible G s H K a b meet =
    s.is_frobenius.outside (both-members G H K meet (s.half +ℤ s.half) (above-pseudo_symmetric G H s a) (above-pseudo_symmetric G K s b))
