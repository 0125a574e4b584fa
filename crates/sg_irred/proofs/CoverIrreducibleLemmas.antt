-- The cover of a gap h is irreducible: h is its Frobenius number, and of x and h - x, unless x is half of h, exactly one
-- is a member.
use Rattle.std.proofs.Common.{◌≡◌, ℕ, zero, suc, ◌+◌, ◌-◌, List, refl, sym, subst, inl, inr, arith}
use Rattle.std.specs.Prelude.{◌⊎◌, ℤ, pos, negsuc, ◌+ℤ◌, ◌-ℤ◌, ◌<ℤ◌, ◌≤ℤ◌}
use Rattle.std.proofs.lemmas.Bool.{cases_lt}
use Rattle.std.proofs.lemmas.Int.{ints, by_lt_z}
use Rattle.sg_defs.specs.Membership.{IsIntegerMember, Generates}
use Rattle.sg_defs.specs.Invariants.{IsFrobenius, IsGap}
use Rattle.sg_defs.specs.Symmetry.{ExactlyOne, IsIrreducible}
use Rattle.sg_defs.specs.Decomposition.{IsInCover}
use Rattle.sg_defs.proofs.SymmetryLemmas.{symmetric-irreducible, pseudo_symmetric-irreducible}
use Rattle.sg_defs.proofs.MembershipLemmas.{integer-add}
use Rattle.sg_irred.proofs.CoverLemmas.{cover-from_new}
use Rattle.sg_irred.proofs.ChoiceLemmas.{own-cover}
use Rattle.sg_defs.proofs.DecidedLemmas.{member-decided}

-- even or odd
halved : (n : ℕ) → ((k : ℕ) × (n ≡ k + k)) ⊎ ((k : ℕ) × (n ≡ suc (k + k)))
halved zero = inl (0, refl)
halved (suc n) = elim (halved n) [
  | inl even ↦ let e = even.1 in inr (even.0, omega (arith, e))
  | inr odd ↦ let e = odd.1 in inl (odd.0 + 1, omega (arith, e))
]

-- an odd number is no integer twice
odd-no_half : (x : ℤ) (h k : ℕ) → h ≡ suc (k + k) → x +ℤ x ≡ pos h → ⊥
odd-no_half (pos a) h k e f = omega (arith, ints, e, f)
odd-no_half (negsuc a) h k e f = omega (arith, ints, e, f)

module _ (G : List ℕ) (h : ℕ) (M : List ℕ) (gap : IsGap G h) (g : Generates (IsInCover G (pos h)) M) where
  -- all above h are members
  above : (x : ℤ) → pos h <ℤ x → IsIntegerMember M x
  above (pos n) l = (g.same n).0 (inr (inl l))
  above (negsuc a) l = absurd (omega (arith, ints, l))

  -- h is the greatest that is none
  frobenius : IsFrobenius M (pos h)
  frobenius = record { outside = λ p. gap (own-cover G (pos h) h refl ((g.same h).1 p)); above = above }

  -- of a number past half of h
  one-past : (x : ℤ) → pos h <ℤ (x +ℤ x) → IsIntegerMember M x ⊎ IsIntegerMember M (pos h -ℤ x)
  one-past (negsuc a) l = absurd (omega (arith, ints, l))
  one-past (pos n) l = elim (cases_lt h n) [
    | inl past ↦ inl ((g.same n).0 (inr (inl (omega (arith, ints, past)))))
    | inr within ↦
        let e : pos (h - n) ≡ pos h -ℤ pos n = omega (arith, ints, within) in
        elim (member-decided G (h - n)) [
          | inl member ↦ inr (subst (IsIntegerMember M) e ((g.same (h - n)).0 (inl member)))
          | inr none ↦ inl ((g.same n).0 (cover-from_new G (pos h) n (record {
            past = omega (arith, ints, l);
            outside = λ q. none (subst (IsIntegerMember G) (sym e) q);
          })))
        ]
  ]

  -- of every number but the half
  one : (x : ℤ) → (x +ℤ x ≡ pos h → ⊥) → IsIntegerMember M x ⊎ IsIntegerMember M (pos h -ℤ x)
  one x differs = by_lt_z (pos h) (x +ℤ x) (λ (past : pos h <ℤ (x +ℤ x)). one-past x past)
      (λ (within : (x +ℤ x) ≤ℤ pos h). by_lt_z (x +ℤ x) (pos h) (λ (less : (x +ℤ x) <ℤ pos h). elim (one-past (pos h -ℤ x) (omega (arith, ints, less))) [
        | inl other ↦ inr other
        | inr same ↦ inl (subst (IsIntegerMember M) (let e : pos h -ℤ (pos h -ℤ x) ≡ x = omega (arith, ints) in e) same)
      ])
      (λ (more : pos h ≤ℤ (x +ℤ x)). absurd (differs (omega (arith, ints, within, more)))))

  -- and not both, since they add up to h
  exactly : (x : ℤ) → (x +ℤ x ≡ pos h → ⊥) → ExactlyOne (IsIntegerMember M x) (IsIntegerMember M (pos h -ℤ x))
  exactly x differs = record {
    one = one x differs;
    apart = λ p q. frobenius.outside (subst (IsIntegerMember M) (let e : x +ℤ (pos h -ℤ x) ≡ pos h = omega (arith, ints) in e) (integer-add M x (pos h -ℤ x) p q));
  }

  -- symmetric where h is odd, and pseudo-symmetric where it is even
  pub cover-irreducible : IsIrreducible M
  cover-irreducible = elim (halved h) [
    | inl even ↦
        let f = even.1 in
        let e : pos h ≡ pos even.0 +ℤ pos even.0 = omega (arith, ints, f) in
        pseudo_symmetric-irreducible M (record {
          half = pos even.0;
          is_frobenius = subst (IsFrobenius M) e frobenius;
          mirrored = λ x differs. subst (λ f. ExactlyOne (IsIntegerMember M x) (IsIntegerMember M (f -ℤ x))) e (exactly x (λ d. differs (omega (arith, ints, d, e))));
        })
    | inr odd ↦ symmetric-irreducible M (record { frobenius = pos h; is_frobenius = frobenius; mirrored = λ x. exactly x (odd-no_half x h odd.0 odd.1) })
  ]
