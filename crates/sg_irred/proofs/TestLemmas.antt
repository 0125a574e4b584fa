-- What the genus and the Frobenius number tell of symmetry and irreducibility.
use Rattle.std.proofs.Common.{◌≡◌, ℕ, zero, suc, ◌+◌, ◌-◌, ◌*◌, ◌↔◌, List, length, get_or, sym, subst, inl, inr, arith}
use Rattle.std.specs.Prelude.{◌⊎◌, ℤ, pos, negsuc, ◌+ℤ◌, ◌-ℤ◌, ◌≤ℤ◌}
use Rattle.std.proofs.lemmas.Bool.{cases_eq}
use Rattle.std.proofs.lemmas.Int.{ints}
use Rattle.std.proofs.lemmas.List.Elements.{Contains-get_or}
use Rattle.sg_defs.specs.Membership.{IsMember, IsIntegerMember}
use Rattle.sg_defs.specs.Invariants.{IsFrobenius, IsConductor, IsGap, IsGenus}
use Rattle.sg_defs.specs.Symmetry.{ExactlyOne, IsSymmetric, IsPseudoSymmetric, IsIrreducible, IsReducible}
use Rattle.sg_irred.proofs.CountLemmas.{count-none, greatest-with}
use Rattle.sg_irred.proofs.MirrorLemmas.{pair_test, paired-gaps, pairs, twice-genus, symmetric-from_none, none-from_symmetric, pseudo_symmetric-from_one, one-from_pseudo_symmetric}
use Rattle.sg_defs.proofs.OneLemmas.{one-frobenius}
use Rattle.sg_defs.proofs.SymmetryLemmas.{symmetric-irreducible, pseudo_symmetric-irreducible}
use Rattle.sg_irred.proofs.IrreducibleLemmas.{parts, reducible}

-- where the Frobenius number is -1 there are no gaps, and the semigroup is symmetric
module _ (G : List ℕ) (h : IsFrobenius G (negsuc 0)) where
  all : (n : ℕ) → IsMember G n
  all n = h.above (pos n) (omega (arith, ints))

  no-gaps : (g : ℕ) → IsGenus G g → g ≡ 0
  no-gaps g genus = elim (cases_eq (length genus.0) 0) [
    | inl none ↦ omega (arith, none, genus.2)
    | inr some ↦ absurd ((genus.1.exactly (get_or genus.0 0 0)).0 (Contains-get_or genus.0 0 0 (omega arith)) (all (get_or genus.0 0 0)))
  ]

  mirrored : (x : ℤ) → ExactlyOne (IsIntegerMember G x) (IsIntegerMember G (negsuc 0 -ℤ x))
  mirrored (pos n) = record {
    one = inl (all n);
    apart = λ a b. subst (IsIntegerMember G) (let e : negsuc 0 -ℤ pos n ≡ negsuc n = omega (arith, ints) in e) b;
  }
  mirrored (negsuc a) = record { one = inr (h.above (negsuc 0 -ℤ negsuc a) (omega (arith, ints))); apart = λ p q. p }

  -- all naturals are a symmetric semigroup
  pub naturals-symmetric : IsSymmetric G
  naturals-symmetric = record { frobenius = negsuc 0; is_frobenius = h; mirrored = mirrored }

  -- -1 is odd
  not-pseudo_symmetric : IsPseudoSymmetric G → ⊥
  not-pseudo_symmetric s = odd s.half (one-frobenius G (s.half +ℤ s.half) (negsuc 0) s.is_frobenius h)
    where
      odd : (x : ℤ) → x +ℤ x ≡ negsuc 0 → ⊥
      odd (pos a) e = omega (arith, ints, e)
      odd (negsuc a) e = omega (arith, ints, e)

pub symmetric-told : (G : List ℕ) (f : ℤ) (g : ℕ) → IsFrobenius G f → negsuc 0 ≤ℤ f → ((n : ℕ) → IsMember G n ⊎ IsGap G n) → IsGenus G g → (pos (2 * g) ≡ f +ℤ pos 1) ↔ IsSymmetric G
symmetric-told G (pos F) g h low split genus =
    let t = twice-genus G F h split g genus in (
      (λ e. symmetric-from_none G F h split (omega (arith, ints, e, t))),
      (λ s. let z = none-from_symmetric G F h split s in omega (arith, ints, t, z)),
    )
symmetric-told G (negsuc zero) g h low split genus = ((λ e. naturals-symmetric G h), (λ s. omega (arith, ints, no-gaps G h g genus)))
symmetric-told G (negsuc (suc k)) g h low split genus = absurd (omega (arith, ints, low))

pub pseudo_symmetric-told : (G : List ℕ) (f : ℤ) (g : ℕ) → IsFrobenius G f → negsuc 0 ≤ℤ f → ((n : ℕ) → IsMember G n ⊎ IsGap G n) → IsGenus G g → (pos (2 * g) ≡ f +ℤ pos 2) ↔ IsPseudoSymmetric G
pseudo_symmetric-told G (pos F) g h low split genus =
    let t = twice-genus G F h split g genus in (
      (λ e. pseudo_symmetric-from_one G F h split (omega (arith, ints, e, t))),
      (λ s. let z = one-from_pseudo_symmetric G F h split s in omega (arith, ints, t, z)),
    )
pseudo_symmetric-told G (negsuc zero) g h low split genus = ((λ e. absurd (omega (arith, ints, e))), (λ s. absurd (not-pseudo_symmetric G h s)))
pseudo_symmetric-told G (negsuc (suc k)) g h low split genus = absurd (omega (arith, ints, low))

-- one of the two, or the genus is greater
irreducible-tells : (G : List ℕ) (f : ℤ) (g : ℕ) → IsFrobenius G f → negsuc 0 ≤ℤ f → ((n : ℕ) → IsMember G n ⊎ IsGap G n) → IsGenus G g → IsIrreducible G →
    (pos (2 * g) ≡ f +ℤ pos 1) ⊎ (pos (2 * g) ≡ f +ℤ pos 2)
irreducible-tells G (pos F) g h low split genus irreducible =
    let t = twice-genus G F h split g genus in
    elim (cases_eq (pairs G split F) 0) [
      | inl none ↦ inl (omega (arith, ints, t, none))
      | inr some ↦ elim (cases_eq (pairs G split F) 1) [
        | inl one ↦ inr (omega (arith, ints, t, one))
        | inr more ↦ absurd (reducible G F h split (omega arith) irreducible)
      ]
    ]
irreducible-tells G (negsuc zero) g h low split genus irreducible = inl (omega (arith, ints, no-gaps G h g genus))
irreducible-tells G (negsuc (suc k)) g h low split genus irreducible = absurd (omega (arith, ints, low))

pub irreducible-told : (G : List ℕ) (f : ℤ) (g : ℕ) → IsFrobenius G f → negsuc 0 ≤ℤ f → ((n : ℕ) → IsMember G n ⊎ IsGap G n) → IsGenus G g →
    ((pos (2 * g) ≡ f +ℤ pos 1) ⊎ (pos (2 * g) ≡ f +ℤ pos 2)) ↔ IsIrreducible G
irreducible-told G f g h low split genus = (
  (λ e. elim e [
    | inl symmetric ↦ symmetric-irreducible G ((symmetric-told G f g h low split genus).0 symmetric)
    | inr pseudo_symmetric ↦ pseudo_symmetric-irreducible G ((pseudo_symmetric-told G f g h low split genus).0 pseudo_symmetric)
  ]),
  irreducible-tells G f g h low split genus,
)

-- what is neither is the meet of two semigroups properly above
pub neither-reducible : (G : List ℕ) (f : ℤ) → IsFrobenius G f → negsuc 0 ≤ℤ f → ((n : ℕ) → IsMember G n ⊎ IsGap G n) → (IsSymmetric G → ⊥) → (IsPseudoSymmetric G → ⊥) → IsReducible G
neither-reducible G (pos F) h low split not nor = elim (cases_eq (pairs G split F) 0) [
  | inl none ↦ absurd (not (symmetric-from_none G F h split none))
  | inr some ↦ elim (cases_eq (pairs G split F) 1) [
    | inl one ↦ absurd (nor (pseudo_symmetric-from_one G F h split one))
    | inr more ↦ parts G F h split (omega arith)
  ]
]
neither-reducible G (negsuc zero) h low split not nor = absurd (not (naturals-symmetric G h))
neither-reducible G (negsuc (suc k)) h low split not nor = absurd (omega (arith, ints, low))

-- neither x nor f - x is a member
abbrev pub IsUnmirrored : List ℕ → ℤ → ℤ → Type 0
IsUnmirrored G f x = (IsIntegerMember G x → ⊥) × (IsIntegerMember G (f -ℤ x) → ⊥)

-- what is not symmetric has such an integer for its Frobenius number
pub unmirrored-exists : (G : List ℕ) (f : ℤ) → IsFrobenius G f → negsuc 0 ≤ℤ f → ((n : ℕ) → IsMember G n ⊎ IsGap G n) → (IsSymmetric G → ⊥) → (x : ℤ) × IsUnmirrored G f x
unmirrored-exists G (pos F) h low split not = elim (greatest-with (pair_test G split F) (suc F)) [
  | inl found ↦
      let g = paired-gaps G F h split found.0 found.2 in
      let e : pos (F - found.0) ≡ pos F -ℤ pos found.0 = let l = found.1 in omega (arith, ints, l) in
      (pos found.0, (g.0, λ m. g.1 (subst (IsIntegerMember G) (sym e) m)))
  | inr none ↦ absurd (not (symmetric-from_none G F h split (count-none (pair_test G split F) (suc F) none)))
]
unmirrored-exists G (negsuc zero) h low split not = absurd (not (naturals-symmetric G h))
unmirrored-exists G (negsuc (suc k)) h low split not = absurd (omega (arith, ints, low))

-- the same by the conductor c, where f is c less 1
module _ (G : List ℕ) (c g : ℕ) (h : IsConductor G c) (split : (n : ℕ) → IsMember G n ⊎ IsGap G n) (genus : IsGenus G g) where
  low : negsuc 0 ≤ℤ (pos c -ℤ pos 1)
  low = omega (arith, ints)

  -- symmetric: twice the genus is the conductor
  pub symmetric-by_conductor : (2 * g ≡ c) ↔ IsSymmetric G
  symmetric-by_conductor =
      let t = symmetric-told G (pos c -ℤ pos 1) g h low split genus in
      ((λ e. t.0 (omega (arith, ints, e))), (λ s. let e = t.1 s in omega (arith, ints, e)))

  -- pseudo-symmetric: twice the genus is the conductor and 1
  pub pseudo_symmetric-by_conductor : (2 * g ≡ c + 1) ↔ IsPseudoSymmetric G
  pseudo_symmetric-by_conductor =
      let t = pseudo_symmetric-told G (pos c -ℤ pos 1) g h low split genus in
      ((λ e. t.0 (omega (arith, ints, e))), (λ s. let e = t.1 s in omega (arith, ints, e)))

  -- irreducible: one of the two
  pub irreducible-by_conductor : ((2 * g ≡ c) ⊎ (2 * g ≡ c + 1)) ↔ IsIrreducible G
  irreducible-by_conductor =
      let t = irreducible-told G (pos c -ℤ pos 1) g h low split genus in (
        (λ e. elim e [ inl least ↦ t.0 (inl (omega (arith, ints, least))) | inr next ↦ t.0 (inr (omega (arith, ints, next))) ]),
        (λ i. elim (t.1 i) [ inl least ↦ inl (omega (arith, ints, least)) | inr next ↦ inr (omega (arith, ints, next)) ]),
      )
