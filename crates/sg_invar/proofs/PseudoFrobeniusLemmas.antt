-- A pseudo-Frobenius number is told by the generators, and is an entry of the Apery list less the multiplicity.
use Rattle.std.proofs.Common.{◌≡◌, ℕ, ◌%◌, ◌<◌, List, length, get_or, subst, inl, inr, refl, arith}
use Rattle.std.specs.Prelude.{ℤ, pos, negsuc, ◌+ℤ◌, ◌-ℤ◌, ◌<ℤ◌, ◌≤ℤ◌}
use Rattle.std.proofs.lemmas.Int.{ints, by_lt_z}
use Rattle.sg_defs.specs.Membership.{IsMember, IsIntegerMember, IsNumericalSemigroup}
use Rattle.sg_defs.specs.Apery.{IsAperyEntry}
use Rattle.sg_defs.specs.Invariants.{IsFrobenius, IsPseudoFrobenius}
use Rattle.sg_defs.proofs.MembershipLemmas.{member-add, member-entry}
use Rattle.sg_apery.proofs.GeneratorLemmas.{member-split}
use Rattle.sg_invar.proofs.EntryLemmas.{entry-from_outside}
use Rattle.sg_invar.specs.Maximal.{IsMaximalEntry}

-- a member and a member
pub integer_member-add : (G : List ℕ) (x : ℤ) (s : ℕ) → IsIntegerMember G x → IsMember G s → IsIntegerMember G (x +ℤ pos s)
integer_member-add G (pos a) s p q = member-add G a s p q
integer_member-add G (negsuc a) s p q = absurd p

-- where each generator moves x to a member, so does each member above 0
absorbed-from_generators : (G : List ℕ) (x : ℤ) → ((i : ℕ) → i < length G → IsIntegerMember G (x +ℤ pos (get_or G i 0))) →
    (s : ℕ) → 0 < s → IsMember G s → IsIntegerMember G (x +ℤ pos s)
absorbed-from_generators G x h s positive p = elim (member-split G s p) [
  | inl none ↦ absurd (omega arith)
  | inr q ↦
      let g = get_or G q.0 0 in
      let e : (x +ℤ pos g) +ℤ pos q.1 ≡ x +ℤ pos s = omega (arith, ints, q.4) in
      subst (IsIntegerMember G) e (integer_member-add G (x +ℤ pos g) q.1 (h q.0 q.2) q.3)
]

pub pseudo_frobenius-from_generators : (G : List ℕ) (x : ℤ) → (IsIntegerMember G x → ⊥) → ((i : ℕ) → i < length G → IsIntegerMember G (x +ℤ pos (get_or G i 0))) → IsPseudoFrobenius G x
pseudo_frobenius-from_generators G x outside h = record { outside = outside; absorbed = absorbed-from_generators G x h }

pub pseudo_frobenius-generators : (G : List ℕ) (x : ℤ) → IsNumericalSemigroup G → IsPseudoFrobenius G x → (i : ℕ) → i < length G → IsIntegerMember G (x +ℤ pos (get_or G i 0))
pseudo_frobenius-generators G x s p i l = p.absorbed (get_or G i 0) (omega (arith, s.positive i 0 l)) (member-entry G i l)

-- what is no member is at most the Frobenius number
pub outside-below : (G : List ℕ) (f x : ℤ) → IsFrobenius G f → (IsIntegerMember G x → ⊥) → x ≤ℤ f
outside-below G f x h outside = by_lt_z f x (λ less. absurd (outside (h.above x less))) (λ more. more)

-- a pseudo-Frobenius number and the modulus is an entry of the Apery list
pub maximal-entry : (G : List ℕ) (m w : ℕ) → 0 < m → IsMember G m → IsMaximalEntry G m w → IsAperyEntry G m (w % m) w
maximal-entry G m w positive modulus p =
    let e : (pos w -ℤ pos m) +ℤ pos m ≡ pos w = omega (arith, ints) in
    entry-from_outside G m w (subst (IsIntegerMember G) e (p.absorbed m positive modulus)) p.outside

-- below 0 there is at most the Frobenius number: the difference of the two would be a greater number, and a member
pub pseudo_frobenius-low : (G : List ℕ) (f x : ℤ) → IsFrobenius G f → negsuc 0 ≤ℤ f → IsPseudoFrobenius G x → negsuc 0 ≤ℤ x
pseudo_frobenius-low G f x h low p = by_lt_z x (negsuc 0) below (λ more. more)
  where
    below : x <ℤ negsuc 0 → negsuc 0 ≤ℤ x
    below less = gap (f -ℤ x) refl (let e : f <ℤ (f -ℤ x) = omega (arith, ints) in h.above (f -ℤ x) e)
      where
        gap : (y : ℤ) → y ≡ f -ℤ x → IsIntegerMember G y → negsuc 0 ≤ℤ x
        gap (negsuc a) e q = absurd q
        gap (pos a) e q =
            let back : x +ℤ pos a ≡ f = omega (arith, ints) in
            absurd (h.outside (subst (IsIntegerMember G) back (p.absorbed a (omega (arith, ints)) q)))
