-- The greatest entry of an Apery list is the Frobenius number and the modulus together.
use Rattle.std.proofs.Common.{◌≡◌, ℕ, zero, suc, ◌+◌, ◌-◌, ◌*◌, ◌%◌, ◌<◌, ◌≤◌, List, length, get_or, sym, subst, ◌∙◌, inl, inr, arith}
use Rattle.std.proofs.Math.Nat.{mod-le}
use Rattle.std.specs.Prelude.{◌⊎◌, ℤ, pos, negsuc, ◌-ℤ◌, ◌<ℤ◌}
use Rattle.std.proofs.lemmas.Bool.{cases_lt}
use Rattle.std.proofs.lemmas.Int.{ints}
use Rattle.std.proofs.lemmas.Nat.{mod_below}
use Rattle.sg_defs.specs.Membership.{IsMember, IsIntegerMember}
use Rattle.sg_defs.specs.Invariants.{IsFrobenius}
use Rattle.sg_classes.proofs.AperyLemmas.{member-above, congruent-split}
use Rattle.sg_classes.proofs.GeneratorLemmas.{contains-place}
use Rattle.sg_classes.specs.Entries.{IsGreatest}
use Rattle.sg_classes.specs.Fit.{IsSpan}
use Rattle.sg_classes.specs.Table.{IsTable, IsMinimalTable}

-- the difference of two naturals is a natural or below 0
pub minus_cases : (g m : ℕ) → ((y : ℕ) × (y + m ≡ g) × (pos g -ℤ pos m ≡ pos y)) ⊎ ((y : ℕ) × (g + suc y ≡ m) × (pos g -ℤ pos m ≡ negsuc y))
minus_cases g m = elim (cases_lt g m) [
  | inl less ↦ inr (m - suc g, omega arith, omega (arith, ints))
  | inr more ↦ inl (g - m, omega arith, omega (arith, ints))
]

module _ (G t : List ℕ) (greatest : ℕ) (h : IsTable G t) (top : IsGreatest t greatest) where
  too_far : (n w k : ℕ) → w ≡ n + k * length t → n < w → w ≤ greatest → greatest < n + length t → ⊥
  too_far n w zero e less low high = omega arith
  too_far n w (suc k) e less low high = omega arith

  -- a natural that is greater than the greatest entry less the modulus is a member
  above : (n : ℕ) → greatest < n + length t → IsMember G n
  above n l =
      let i = n % length t in
      let inside : i < length t = mod_below n (length t) h.not_empty in
      elim (cases_lt n (get_or t i 0)) [
        | inl less ↦
            let s = congruent-split (length t) n (get_or t i 0) h.not_empty (sym (h.apery.residue i inside)) (omega arith) in
            absurd (too_far n (get_or t i 0) s.0 s.1 less (top.above i inside) l)
        | inr more ↦ member-above G (length t) (get_or t i 0) n h.not_empty h.modulus (h.apery.member i inside) (h.apery.residue i inside) more
      ]

  -- the entry of the last class is at least the modulus less 1
  high : length t ≤ greatest + 1
  high =
      let i = length t - 1 in
      let inside : i < length t = omega (arith, h.not_empty) in
      omega (arith, mod-le (get_or t i 0) (length t), h.apery.residue i inside, top.above i inside, h.not_empty)

  outside : IsIntegerMember G (pos greatest -ℤ pos (length t)) → ⊥
  outside q =
      let p = contains-place t greatest top.listed in
      elim (minus_cases greatest (length t)) [
        | inl s ↦ h.apery.least p.0 s.0 p.1 (s.1 ∙ sym p.2) (subst (IsIntegerMember G) s.2 q)
        | inr s ↦ subst (IsIntegerMember G) s.2 q
      ]

  over : (x : ℤ) → (pos greatest -ℤ pos (length t)) <ℤ x → IsIntegerMember G x
  over (pos n) l = above n (omega (arith, ints, l))
  over (negsuc n) l = absurd (omega (arith, ints, l, high))

  pub frobenius-from_greatest : IsFrobenius G (pos greatest -ℤ pos (length t))
  frobenius-from_greatest = record { outside = outside; above = over }

-- the greatest entry and the greatest generator together
pub span-from_greatest : (G t : List ℕ) (greatest last : ℕ) → IsMinimalTable G t → IsGreatest t greatest → last ≡ get_or G (length G - 1) 0 → IsSpan G (greatest + last)
span-from_greatest G t greatest last h top e = (
  pos greatest -ℤ pos (length t),
  frobenius-from_greatest G t greatest h.table top,
  omega (arith, ints, h.multiplicity, e),
)
