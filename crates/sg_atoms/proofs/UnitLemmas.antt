-- The unit vectors, gathered one by one.
use Rattle.std.proofs.Common.{◌≡◌, ℕ, ◌+◌, ◌<◌, ◌≤◌, List, [], length, sym, subst, ◌∙◌, inl, inr, arith}
use Rattle.std.specs.Prelude.{◌⊎◌, ◌↔◌, Contains}
use Rattle.std.proofs.lemmas.Bool.{cases_lt}
use Rattle.sg_nonunique.specs.Counts.{Exceeds}
use Rattle.sg_nonunique.specs.Places.{unit}
use Rattle.sg_laws_finite.proofs.ElementLemmas.{contains-nil}
use Rattle.sg_atoms.specs.Growth.{Gathers, IsUnitBefore}
use Rattle.sg_atoms.specs.Sets.{AreDifferent, IsAdded}
use Rattle.sg_atoms.proofs.GrowthLemmas.{added-gathers, gathered-many, exceeds-wider}

module _ (places : ℕ) where
  pub units-none : (level : List (List ℕ)) → level ≡ [] → Gathers (IsUnitBefore places 0) [] level
  units-none level is q = (
    (λ c. inl (subst (λ l. Contains l q) is c)),
    (λ h. elim h as (λ _. Contains level q) [ inl was ↦ absurd (contains-nil q was) | inr u ↦ absurd (omega (arith, u.1)) ]),
  )

  -- one more
  pub units-more : (n : ℕ) (level new : List (List ℕ)) (v : List ℕ) → v ≡ unit places n → IsAdded level v new → Gathers (IsUnitBefore places n) [] level →
      Gathers (IsUnitBefore places (n + 1)) [] new
  units-more n level new v is added g q =
      let h = added-gathers (λ p. unit places n ≡ p) level new v added (sym is) (λ p e. sym e ∙ sym is) q in (
        (λ c. elim (h.0 c) [
          | inl was ↦ elim ((g q).0 was) [ inl first ↦ inl first | inr u ↦ inr (u.0, omega (arith, u.1), u.2) ]
          | inr now ↦ inr (n, omega arith, now)
        ]),
        (λ c. elim c [
          | inl first ↦ h.1 (inl ((g q).1 (inl first)))
          | inr u ↦ elim (cases_lt u.0 n) [
            | inl less ↦ h.1 (inl ((g q).1 (inr (u.0, less, u.2))))
            | inr more ↦ let e : u.0 ≡ n = omega (arith, more, u.1) in h.1 (inr (subst (λ m. unit places m ≡ q) e u.2))
          ]
        ]),
      )

  pub units-all : (n : ℕ) (level : List (List ℕ)) → n ≡ places → Gathers (IsUnitBefore places n) [] level → (q : List ℕ) → Contains level q ↔ IsUnitBefore places places q
  units-all n level e g q = (
    (λ c. elim ((g q).0 c) [ inl none ↦ absurd (contains-nil q none) | inr u ↦ subst (λ m. IsUnitBefore places m q) e u ]),
    (λ u. (g q).1 (inr (subst (λ m. IsUnitBefore places m q) (sym e) u))),
  )

  -- too many of the first ones are too many
  pub units-spent : (n room : ℕ) (level new : List (List ℕ)) (v : List ℕ) → n < places → v ≡ unit places n → IsAdded level v new →
      Gathers (IsUnitBefore places n) [] level → room + 1 ≤ length new → AreDifferent new → Exceeds (IsUnitBefore places places) room
  units-spent n room level new v inside is added g more different =
      exceeds-wider (λ q. Contains [] q ⊎ IsUnitBefore places (n + 1) q) (IsUnitBefore places places) room
      (λ q c. elim c [ inl none ↦ absurd (contains-nil q none) | inr u ↦ (u.0, omega (arith, u.1, inside), u.2) ])
      (gathered-many (IsUnitBefore places (n + 1)) [] new room (units-more n level new v is added g) different more)
