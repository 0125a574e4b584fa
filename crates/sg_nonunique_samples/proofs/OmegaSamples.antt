-- Omega primality of small numbers.
use Rattle.std.proofs.Common.{◌≡◌, ℕ, zero, suc, ◌+◌, ◌*◌, ◌<◌, ◌≤◌, List, [], ◌∷◌, get_or, sum, refl, sym, subst, inl, inr, arith}
use Rattle.std.specs.Prelude.{Contains}
use Rattle.std.proofs.lemmas.Bool.{cases_lt}
use Rattle.sg_defs.specs.Membership.{IsMember}
use Rattle.sg_defs.specs.Vectors.{IsBelow}
use Rattle.sg_defs.proofs.MembershipLemmas.{member-zero}
use Rattle.sg_nonunique.specs.Omega.{IsAbove, Serves, IsOmega, IsOmegaOfSemigroup}
use Rattle.sg_laws_finite.proofs.ElementLemmas.{here}
use Rattle.sg_nonunique_samples.proofs.KnownLists.{by_one, by_two, one-of}

below-2 : (a b c d : ℕ) → a ≤ c → b ≤ d → IsBelow (a ∷ b ∷ []) (c ∷ d ∷ [])
below-2 a b c d l m = (refl, at)
  where
    at : (k : ℕ) → get_or (a ∷ b ∷ []) k 0 ≤ get_or (c ∷ d ∷ []) k 0
    at zero = l
    at (suc zero) = m
    at (suc (suc k)) = omega arith

below-1 : (a c : ℕ) → a ≤ c → IsBelow (a ∷ []) (c ∷ [])
below-1 a c l = (refl, at)
  where
    at : (k : ℕ) → get_or (a ∷ []) k 0 ≤ get_or (c ∷ []) k 0
    at zero = l
    at (suc k) = omega arith

-- a member of <3, 5> is not 2, 4 or 7, so 5 and 10 lie above 3 by none
none : (c v : ℕ) → c < 3 → IsMember (3 ∷ 5 ∷ []) v → 5 * c ≡ 3 + v → ⊥
none c v l q e = let p = by_two 3 5 v q.0 q.1 in at c l e p.0 p.1 p.3
  where
    at : (c : ℕ) → c < 3 → 5 * c ≡ 3 + v → (a b : ℕ) → a * 3 + b * 5 ≡ v → ⊥
    at zero l e a b f = omega arith
    at (suc zero) l e a b f = omega arith
    at (suc (suc zero)) l e a b f = omega arith
    at (suc (suc (suc c))) l e a b f = omega arith

twelve : IsMember (3 ∷ 5 ∷ []) 12
twelve = (4 ∷ 0 ∷ [], record { places = refl; value = refl })

pub omega-three : IsOmega (3 ∷ 5 ∷ []) 3 3
omega-three = record { serves = serves; least = least }
  where
    pick : (a b v : ℕ) → IsMember (3 ∷ 5 ∷ []) v → a * 3 + b * 5 ≡ 3 + v → (y : List ℕ) × IsBelow y (a ∷ b ∷ []) × (sum y ≤ 3) × IsAbove (3 ∷ 5 ∷ []) 3 y
    pick (suc a) b v q e = (1 ∷ 0 ∷ [], below-2 1 0 (suc a) b (omega arith) (omega arith), omega arith, (refl, (0, member-zero (3 ∷ 5 ∷ []), refl)))
    pick zero b v q e = elim (cases_lt b 3) [
      | inl less ↦ absurd (none b v less q (omega arith))
      | inr more ↦ (0 ∷ 3 ∷ [], below-2 0 3 0 b (omega arith) more, omega arith, (refl, (12, twelve, refl)))
    ]

    serves : Serves (3 ∷ 5 ∷ []) 3 3
    serves z h =
        let p = by_two 3 5 (3 + h.1.0) z (record { places = h.0; value = h.1.2 }) in
        subst (λ x. (y : List ℕ) × IsBelow y x × (sum y ≤ 3) × IsAbove (3 ∷ 5 ∷ []) 3 y) (sym p.2) (pick p.0 p.1 h.1.0 h.1.1 p.3)

    least : (N : ℕ) → N < 3 → Serves (3 ∷ 5 ∷ []) 3 N → ⊥
    least N l s =
        let y = s (0 ∷ 3 ∷ []) (refl, (12, twelve, refl)) in
        let p = by_two 3 5 (3 + y.3.1.0) y.0 (record { places = y.3.0; value = y.3.1.2 }) in
        let first : p.0 ≤ 0 = subst (λ x. get_or x 0 0 ≤ 0) p.2 (y.1.1 0) in
        let short : sum (p.0 ∷ p.1 ∷ []) ≤ N = subst (λ x. sum x ≤ N) p.2 y.2 in
        none p.1 y.3.1.0 (omega (arith, short)) y.3.1.1 (omega (arith, p.3, first))

-- the zero vector serves 0
pub omega-zero : IsOmega (3 ∷ 5 ∷ []) 0 0
omega-zero = record { serves = serves; least = λ N l s. omega arith }
  where
    serves : Serves (3 ∷ 5 ∷ []) 0 0
    serves z h =
        let p = by_two 3 5 (0 + h.1.0) z (record { places = h.0; value = h.1.2 }) in
        (0 ∷ 0 ∷ [], subst (IsBelow (0 ∷ 0 ∷ [])) (sym p.2) (below-2 0 0 p.0 p.1 (omega arith) (omega arith)), omega arith, (refl, (0, member-zero (3 ∷ 5 ∷ []), refl)))

pub omega-one : IsOmega (1 ∷ []) 1 1
omega-one = record { serves = serves; least = least }
  where
    serves : Serves (1 ∷ []) 1 1
    serves z h =
        let p = by_one 1 (1 + h.1.0) z (record { places = h.0; value = h.1.2 }) in
        (1 ∷ [], subst (IsBelow (1 ∷ [])) (sym p.1) (below-1 1 p.0 (omega (arith, p.2))), omega arith, (refl, (0, member-zero (1 ∷ []), refl)))

    least : (N : ℕ) → N < 1 → Serves (1 ∷ []) 1 N → ⊥
    least N l s =
        let y = s (1 ∷ []) (refl, (0, member-zero (1 ∷ []), refl)) in
        let p = by_one 1 (1 + y.3.1.0) y.0 (record { places = y.3.0; value = y.3.1.2 }) in
        let short : sum (p.0 ∷ []) ≤ N = subst (λ x. sum x ≤ N) p.1 y.2 in
        omega (arith, p.2, short)

pub naturals : IsOmegaOfSemigroup (1 ∷ []) 1
naturals = record { reached = (1, here 1 [], omega-one); greatest = greatest }
  where
    greatest : (g w : ℕ) → Contains (1 ∷ []) g → IsOmega (1 ∷ []) g w → w ≤ 1
    greatest g w c h = elim (cases_lt 1 w) [
      | inr few ↦ few
      | inl many ↦ absurd (h.least 1 many (subst (λ n. Serves (1 ∷ []) n 1) (sym (one-of 1 g c)) omega-one.serves))
    ]
