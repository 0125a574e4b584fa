-- Which numbers are looked at, and that they are all.
use Rattle.std.proofs.Common.{◌≡◌, ℕ, zero, suc, ◌+◌, ◌-◌, ◌<◌, ◌≤◌, List, length, get_or, ap, subst, inl, inr, refl, arith}
use Rattle.std.specs.Prelude.{ℤ, pos, negsuc, ◌+ℤ◌, ◌≤ℤ◌, All}
use Rattle.std.proofs.lemmas.Bool.{cases_lt}
use Rattle.std.proofs.lemmas.Int.{ints}
use Rattle.sg_defs.specs.Invariants.{IsFrobenius}
use Rattle.sg_defs.specs.Membership.{IsMinimal, IsNumericalSemigroup}
use Rattle.sg_defs.specs.Vectors.{value_of}
use Rattle.sg_defs.proofs.OneLemmas.{one-frobenius}
use Rattle.sg_defs.proofs.VectorLemmas.{value_of-zeros}
use Rattle.sg_classes.specs.Fit.{IsSpan}
use Rattle.sg_nonunique.proofs.PlaceLemmas.{inside}
use Rattle.sg_nonunique.proofs.SumLemmas.{zero_or_positive}
use Rattle.sg_omega.specs.Lengths.{IsInAperySet}
use Rattle.sg_omega.specs.Minimal.{IsMinimalAbove}
use Rattle.sg_omega.proofs.PrimalityLemmas.{last-greatest}
use Rattle.sg_tame.specs.Answers.{IsWithinLimit}
use Rattle.sg_tame.specs.Nearest.{AreNearBy, IsLeastFrom}
use Rattle.sg_tame.specs.Needed.{IsNeeded}
use Rattle.sg_tame.specs.Tame.{IsNear, IsTame}
use Rattle.sg_tame.specs.declared.limits.TheConstants.{TAME_LIMIT}
use Rattle.sg_tame.proofs.MinimalLemmas.{bound-from_near, near-from_bound}

-- the value of a vector that is minimal above a generator is looked at
pub needed-from_minimal : (G : List ℕ) → All (λ g. 1 ≤ g) G → (i : ℕ) (z : List ℕ) → i < length G → IsMinimalAbove G (get_or G i 0) z → IsNeeded G (value_of G z)
needed-from_minimal G positive i z l m = elim (zero_or_positive z) [
  | inl none ↦ absurd (omega (arith, m.value, ap (value_of G) none, value_of-zeros G (length z), positive i 0 l))
  | inr some ↦
      let j = some.0 in
      let k : j < length G = omega (arith, inside z j some.1, m.places) in
      let e : m.rest + get_or G i 0 ≡ value_of G z = omega (arith, m.value) in
      (i, l, (m.rest, e, m.member, (j, k, λ y q there. m.minimal j y some.1 q there)))
]

-- a number in the Apery set of g is at most g and the Frobenius number
apery-bound : (G : List ℕ) (f : ℤ) → IsFrobenius G f → (v g : ℕ) → IsInAperySet G v g → pos v ≤ℤ (f +ℤ pos g)
apery-bound G (pos a) h v g set = elim (cases_lt (a + g) v) [
  | inl far ↦ absurd (set (v - g) (omega arith) (h.above (pos (v - g)) (omega (arith, ints))))
  | inr near ↦ omega (arith, ints)
]
apery-bound G (negsuc zero) h v g set = elim (cases_lt v g) [
  | inl less ↦ omega (arith, ints)
  | inr more ↦ absurd (set (v - g) (omega arith) (h.above (pos (v - g)) (omega (arith, ints))))
]
apery-bound G (negsuc (suc k)) h v g set = absurd (h.above (negsuc 0) (omega (arith, ints)))

-- no number that is looked at reaches the greatest generator and the span
pub needed-below : (G : List ℕ) → IsNumericalSemigroup G → IsMinimal G → (s : ℕ) → IsSpan G s → (v : ℕ) → IsNeeded G v → v < get_or G (length G - 1) 0 + s
needed-below G semigroup minimal s span v n =
    let r = n.2 in
    let j = r.3 in
    let low = apery-bound G span.0 span.1 r.0 (get_or G j.0 0) j.2 in
    omega (
      arith,
      ints,
      low,
      r.1,
      last-greatest G minimal.ascending n.0 n.1,
      last-greatest G minimal.ascending j.0 j.1,
      semigroup.positive 0 0 semigroup.not_empty,
      span.2,
    )

-- a semigroup has one span
pub within-limit : (G : List ℕ) (s : ℕ) → IsWithinLimit G → IsSpan G s → get_or G (length G - 1) 0 + s ≤ TAME_LIMIT
within-limit G s h k =
    let e = one-frobenius G h.1.0 k.0 h.1.1 k.1 in
    let a = h.1.2 in
    let b = k.2 in
    let l = h.2 in
    omega (arith, ints, a, b, e, l)

-- the least number that bounds the cases of the minimal vectors of all numbers that are looked at
pub tame-from_least : (G : List ℕ) (end D : ℕ) → ((v : ℕ) → IsNeeded G v → v < end) → All (λ g. 1 ≤ g) G → IsLeastFrom 0 (λ N. (v : ℕ) → v < end → AreNearBy G v N) D → IsTame G D
tame-from_least G end D below positive h = record {
  bound = bound-from_near G D (λ i z l m. ((h D).0 (omega arith)).1 (value_of G z) (below (value_of G z) (needed-from_minimal G positive i z l m)) i l z m refl);
  least = λ N less bound.
      let low = (h N).1 (omega arith, λ v _ i l z m e. subst (λ n. IsNear G n i z N) e (near-from_bound G N bound i z l m)) in
      omega (arith, low, less);
}
