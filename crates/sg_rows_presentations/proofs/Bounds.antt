-- The values of the canonical relations are the Betti elements, and nothing in a presentation, no catenary degree and no
-- delta is past the span.
use Rattle.std.proofs.Common.{◌≡◌, ℕ, suc, zero, ◌+◌, ◌-◌, ◌<◌, ◌≤◌, ◌^◌, List, length, get_or, map, sum, Option, Some, None, refl, sym, ap, subst, ◌∙◌, inl, inr, arith}
use Rattle.std.specs.Prelude.{All}
use Rattle.std.specs.Int.{◌∣◌}
use Rattle.std.proofs.Math.Nat.{eq-zero_of_zero-dvd}
use Rattle.std.proofs.lemmas.Bool.{cases_lt}
use Rattle.std.proofs.lemmas.List.Kept.{AllPairs-from_increasing}
use Rattle.std.proofs.lemmas.Nat.Gcd.{dvd-zero, le_of_dvd}
use Rattle.sg_defs.specs.Listings.{Lists}
use Rattle.sg_defs.specs.Membership.{IsFactorization, IsMinimal, IsNumericalSemigroup}
use Rattle.sg_defs.proofs.MinimalLemmas.{first-least}
use Rattle.sg_nonunique.specs.Catenary.{IsCatenary}
use Rattle.sg_nonunique.specs.Classes.{IsSameClass, HasTwoClasses}
use Rattle.sg_nonunique.specs.Deltas.{IsDelta, IsMaxDelta, IsMinDelta}
use Rattle.sg_nonunique.specs.Presentations.{Relation, IsCanonical, IsCanonicalRelation}
use Rattle.sg_classes.specs.Fit.{IsFit}
use Rattle.sg_apery.proofs.GeneratorLemmas.{place-contains}
use Rattle.sg_laws_finite.proofs.ElementLemmas.{all-from_contained, from-map}
use Rattle.sg_laws_finite.proofs.PartialLemmas.{place-below_sum}
use Rattle.sg_laws_families.proofs.ChainLemmas.{chained-from_classes}
use Rattle.sg_laws_families.specs.Bounds.{IsDifferenceGcd}
use Rattle.sg_laws_families.proofs.ClassLemmas.{class-here, class-start}
use Rattle.sg_laws_families.proofs.DifferenceLemmas.{difference_gcd-exists, min_delta-none, min_delta-some}
use Rattle.sg_laws_families.proofs.Families.{numbers-family}
use Rattle.sg_laws_families.proofs.GapLemmas.{deltas-bounded}
use Rattle.sg_factor.proofs.BoundLemmas.{value-at_least}
use Rattle.sg_betti.specs.Limits.{IsPresentable}
use Rattle.sg_degrees.specs.Values.{IsValueOf}
use Rattle.sg_degrees.proofs.BettiLemmas.{betti-within, values-betti}
use Rattle.sg_rows.specs.Made.{AreWithinBits, IsSound}
use Rattle.sg_rows_presentations.specs.Read.{sides}
use Rattle.sg_rows_presentations.specs.Rows.{AreBettiElements, made_of}
use Rattle.sg_rows_presentations.proofs.Reading.{two-cases}

-- the values of the canonical relations, ascending, list the Betti elements
pub listed-betti : (G : List ℕ) (P : List (Relation ℕ)) (ns : List ℕ) → IsNumericalSemigroup G → IsCanonical (◌<◌) (IsFactorization G) P → Lists (IsValueOf P) ns → AreBettiElements G ns
listed-betti G P ns s c l = record {
  ascending = l.ascending;
  exactly = λ n. ((λ h. (values-betti G s.positive P c n).0 ((l.exactly n).0 h)), (λ h. (l.exactly n).1 ((values-betti G s.positive P c n).1 h)));
}

module _ (G : List ℕ) (semigroup : IsNumericalSemigroup G) (minimal : IsMinimal G) (within : IsPresentable G) where
  betti-small : (n : ℕ) → HasTwoClasses (IsFactorization G n) → n < 2 ^ 63
  betti-small n h = let low = betti-within G n within.span semigroup.positive minimal.ascending within.is_span h in let short = within.short in omega (arith, low, short)

  pub elements-small : (ns : List ℕ) → AreBettiElements G ns → AreWithinBits ns
  elements-small ns h k inside = betti-small (get_or ns k 0) ((h.exactly _).0 (place-contains ns k inside))

  -- the entries of a factorization of a small number
  factors-small : (n : ℕ) (z : List ℕ) → n < 2 ^ 63 → IsFactorization G n z → AreWithinBits z
  factors-small n z small f k inside =
      let least = value-at_least G z 1 f.places (λ k l. semigroup.positive k 0 l) in
      let place = place-below_sum z k in
      omega (arith, least, place, f.value, small)

  relation-small : (r : Relation ℕ) → IsCanonicalRelation (IsFactorization G) r → All AreWithinBits (sides r)
  relation-small r c =
      let right = class-start (IsFactorization G r.value) r.right r.right c.right.member in
      let small = betti-small r.value (r.left, r.right, c.left.member, right, c.apart) in
      all-from_contained AreWithinBits (sides r) (λ z there. elim (two-cases r.left r.right z there) [
        | inl e ↦ subst AreWithinBits (sym e) (factors-small r.value r.left small c.left.member)
        | inr e ↦ subst AreWithinBits (sym e) (factors-small r.value r.right small right)
      ])

  pub sides-small : (P : List (Relation ℕ)) → IsCanonical (◌<◌) (IsFactorization G) P → All (All AreWithinBits) (map sides P)
  sides-small P c = all-from_contained (All AreWithinBits) (map sides P) (λ l there.
      let f = from-map sides P l there in
      subst (All AreWithinBits) (sym f.1) (relation-small f.0 (c.canonical f.0 f.2)))

  -- a factorization of an element with two classes is no longer than the span
  short-enough : (n : ℕ) (z : List ℕ) → HasTwoClasses (IsFactorization G n) → IsFactorization G n z → sum z ≤ within.span
  short-enough n z two f =
      let least = value-at_least G z 1 f.places (λ k l. semigroup.positive k 0 l) in
      let low = betti-within G n within.span semigroup.positive minimal.ascending within.is_span two in
      omega (arith, least, low, f.value)

  pub catenary-small : (c : ℕ) → IsCatenary (IsFactorization G) c → c < 2 ^ 63
  catenary-small c h =
      let chained = chained-from_classes (IsFactorization G) (λ n. n) (length G) (numbers-family G semigroup.positive) within.span
      (λ n x y p q apart. (x, class-here (IsFactorization G n) x p, short-enough n x (x, y, p, q, apart) p)) in
      let short = within.short in
      elim (cases_lt within.span c) [
        | inl less ↦ let n = h.least within.span less in absurd (n.1 (chained n.0))
        | inr more ↦ omega (arith, more, short)
      ]

  delta-small : (n d : ℕ) → IsDelta (IsFactorization G n) d → d < 2 ^ 63
  delta-small n d t =
      let low = deltas-bounded (IsFactorization G) (λ m. m) (length G) (numbers-family G semigroup.positive) within.span
      (λ m e two u. let upper = u.is_upper in omega (arith, short-enough m upper.0 two upper.1, upper.2)) n d t in
      let short = within.short in
      omega (arith, low, short)

  pub max_delta-sound : (r : Option ℕ) → IsMaxDelta (IsFactorization G) r → IsSound (made_of r)
  max_delta-sound None h = tt
  max_delta-sound (Some d) h = let s = h.some in delta-small s.0 d s.1

-- the least delta divides the difference of the first two generators
module _ (G : List ℕ) (semigroup : IsNumericalSemigroup G) (minimal : IsMinimal G) (fit : IsFit G) where
  gcd-small : (g : ℕ) → IsDifferenceGcd G (suc g) → suc g < 2 ^ 63
  gcd-small g h = elim (cases_lt 1 (length G)) [
    | inl more ↦
        let up : get_or G 0 0 < get_or G 1 0 = AllPairs-from_increasing G minimal.ascending 0 1 0 (omega arith) more in
        let below = fit.small 1 more in
        let divides = le_of_dvd (omega (arith, up)) (h.divides 1 more) in
        omega (arith, divides, below)
    | inr sole ↦
        let none : 0 ∣ suc g = h.greatest 0 (λ i l. let first : 0 ≡ i = omega (arith, sole, l) in let same : 0 ≡ get_or G 0 0 - get_or G 0 0 = omega arith in subst (λ k. 0 ∣ (get_or G k 0 - get_or G 0 0)) first (subst (λ n. 0 ∣ n) same (dvd-zero 0))) in
        absurd (omega (arith, eq-zero_of_zero-dvd none))
  ]

  pub least_delta-sound : (r : Option ℕ) → IsMinDelta (IsFactorization G) r → IsSound (made_of r)
  least_delta-sound None h = tt
  least_delta-sound (Some d) h = by (difference_gcd-exists G more).0 (difference_gcd-exists G more).1
    where
      more : (k : ℕ) → k < length G → get_or G 0 0 ≤ get_or G k 0
      more = first-least G minimal.ascending

      by : (g : ℕ) → IsDifferenceGcd G g → d < 2 ^ 63
      by zero k = absurd ((min_delta-none G semigroup more 0 k refl).none d h.some)
      by (suc g) k =
          let other = min_delta-some G semigroup more (suc g) k (omega arith) in
          let least = h.least (suc g) other.some in
          let small = gcd-small g k in
          omega (arith, least, small)
