-- The least delta of a numerical semigroup: the differences of lengths of one element are closed under differences, hold
-- that of each generator and the first one, and are multiples of the greatest common divisor of these.
use Rattle.std.proofs.Common.{◌≡◌, ℕ, zero, suc, ◌+◌, ◌-◌, ◌*◌, ◌<◌, ◌≤◌, List, [], ◌∷◌, length, get_or, replicate, set, sum, refl, sym, ap, subst, ◌∙◌, inl, inr, arith}
use Rattle.std.specs.Prelude.{All, None, Some}
use Rattle.std.specs.Int.{◌∣◌, IsGcd}
use Rattle.std.proofs.lemmas.Bool.{cases_lt}
use Rattle.std.proofs.lemmas.List.{length-replicate, length-set}
use Rattle.std.proofs.lemmas.List.Elements.{All-head, All-tail, All-from_get_or}
use Rattle.std.proofs.lemmas.List.Sums.{sum_by-cons}
use Rattle.std.proofs.lemmas.Nat.Gcd.{dvd-zero, dvd_trans, dvd_antisymm, le_of_dvd}
use Rattle.std.proofs.Math.Nat.{dvd-sub, dvd-add, dvd-mul_left_of_dvd, one-dvd, eq-zero_of_zero-dvd}
use Rattle.sg_defs.specs.Vectors.{value_of, plus}
use Rattle.sg_defs.specs.Membership.{IsFactorization, IsNumericalSemigroup}
use Rattle.sg_defs.proofs.VectorLemmas.{length-plus, value_of-plus, value_of-zeros}
use Rattle.sg_nonunique.specs.Deltas.{IsDelta, IsMinDelta}
use Rattle.sg_nonunique.proofs.SumLemmas.{sum-plus, sum-zeros}
use Rattle.sg_laws_families.specs.Bounds.{IsDifferenceGcd}
use Rattle.sg_laws_families.proofs.GcdLemmas.{gcd-of_closed, divides-other}

-- ---- c at place j, and nothing else

spot : ℕ → ℕ → ℕ → List ℕ
spot k j c = set (replicate k 0) j c

length-spot : (k j c : ℕ) → length (spot k j c) ≡ k
unfolding spot
length-spot k j c = length-set (replicate k 0) j c ∙ length-replicate {A = ℕ} k 0

value_of-spot : (G : List ℕ) (j c : ℕ) → j < length G → value_of G (spot (length G) j c) ≡ c * get_or G j 0
unfolding spot
value_of-spot [] j c l = absurd (omega arith)
value_of-spot (a ∷ G) zero c l = omega (arith, value_of-zeros G (length G))
value_of-spot (a ∷ G) (suc j) c l = omega (arith, value_of-spot G j c (omega arith))

sum-spot : (k j c : ℕ) → j < k → sum (spot k j c) ≡ c
unfolding spot
sum-spot zero j c l = absurd (omega arith)
sum-spot (suc k) zero c l = omega (arith, sum_by-cons (λ n. n) c (replicate k 0), sum-zeros k)
sum-spot (suc k) (suc j) c l = omega (arith, sum_by-cons (λ n. n) 0 (spot k j c), sum-spot k j c (omega arith))

-- ---- differences of lengths

-- d is the difference of two lengths of one element
abbrev pub IsDifference : List ℕ → ℕ → Type 0
IsDifference G d = (n : ℕ) × (x y : List ℕ) × IsFactorization G n x × IsFactorization G n y × (sum x ≡ sum y + d)

difference-zero : (G : List ℕ) → IsDifference G 0
difference-zero G =
    let z = replicate (length G) 0 in
    let f : IsFactorization G 0 z = record { places = length-replicate (length G) 0; value = value_of-zeros G (length G) } in
    (0, z, z, f, f, omega arith)

-- crosswise sums
difference-closed : (G : List ℕ) (a b : ℕ) → b ≤ a → IsDifference G a → IsDifference G b → IsDifference G (a - b)
difference-closed G a b l p q =
    let f = p.3 in
    let g = p.4 in
    let f' = q.3 in
    let g' = q.4 in (
      p.0 + q.0,
      plus p.1 q.2,
      plus p.2 q.1,
      record { places = length-plus p.1 q.2 (f.places ∙ sym g'.places) ∙ f.places; value = omega (arith, value_of-plus G p.1 q.2 f.places g'.places, f.value, g'.value) },
      record { places = length-plus p.2 q.1 (g.places ∙ sym f'.places) ∙ g.places; value = omega (arith, value_of-plus G p.2 q.1 g.places f'.places, g.value, f'.value) },
      omega (arith, sum-plus p.1 q.2 (f.places ∙ sym g'.places), sum-plus p.2 q.1 (g.places ∙ sym f'.places), p.5, q.5, l),
    )

-- as often the first generator as the other one says, and the other way round
difference-first : (G : List ℕ) (j : ℕ) → j < length G → get_or G 0 0 ≤ get_or G j 0 → IsDifference G (get_or G j 0 - get_or G 0 0)
difference-first G j l more =
    let k = length G in
    let a = get_or G 0 0 in
    let b = get_or G j 0 in
    let first : 0 < length G = omega arith in (
      b * a,
      spot k 0 b,
      spot k j a,
      record { places = length-spot k 0 b; value = value_of-spot G 0 b first },
      record { places = length-spot k j a; value = omega (arith, value_of-spot G j a l) },
      omega (arith, sum-spot k 0 b first, sum-spot k j a l, more),
    )

-- the greatest common divisor of the first i differences
prefix-gcd : (G : List ℕ) → ((j : ℕ) → j < length G → get_or G 0 0 ≤ get_or G j 0) → (i : ℕ) → i ≤ length G →
    (g : ℕ) × IsDifference G g × ((j : ℕ) → j < i → g ∣ (get_or G j 0 - get_or G 0 0)) × ((d : ℕ) → ((j : ℕ) → j < i → d ∣ (get_or G j 0 - get_or G 0 0)) → d ∣ g)
prefix-gcd G more zero l = (0, difference-zero G, (λ j m. absurd (omega arith)), (λ d h. dvd-zero d))
prefix-gcd G more (suc i) l =
    let before = prefix-gcd G more i (omega arith) in
    let last = get_or G i 0 - get_or G 0 0 in
    let r = gcd-of_closed (IsDifference G) (difference-closed G) before.0 last before.1 (difference-first G i (omega arith) (more i (omega arith))) in (
      r.0,
      r.1,
      (λ j m. elim (cases_lt j i) [
        | inl less ↦ dvd_trans r.0 r.2.0 (before.2 j less)
        | inr at ↦ let e : i ≡ j = omega arith in subst (λ v. r.0 ∣ (get_or G v 0 - get_or G 0 0)) e r.2.1
      ]),
      (λ d h. r.2.2 d (before.3 d (λ j m. h j (omega arith))) (h i (omega arith))),
    )

-- the differences have a greatest common divisor
pub difference_gcd-exists : (G : List ℕ) → ((j : ℕ) → j < length G → get_or G 0 0 ≤ get_or G j 0) → (g : ℕ) × IsDifferenceGcd G g
difference_gcd-exists G more = let p = prefix-gcd G more (length G) (omega arith) in (p.0, record { divides = p.2; greatest = p.3 })

gcd-is_difference : (G : List ℕ) (g : ℕ) → ((j : ℕ) → j < length G → get_or G 0 0 ≤ get_or G j 0) → IsDifferenceGcd G g → IsDifference G g
gcd-is_difference G g more h =
    let p = prefix-gcd G more (length G) (omega arith) in
    let e : p.0 ≡ g = dvd_antisymm (h.greatest p.0 p.2) (p.3 g h.divides) in
    subst (IsDifference G) e p.1

-- a value is m times the length, and a multiple of g
value-split : (G z : List ℕ) (m g : ℕ) → length z ≡ length G → All (λ h. (m ≤ h) × (g ∣ (h - m))) G → (e : ℕ) × (value_of G z ≡ m * sum z + e) × (g ∣ e)
value-split [] [] m g l all = (0, omega arith, dvd-zero g)
value-split [] (c ∷ z) m g l all = absurd (omega arith)
value-split (h ∷ G) [] m g l all = absurd (omega arith)
value-split (h ∷ G) (c ∷ z) m g l all =
    let first = All-head (λ h. (m ≤ h) × (g ∣ (h - m))) h G all in
    let rest = value-split G z m g (omega arith) (All-tail (λ h. (m ≤ h) × (g ∣ (h - m))) h G all) in
    let e : h ≡ m + (h - m) = omega (arith, first.0) in
    let f : c * h ≡ c * m + c * (h - m) = omega (arith, ap (λ n. c * n) e) in
    let t : m * sum (c ∷ z) ≡ m * (c + sum z) = ap (λ n. m * n) (sum_by-cons (λ n. n) c z) in
    (c * (h - m) + rest.0, omega (arith, f, rest.1, t), dvd-add g (dvd-mul_left_of_dvd g first.1 c) rest.2)

module _ (G : List ℕ) (s : IsNumericalSemigroup G) (more : (j : ℕ) → j < length G → get_or G 0 0 ≤ get_or G j 0) (g : ℕ) (h : IsDifferenceGcd G g) where
  -- the divisor and the first generator have no common divisor above 1
  coprime : IsGcd g (get_or G 0 0) 1
  coprime = (
    one-dvd g,
    one-dvd (get_or G 0 0),
    λ d p q. small d p q (s.coprime d (All-from_get_or (λ x. d ∣ x) G 0 (λ i l.
        let e : get_or G 0 0 + (get_or G i 0 - get_or G 0 0) ≡ get_or G i 0 = omega (arith, more i l) in
        subst (λ n. d ∣ n) e (dvd-add d q (dvd_trans d p (h.divides i l)))))),
  )
    where
      small : (d : ℕ) → d ∣ g → d ∣ get_or G 0 0 → d ≤ 1 → d ∣ 1
      small zero p q l = absurd (omega (arith, eq-zero_of_zero-dvd q, s.positive 0 0 s.not_empty))
      small (suc zero) p q l = one-dvd 1
      small (suc (suc d)) p q l = absurd (omega arith)

  -- so it divides each difference of lengths
  differences-divided : (d : ℕ) → IsDifference G d → g ∣ d
  differences-divided d p =
      let m = get_or G 0 0 in
      let all : All (λ x. (m ≤ x) × (g ∣ (x - m))) G = All-from_get_or (λ x. (m ≤ x) × (g ∣ (x - m))) G 0 (λ i l. (more i l, h.divides i l)) in
      let a = value-split G p.1 m g p.3.places all in
      let b = value-split G p.2 m g p.4.places all in
      let f : m * sum p.1 ≡ m * (sum p.2 + d) = ap (λ n. m * n) p.5 in
      let e : b.0 - a.0 ≡ m * d = omega (arith, a.1, b.1, p.3.value, p.4.value, f) in
      divides-other g m d coprime (subst (λ n. g ∣ n) e (dvd-sub g b.2 a.2))

  delta-is_difference : (n d : ℕ) → IsDelta (IsFactorization G n) d → IsDifference G d
  delta-is_difference n d t = (n, t.is_upper.0, t.is_lower.0, t.is_upper.1, t.is_lower.1, t.is_upper.2 ∙ ap (λ l. l + d) (sym t.is_lower.2))

  pub min_delta-none : g ≡ 0 → IsMinDelta (IsFactorization G) None
  min_delta-none e = record {
    none = λ d t.
        let f : 0 ∣ d = subst (λ k. k ∣ d) e (differences-divided d (delta-is_difference t.0 d t.1)) in
        omega (arith, eq-zero_of_zero-dvd f, t.1.positive);
    some = tt;
    least = tt;
  }

  pub min_delta-some : 0 < g → IsMinDelta (IsFactorization G) (Some g)
  min_delta-some positive =
      let p = gcd-is_difference G g more h in
      let y = p.2 in record {
        none = tt;
        some = (
          p.0,
          record {
            positive = positive;
            lower = sum y;
            is_lower = (y, p.4, refl);
            is_upper = (p.1, p.3, p.5);
            none_between = λ k above under q.
                let d = k - sum y in
                let e : sum q.0 ≡ sum y + d = omega (arith, q.2, above) in
                omega (arith, le_of_dvd (let l : 0 < d = omega (arith, above) in l) (differences-divided d (p.0, q.0, y, q.1, p.4, e)), above, under);
          },
        );
        least = λ d t. le_of_dvd t.1.positive (differences-divided d (delta-is_difference t.0 d t.1));
      }
