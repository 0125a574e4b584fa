-- The least distance to the vectors before one.
use Rattle.std.proofs.Common.{◌≡◌, ℕ, ◌+◌, ◌<◌, ◌≤◌, ◌^◌, List, [], length, min, max, subst, inl, inr, ◌↔◌, arith}
use Rattle.std.specs.Prelude.{slice_index_or}
use Rattle.std.proofs.lemmas.Bool.{cases_lt}
use Rattle.sg_tame.specs.Nearest.{HavePositive, IsLeastFrom, IsNearRow, IsNearVector}
use Rattle.sg_tame.proofs.DistanceLemmas.{distance-within}

-- least is the least distance from the row at k to a row before n with a positive number at place i, and F where there is none
pub record IsLeastBefore (F : ℕ) (rows : List (List ℕ)) (k i n least : ℕ) : Type 0 where
  pub most : least ≤ F
  pub known : (N : ℕ) → N < F → (least ≤ N) ↔ ((l : ℕ) × (l < n) × IsNearVector (slice_index_or rows k []) (slice_index_or rows l []) i N)

pub before-none : (F : ℕ) (rows : List (List ℕ)) (k i : ℕ) → IsLeastBefore F rows k i 0 F
before-none F rows k i = record {
  most = omega arith;
  known = λ N less. ((λ h. absurd (omega (arith, h, less))), (λ r. absurd (omega (arith, r.1))));
}

-- one row more
pub before-more : (F : ℕ) (rows : List (List ℕ)) (k i n least d new : ℕ) → IsLeastBefore F rows k i n least →
    ((N : ℕ) → N < F → (d ≤ N) ↔ IsNearVector (slice_index_or rows k []) (slice_index_or rows n []) i N) → new ≡ min least d → IsLeastBefore F rows k i (n + 1) new
before-more F rows k i n least d new h here e = record {
  most = omega (arith, e, h.most);
  known = λ N less. (
    (λ low. elim (cases_lt N least) [
      | inr before ↦ let r = (h.known N less).0 before in (r.0, omega (arith, r.1), r.2)
      | inl above ↦ (n, omega arith, (here N less).0 (omega (arith, low, e, above)))
    ]),
    (λ r. elim (cases_lt r.0 n) [
      | inl before ↦ let low = (h.known N less).1 (r.0, before, r.2) in omega (arith, low, e)
      | inr last ↦
          let same : r.0 ≡ n = omega (arith, r.1, last) in
          let low = (here N less).1 (subst (λ l. IsNearVector (slice_index_or rows k []) (slice_index_or rows l []) i N) same r.2) in
          omega (arith, low, e)
    ]),
  );
}

-- some row is nearer than F
pub near-far : (F e : ℕ) (rows : List (List ℕ)) (k i : ℕ) → 2 ^ 63 ≤ F → HavePositive e rows i → k < length rows → IsNearRow rows k i F
near-far F e rows k i far h inside = (
  h.some.0,
  h.some.1,
  (
    h.some.2,
    distance-within (slice_index_or rows k []) (slice_index_or rows h.some.0 []) F (omega (arith, far, h.comparable.small k inside)) (omega (arith, far, h.comparable.small h.some.0 h.some.1)),
  ),
)

module _ (F : ℕ) (rows : List (List ℕ)) (k i n least enough : ℕ) (h : IsLeastBefore F rows k i n least) (inside : n ≤ length rows) (far : IsNearRow rows k i F) where
  -- where least is no more than N, some row is as near
  near-within : (N : ℕ) → least ≤ N → IsNearRow rows k i N
  near-within N low = elim (cases_lt N F) [
    | inl less ↦ let r = (h.known N less).0 low in (r.0, omega (arith, r.1, inside), r.2)
    | inr more ↦ (far.0, far.1, (far.2.0, omega (arith, far.2.1, more)))
  ]

  -- where it is no more than what is enough, no further row matters
  pub nearest-early : least ≤ enough → IsLeastFrom enough (IsNearRow rows k i) enough
  nearest-early low N = ((λ l. (l, near-within N (omega (arith, low, l)))), (λ s. s.0))

  -- all rows
  pub nearest-all : (r : ℕ) → length rows ≤ n → r ≡ max least enough → IsLeastFrom enough (IsNearRow rows k i) r
  nearest-all r all e N = (
    (λ l. (omega (arith, e, l), near-within N (omega (arith, e, l)))),
    (λ s. elim (cases_lt N F) [
      | inl less ↦ let low = (h.known N less).1 (s.1.0, omega (arith, s.1.1, all), s.1.2) in omega (arith, e, low, s.0)
      | inr more ↦ omega (arith, e, h.most, more, s.0)
    ]),
  )
