-- The number of gaps is the sum of the quotients of the Apery list.
use Rattle.std.proofs.Common.{◌≡◌, ℕ, zero, suc, ◌+◌, ◌*◌, ◌/◌, ◌%◌, ◌<◌, ◌≤◌, ◌↔◌, Bool, true, false, cond, List, [], ◌∷◌, ◌++◌, length, get_or, take, min, refl, sym, ap, subst, ◌∙◌, inl, inr, arith}
use Rattle.std.specs.Prelude.{nat_lt, count_by, sum_by, Contains, ◌⊎◌}
use Rattle.std.specs.List.Sorted.{IsStrictlyIncreasing}
use Rattle.std.proofs.lemmas.Bool.{cases_lt, lt-ltb, le-ltb}
use Rattle.std.proofs.lemmas.Nat.{mod_below, mod-mul-add}
use Rattle.std.proofs.lemmas.List.{length_push, get_or_append_left, get_or_push, get_or_default, append-nil, take_all}
use Rattle.std.proofs.lemmas.List.Elements.{Contains-append_left, Contains-push, Contains-push_cases}
use Rattle.std.proofs.lemmas.List.Sums.{sum_by-cons, sum_by_push, count_by_more_yes, count_by_more_no}
use Rattle.std.proofs.Math.Nat.{mod-add-div, mul-le-mul_left, mul-div-le, div-le_of_le-mul}
use Rattle.sg_defs.specs.Membership.{IsMember}
use Rattle.sg_defs.specs.Apery.{IsApery, IsAperyEntry}
use Rattle.sg_defs.specs.Invariants.{IsGap, IsGenus}
use Rattle.sg_apery.proofs.AperyLemmas.{apery-member, member-decided}

-- x and nothing, or x alone
abbrev listed_if : Bool → ℕ → List ℕ
listed_if true x = x ∷ []
listed_if false x = []

-- the numbers below N that lie below the entry of their class
abbrev gaps_below : List ℕ → ℕ → ℕ → List ℕ
gaps_below t n zero = []
gaps_below t n (suc N) = gaps_below t n N ++ listed_if (nat_lt N (get_or t (N % n) 0)) N

module _ (t : List ℕ) (n : ℕ) where
  gap_step : (N : ℕ) → ((N < get_or t (N % n) 0) × (gaps_below t n (suc N) ≡ gaps_below t n N ++ N ∷ []))
      ⊎ ((get_or t (N % n) 0 ≤ N) × (gaps_below t n (suc N) ≡ gaps_below t n N))
  gap_step N = elim (cases_lt N (get_or t (N % n) 0)) [
    | inl less ↦ inl (less, ap (λ b. gaps_below t n N ++ listed_if b N) (lt-ltb N (get_or t (N % n) 0) less))
    | inr more ↦ inr (more, ap (λ b. gaps_below t n N ++ listed_if b N) (le-ltb N (get_or t (N % n) 0) more) ∙ append-nil (gaps_below t n N))
  ]

  gap-below : (N x : ℕ) → Contains (gaps_below t n N) x → (x < N) × (x < get_or t (x % n) 0)
  gap-below zero x h = absurd (omega (arith, h.1))
  gap-below (suc N) x h = elim (gap_step N) [
    | inl gap ↦ elim (Contains-push_cases (gaps_below t n N) N x (subst (λ l. Contains l x) gap.1 h)) [
      | inl before ↦ let p = gap-below N x before in (omega (arith, p.0), p.1)
      | inr here ↦ (omega (arith, here), subst (λ y. y < get_or t (y % n) 0) here gap.0)
    ]
    | inr member ↦ let p = gap-below N x (subst (λ l. Contains l x) member.1 h) in (omega (arith, p.0), p.1)
  ]

  below-gap : (N x : ℕ) → x < N → x < get_or t (x % n) 0 → Contains (gaps_below t n N) x
  below-gap zero x l h = absurd (omega arith)
  below-gap (suc N) x l h = elim (gap_step N) [
    | inl gap ↦ subst (λ l. Contains l x) (sym gap.1) (elim (cases_lt x N) [
      | inl less ↦ Contains-append_left (gaps_below t n N) (N ∷ []) x (below-gap N x less h)
      | inr more ↦ let e : N ≡ x = omega arith in subst (Contains (gaps_below t n N ++ N ∷ [])) e (Contains-push (gaps_below t n N) N)
    ])
    | inr member ↦ subst (λ l. Contains l x) (sym member.1) (elim (cases_lt x N) [
      | inl less ↦ below-gap N x less h
      | inr more ↦ let e : N ≡ x = omega arith in absurd (omega (arith, h, member.0, ap (λ y. get_or t (y % n) 0) e, e))
    ])
  ]

  gaps-ascending : (N : ℕ) → IsStrictlyIncreasing (gaps_below t n N)
  gaps-ascending zero = λ k l. absurd (omega arith)
  gaps-ascending (suc N) = elim (gap_step N) [
    | inl gap ↦ subst IsStrictlyIncreasing (sym gap.1) (push N (gaps-ascending N) (λ x h. (gap-below N x h).0))
    | inr member ↦ subst IsStrictlyIncreasing (sym member.1) (gaps-ascending N)
  ]
    where
      push : (N : ℕ) → IsStrictlyIncreasing (gaps_below t n N) → ((x : ℕ) → Contains (gaps_below t n N) x → x < N) → IsStrictlyIncreasing (gaps_below t n N ++ N ∷ [])
      push N up below k l =
          let xs = gaps_below t n N in
          let len = length_push xs N in
          elim (cases_lt (k + 1) (length xs)) [
            | inl less ↦ omega (arith, up k less, get_or_append_left xs (N ∷ []) 0 k (omega arith), get_or_append_left xs (N ∷ []) 0 (k + 1) less)
            | inr more ↦
                let at_end : length xs ≡ k + 1 = omega (arith, len, l) in
                let a : get_or xs k 0 < N = below (get_or xs k 0) (k, omega arith, get_or_same xs k (omega arith)) in
                omega (arith, a, get_or_append_left xs (N ∷ []) 0 k (omega arith), get_or_push xs N 0 (k + 1) at_end)
          ]
        where
          get_or_same : (xs : List ℕ) (k : ℕ) → k < length xs → get_or xs k (get_or xs k 0) ≡ get_or xs k 0
          get_or_same xs k l = get_or_default xs k (get_or xs k 0) 0 l

  -- in block k the classes with a quotient above k have one gap each
  block : (k j : ℕ) → 0 < n → j ≤ n → length t ≡ n → ((i : ℕ) → i < n → get_or t i 0 % n ≡ i) →
      length (gaps_below t n (k * n + j)) ≡ length (gaps_below t n (k * n)) + count_by (λ w. nat_lt k (w / n)) (take j t)
  block k zero positive l len residue = ap (λ N. length (gaps_below t n N)) (let e : k * n + 0 ≡ k * n = omega arith in e) ∙ (let e : length (gaps_below t n (k * n)) ≡ length (gaps_below t n (k * n)) + 0 = omega arith in e)
  block k (suc j) positive l len residue =
      let before = block k j positive (omega arith) len residue in
      let N = k * n + j in
      let place : N % n ≡ j = mod-mul-add k n j (omega arith) in
      let w = get_or t j 0 in
      let whole : w % n + n * (w / n) ≡ w = mod-add-div w n in
      let at : w % n ≡ j = residue j (omega arith) in
      let next : k * n + suc j ≡ suc N = omega arith in
      let entry : get_or t (N % n) 0 ≡ w = ap (λ i. get_or t i 0) place in
      let grow = ap (λ M. length (gaps_below t n M)) next in
      elim (gap_step N) [
        | inl gap ↦
            let above : k < w / n = quotient_above k (w / n) j w (omega (arith, whole, at)) (omega (arith, gap.0, entry)) in
            omega (
              arith,
              grow,
              ap length gap.1,
              length_push (gaps_below t n N) N,
              before,
              count_by_more_yes (λ v. nat_lt k (v / n)) t j 0 (omega arith) (lt-ltb k (w / n) above),
              ap (λ i. count_by (λ v. nat_lt k (v / n)) (take i t)) (let e : suc j ≡ j + 1 = omega arith in e),
            )
        | inr member ↦
            let under : w / n ≤ k = quotient_under k (w / n) j w (omega (arith, whole, at)) (omega (arith, member.0, entry)) in
            omega (
              arith,
              grow,
              ap length member.1,
              before,
              count_by_more_no (λ v. nat_lt k (v / n)) t j 0 (omega arith) (le-ltb k (w / n) under),
              ap (λ i. count_by (λ v. nat_lt k (v / n)) (take i t)) (let e : suc j ≡ j + 1 = omega arith in e),
            )
      ]
    where
      quotient_above : (k q j w : ℕ) → j + n * q ≡ w → k * n + j < w → k < q
      quotient_above k q j w e h = elim (cases_lt k q) [
        | inl less ↦ less
        | inr more ↦ absurd (omega (arith, e, h, mul-le-mul_left n more))
      ]

      quotient_under : (k q j w : ℕ) → j + n * q ≡ w → w ≤ k * n + j → q ≤ k
      quotient_under k q j w e h = elim (cases_lt k q) [
        | inl less ↦ absurd (under k q j w e h less)
        | inr more ↦ more
      ]
        where
          under : (k q j w : ℕ) → j + n * q ≡ w → w ≤ k * n + j → k < q → ⊥
          under k q j w e h less = let l : suc k ≤ q = omega arith in omega (arith, e, h, mul-le-mul_left n l, positive)

-- the classes with a quotient above k, summed over all k below Q, are the quotients cut at Q
abbrev capped : ℕ → ℕ → List ℕ → ℕ
capped n Q t = sum_by (λ w. min (w / n) Q) t

capped-more : (n Q : ℕ) (t : List ℕ) → capped n (suc Q) t ≡ capped n Q t + count_by (λ w. nat_lt Q (w / n)) t
capped-more n Q [] = refl
capped-more n Q (w ∷ t) =
    let rest = capped-more n Q t in
    let a = sum_by-cons (λ w. min (w / n) (suc Q)) w t in
    let b = sum_by-cons (λ w. min (w / n) Q) w t in
    let c = sum_by-cons (λ w. cond (nat_lt Q (w / n)) 1 0) w t in
    elim (cases_lt Q (w / n)) [
      | inl less ↦ let d : ◌≡◌ {A = ℕ} (cond (nat_lt Q (w / n)) 1 0) 1 = ap (λ b. cond b 1 0) (lt-ltb Q (w / n) less) in omega (arith, a, b, c, d, rest)
      | inr more ↦ let d : ◌≡◌ {A = ℕ} (cond (nat_lt Q (w / n)) 1 0) 0 = ap (λ b. cond b 1 0) (le-ltb Q (w / n) more) in omega (arith, a, b, c, d, rest)
    ]

capped-none : (n : ℕ) (t : List ℕ) → capped n 0 t ≡ 0
capped-none n [] = refl
capped-none n (w ∷ t) = omega (arith, sum_by-cons (λ w. min (w / n) 0) w t, capped-none n t)

capped-all : (n Q : ℕ) (t : List ℕ) → ((i : ℕ) → i < length t → get_or t i 0 / n ≤ Q) → capped n Q t ≡ sum_by (λ w. w / n) t
capped-all n Q [] h = refl
capped-all n Q (w ∷ t) h =
    omega (arith, sum_by-cons (λ w. min (w / n) Q) w t, sum_by-cons (λ w. w / n) w t, h 0 (omega arith), capped-all n Q t (λ i l. h (suc i) (omega arith)))

-- the gaps below n Q are as many as the quotients cut at Q
gap_count : (t : List ℕ) (n Q : ℕ) → 0 < n → length t ≡ n → ((i : ℕ) → i < n → get_or t i 0 % n ≡ i) → length (gaps_below t n (Q * n)) ≡ capped n Q t
gap_count t n zero positive len residue = ap (λ N. length (gaps_below t n N)) (let e : 0 * n ≡ 0 = omega arith in e) ∙ sym (capped-none n t)
gap_count t n (suc Q) positive len residue =
    let e : suc Q * n ≡ Q * n + n = omega arith in
    let b = block t n Q n positive (omega arith) len residue in
    let whole = ap (count_by (λ w. nat_lt Q (w / n))) (take_all n t (omega arith)) in
    omega (arith, ap (λ N. length (gaps_below t n N)) e, b, whole, gap_count t n Q positive len residue, capped-more n Q t)

-- the number of gaps is the sum of the quotients
pub genus-from_apery : (G t : List ℕ) (n Q : ℕ) → 0 < n → IsMember G n → IsApery G n t → ((i : ℕ) → i < n → get_or t i 0 ≤ Q * n) → IsGenus G (sum_by (λ w. w / n) t)
genus-from_apery G t n Q positive modulus a bound = (
  gaps_below t n (Q * n),
  record { ascending = gaps-ascending t n (Q * n); exactly = exactly },
  gap_count t n Q positive a.entries a.residue ∙ capped-all n Q t quotients,
)
  where
    quotients : (i : ℕ) → i < length t → get_or t i 0 / n ≤ Q
    quotients i l = div-le_of_le-mul n (let h : get_or t i 0 ≤ n * Q = omega (arith, bound i (omega (arith, l, a.entries))) in h)

    exactly : (x : ℕ) → Contains (gaps_below t n (Q * n)) x ↔ IsGap G x
    exactly x = (
      (λ h q. let p = gap-below t n (Q * n) x h in omega (arith, p.1, (apery-member G n t positive modulus a x).0 q)),
      (λ h. elim (cases_lt x (get_or t (x % n) 0)) [
        | inl less ↦ below-gap t n (Q * n) x (omega (arith, less, bound (x % n) (mod_below x n positive))) less
        | inr more ↦ absurd (h ((apery-member G n t positive modulus a x).1 more))
      ]),
    )

-- the first n entries and the sum of their quotients, for entries up to a bound
pub record IsSumOfQuotients (G : List ℕ) (m bound n total : ℕ) : Type 0 where
  pub entries : List ℕ
  pub long : length entries ≡ n
  pub each : (k : ℕ) → k < n → IsAperyEntry G m k (get_or entries k 0)
  pub below : (k : ℕ) → k < n → get_or entries k 0 ≤ bound
  pub quotients : sum_by (λ w. w / m) entries ≡ total
  pub small : m * total ≤ n * bound

pub quotients-none : (G : List ℕ) (m bound : ℕ) → IsSumOfQuotients G m bound 0 0
quotients-none G m bound = record {
  entries = [];
  long = refl;
  each = λ k l. absurd (omega arith);
  below = λ k l. absurd (omega arith);
  quotients = refl;
  small = omega arith;
}

pub quotients-more : (G : List ℕ) (m bound n total w : ℕ) → IsSumOfQuotients G m bound n total → IsAperyEntry G m n w → w ≤ bound →
    IsSumOfQuotients G m bound (n + 1) (total + w / m)
quotients-more G m bound n total w h e l = record {
  entries = h.entries ++ w ∷ [];
  long = omega (arith, length_push h.entries w, h.long);
  each = λ k k_in. place (λ k v. IsAperyEntry G m k v) h.each e k k_in;
  below = λ k k_in. place (λ k v. v ≤ bound) h.below l k k_in;
  quotients = omega (arith, sum_by_push (λ w. w / m) h.entries w, h.quotients);
  small = omega (arith, h.small, mul-div-le w m, l);
}
  where
    place : (P : ℕ → ℕ → Type 0) → ((k : ℕ) → k < n → P k (get_or h.entries k 0)) → P n w → (k : ℕ) → k < n + 1 → P k (get_or (h.entries ++ w ∷ []) k 0)
    place P before here k k_in = elim (cases_lt k n) [
      | inl less ↦ subst (P k) (sym (get_or_append_left h.entries (w ∷ []) 0 k (omega (arith, less, h.long)))) (before k less)
      | inr more ↦
          let at : n ≡ k = omega arith in
          let value : w ≡ get_or (h.entries ++ w ∷ []) k 0 = sym (get_or_push h.entries w 0 k (h.long ∙ at)) in
          subst (P k) value (subst (λ i. P i w) at here)
    ]

-- a sum of quotients of at most m entries is within the bound
pub quotients-small : (G : List ℕ) (m bound n total : ℕ) → 0 < m → n ≤ m → IsSumOfQuotients G m bound n total → total ≤ bound
quotients-small G m bound n total positive l h = elim (cases_lt bound total) [
  | inl more ↦
      let above : suc bound ≤ total = omega arith in
      let wide : bound * n ≤ bound * m = mul-le-mul_left bound l in
      absurd (omega (arith, h.small, mul-le-mul_left m above, wide))
  | inr less ↦ less
]

-- all of them are the Apery list
all-entries : (G : List ℕ) (m bound total : ℕ) → IsSumOfQuotients G m bound m total → (t : List ℕ) × IsApery G m t × ((i : ℕ) → i < m → get_or t i 0 ≤ bound) × (sum_by (λ w. w / m) t ≡ total)
all-entries G m bound total h = (
  h.entries,
  record {
    entries = h.long;
    member = λ i l. (h.each i l).member;
    residue = λ i l. (h.each i l).residue;
    least = λ i y l e q. (h.each i l).least y e q;
  },
  h.below,
  h.quotients,
)

-- they give the genus
pub genus-from_quotients : (G : List ℕ) (m bound total : ℕ) → 0 < m → IsMember G m → IsSumOfQuotients G m bound m total → IsGenus G total
genus-from_quotients G m bound total positive modulus h =
    let t = all-entries G m bound total h in
    subst (IsGenus G) t.3 (genus-from_apery G t.0 m bound positive modulus t.1 (λ i l. omega (arith, t.2 i l, mul-le-mul_left bound positive)))

-- and they tell of each natural whether it is a member
pub decided-from_quotients : (G : List ℕ) (m bound total : ℕ) → 0 < m → IsMember G m → IsSumOfQuotients G m bound m total → (n : ℕ) → IsMember G n ⊎ IsGap G n
decided-from_quotients G m bound total positive modulus h =
    let t = all-entries G m bound total h in
    member-decided G m t.0 positive modulus t.1
