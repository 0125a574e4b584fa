-- Of finitely many numbers below a bound, all different, there are no more than the bound; where there are as many, each is one.
use Rattle.std.proofs.Common.{◌≡◌, ◌≢◌, ℕ, zero, suc, ◌<◌, ◌≤◌, refl, sym, ◌∙◌, inl, inr, arith}
use Rattle.std.specs.Prelude.{◌⊎◌}
use Rattle.std.proofs.lemmas.Bool.{cases_lt, cases_eq}

-- a in the first case, and v in the second
abbrev chosen : {P Q : Type 0} → P ⊎ Q → ℕ → ℕ → ℕ
chosen (inl p) a v = a
chosen (inr q) a v = v

chosen-told : {P Q : Type 0} (c : P ⊎ Q) (a v : ℕ) → (P × (chosen c a v ≡ a)) ⊎ (Q × (chosen c a v ≡ v))
chosen-told (inl p) a v = inl (p, refl)
chosen-told (inr q) a v = inr (q, refl)

-- f, with f n in place of n
abbrev without : (ℕ → ℕ) → ℕ → ℕ → ℕ
without f n i = chosen (cases_eq (f i) n) (f n) (f i)

without-told : (f : ℕ → ℕ) (n i : ℕ) → ((f i ≡ n) × (without f n i ≡ f n)) ⊎ ((f i ≢ n) × (without f n i ≡ f i))
without-told f n i = chosen-told (cases_eq (f i) n) (f n) (f i)

-- f keeps to the numbers below n, and no two of them have one value
pub record IsShuffle (f : ℕ → ℕ) (n : ℕ) : Type 0 where
  pub low : (i : ℕ) → i < n → f i < n
  pub differs : (i j : ℕ) → i < n → j < n → f i ≡ f j → i ≡ j

without-shuffle : (f : ℕ → ℕ) (n : ℕ) → IsShuffle f (suc n) → IsShuffle (without f n) n
without-shuffle f n s = record {
  low = λ i l. elim (without-told f n i) [
    | inl w ↦
        let other : f n ≢ n = λ e. let same : i ≡ n = s.differs i n (omega arith) (omega arith) (w.0 ∙ sym e) in omega arith in
        omega (arith, s.low n (omega arith), w.1, other)
    | inr w ↦ omega (arith, s.low i (omega arith), w.0, w.1)
  ];
  differs = λ i j l m e. elim (without-told f n i) [
    | inl v ↦ elim (without-told f n j) [
      | inl w ↦ s.differs i j (omega arith) (omega arith) (v.0 ∙ sym w.0)
      | inr w ↦ let same : n ≡ j = s.differs n j (omega arith) (omega arith) (sym v.1 ∙ e ∙ w.1) in absurd (omega arith)
    ]
    | inr v ↦ elim (without-told f n j) [
      | inl w ↦ let same : i ≡ n = s.differs i n (omega arith) (omega arith) (sym v.1 ∙ e ∙ w.1) in absurd (omega arith)
      | inr w ↦ s.differs i j (omega arith) (omega arith) (sym v.1 ∙ e ∙ w.1)
    ]
  ];
}

-- such an f has each number below n as a value
pub shuffle-covers : (n : ℕ) (f : ℕ → ℕ) → IsShuffle f n → (j : ℕ) → j < n → (i : ℕ) × (i < n) × (f i ≡ j)
shuffle-covers zero f s j l = absurd (omega arith)
shuffle-covers (suc n) f s j l = elim (cases_eq (f n) j) [
  | inl e ↦ (n, omega arith, e)
  | inr other ↦ elim (cases_eq j n) [
    | inl top ↦
        let r = shuffle-covers n (without f n) (without-shuffle f n s) (f n) (omega (arith, s.low n (omega arith), other, top)) in
        elim (without-told f n r.0) [
          | inl w ↦ (r.0, omega (arith, r.1), w.0 ∙ sym top)
          | inr w ↦ let same : r.0 ≡ n = s.differs r.0 n (omega (arith, r.1)) (omega arith) (sym w.1 ∙ r.2) in absurd (omega (arith, r.1, same))
        ]
    | inr low ↦
        let r = shuffle-covers n (without f n) (without-shuffle f n s) j (omega arith) in
        elim (without-told f n r.0) [
          | inl w ↦ absurd (other (sym w.1 ∙ r.2))
          | inr w ↦ (r.0, omega (arith, r.1), sym w.1 ∙ r.2)
        ]
  ]
]

-- different numbers below a bound are no more than the bound
pub different-few : (n p : ℕ) (f : ℕ → ℕ) → ((i : ℕ) → i < n → f i < p) → ((i j : ℕ) → i < n → j < n → f i ≡ f j → i ≡ j) → n ≤ p
different-few n p f low differs = elim (cases_lt p n) [
  | inl more ↦
      let s : IsShuffle f (suc p) = record {
        low = λ i l. omega (arith, low i (omega arith));
        differs = λ i j l m e. differs i j (omega arith) (omega arith) e;
      } in
      let r = shuffle-covers (suc p) f s p (omega arith) in
      absurd (omega (arith, low r.0 (omega (arith, r.1, more)), r.2))
  | inr few ↦ few
]
