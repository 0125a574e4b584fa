-- Greatest common divisors and least common multiples of lists, entry by entry.
use Rattle.std.proofs.Common.{◌≡◌, ◌↔◌, ℕ, zero, suc, ◌+◌, ◌*◌, ◌%◌, ◌/◌, ◌<◌, ◌≤◌, ◌^◌, ℤ, pos, negsuc, List, [], ◌∷◌, length, get_or, drop, refl, sym, subst, arith}
use Rattle.std.specs.Prelude.{unsigned_abs, Contains}
use Rattle.std.specs.Int.{◌∣◌, IsGcd}
use Rattle.std.proofs.lemmas.List.{drop_more, drop_all}
use Rattle.std.proofs.lemmas.Nat.Gcd.{IsGcd-from_mod, IsGcd-from_zero, dvd_refl, dvd_trans, dvd_antisymm, le_of_dvd}
use Rattle.std.proofs.Math.Nat.{one-dvd, dvd-mul_right, dvd-mul_left, pos_of_dvd_of_pos, eq-zero_of_zero-dvd}
use Rattle.sg_nat.specs.Arithmetic.{IsLcm, LcmReaches}
use Rattle.sg_nat.proofs.LcmLemmas.{IsLcm-by_gcd, IsLcm-zero}
use Rattle.sg_rows_lists.specs.Integers.{EachOf, IsGcdOfAll, IsLcmOfAll}

-- the size of the entry at i
abbrev size_at : List ℤ → ℕ → ℕ
size_at zs i = unsigned_abs (get_or zs i (pos 0))

-- the greatest common divisor of a number, the entry at i and those after it
pub gcd_more : (zs : List ℤ) (i a k g : ℕ) → i < length zs → IsGcd a (size_at zs i) k → IsGcdOfAll (pos k ∷ drop (i + 1) zs) g → IsGcdOfAll (pos a ∷ drop i zs) g
gcd_more zs i a k g within is h = λ d. subst (λ ys. (d ∣ g) ↔ EachOf (pos a ∷ ys) (λ z. d ∣ unsigned_abs z)) (sym (drop_more zs i (pos 0) within)) (
  (λ p. let q = (h d).0 p in (dvd_trans d q.0 is.0, (dvd_trans d q.0 is.1, q.1))),
  (λ p. (h d).1 (is.2 d p.0 p.1.0, p.1.1)),
)

pub gcd_last : (zs : List ℤ) (i g : ℕ) → length zs ≤ i → IsGcdOfAll (pos g ∷ drop i zs) g
gcd_last zs i g past = λ d. subst (λ ys. (d ∣ g) ↔ EachOf (pos g ∷ ys) (λ z. d ∣ unsigned_abs z)) (sym (drop_all i zs past)) ((λ p. (p, tt)), (λ p. p.0))

-- the same of least common multiples
pub lcm_more : (zs : List ℤ) (i a k m : ℕ) → i < length zs → IsLcm a (size_at zs i) k → IsLcmOfAll (pos a ∷ drop i zs) m → IsLcmOfAll (pos k ∷ drop (i + 1) zs) m
lcm_more zs i a k m within is h =
    let g : IsLcmOfAll (pos a ∷ (get_or zs i (pos 0) ∷ drop (i + 1) zs)) m = subst (λ ys. IsLcmOfAll (pos a ∷ ys) m) (drop_more zs i (pos 0) within) h in
    λ n. (
      (λ p. let q = (g n).0 p in (is.least n q.0 q.1.0, q.1.1)),
      (λ p. (g n).1 (dvd_trans a is.left p.0, (dvd_trans (size_at zs i) is.right p.0, p.1))),
    )

pub lcm_first : (zs : List ℤ) (m : ℕ) → IsLcmOfAll zs m → IsLcmOfAll (pos 1 ∷ zs) m
lcm_first zs m h = λ n. ((λ p. (one-dvd n, (h n).0 p)), (λ p. (h n).1 p.1))

pub lcm_last : (zs : List ℤ) (i a m : ℕ) → length zs ≤ i → IsLcmOfAll (pos a ∷ drop i zs) m → a ≡ m
lcm_last zs i a m past h =
    let g : IsLcmOfAll (pos a ∷ []) m = subst (λ ys. IsLcmOfAll (pos a ∷ ys) m) (drop_all i zs past) h in
    dvd_antisymm ((g m).0 (dvd_refl m)).0 ((g a).1 (dvd_refl a, tt))

each_weaker : (P Q : ℤ → Type 0) → ((z : ℤ) → P z → Q z) → (zs : List ℤ) → EachOf zs P → EachOf zs Q
each_weaker P Q f [] h = tt
each_weaker P Q f (z ∷ zs) h = (f z h.0, each_weaker P Q f zs h.1)

each_at : (P : ℤ → Type 0) (zs : List ℤ) (i : ℕ) (d : ℤ) → EachOf zs P → i < length zs → P (get_or zs i d)
each_at P [] i d h within = absurd (omega arith)
each_at P (z ∷ zs) zero d h within = h.0
each_at P (z ∷ zs) (suc i) d h within = each_at P zs i d h.1 (omega arith)

-- integers other than 0 have a common multiple above 0
some_multiple : (zs : List ℤ) → (Contains zs (pos 0) → ⊥) → (n : ℕ) × (0 < n) × EachOf zs (λ z. unsigned_abs z ∣ n)
some_multiple [] others = (1, omega arith, tt)
some_multiple (z ∷ zs) others =
    let rest : (n : ℕ) × (0 < n) × EachOf zs (λ y. unsigned_abs y ∣ n) = some_multiple zs (λ c. others (suc c.0, omega (arith, c.1), c.2)) in
    let n = rest.0 in
    (unsigned_abs z * n, positive z (λ e. others (0, omega arith, e)) n rest.1, (dvd-mul_right (unsigned_abs z) n, each_weaker (λ y. unsigned_abs y ∣ n) (λ y. unsigned_abs y ∣ unsigned_abs z * n) (λ y h. dvd_trans (unsigned_abs y) h (dvd-mul_left n (unsigned_abs z))) zs rest.2))
  where
    positive : (y : ℤ) → (y ≡ pos 0 → ⊥) → (n : ℕ) → 0 < n → 0 < unsigned_abs y * n
    positive (pos zero) h n p = absurd (h refl)
    positive (pos (suc a)) h n p = grind arith
    positive (negsuc a) h n p = grind arith

-- where no entry is 0, the least common multiple is none of a number whose own is 2^64 or more
pub lcm_past : (zs : List ℤ) (i a m : ℕ) → i < length zs → (Contains zs (pos 0) → ⊥) → IsLcmOfAll zs m → IsLcmOfAll (pos a ∷ drop i zs) m → LcmReaches a (size_at zs i) (2 ^ 64) → m < 2 ^ 64 → ⊥
lcm_past zs i a m within others is h reaches small =
    let g : IsLcmOfAll (pos a ∷ (get_or zs i (pos 0) ∷ drop (i + 1) zs)) m = subst (λ ys. IsLcmOfAll (pos a ∷ ys) m) (drop_more zs i (pos 0) within) h in
    let parts = (g m).0 (dvd_refl m) in
    let some = some_multiple zs others in
    let positive : 0 < m = pos_of_dvd_of_pos ((is some.0).1 some.2) some.1 in
    let far : reaches.0 ≤ m = le_of_dvd positive (reaches.1.least m parts.0 parts.1.0) in
    let from : 2 ^ 64 ≤ reaches.0 = reaches.2 in
    omega (arith, far, from, small)

-- where an entry is 0, it is 0
pub lcm_zero : (zs : List ℤ) (m : ℕ) → Contains zs (pos 0) → IsLcmOfAll zs m → 0 ≡ m
lcm_zero zs m c is =
    let at : unsigned_abs (get_or zs c.0 (pos 0)) ∣ m = each_at (λ z. unsigned_abs z ∣ m) zs c.0 (pos 0) ((is m).0 (dvd_refl m)) c.1 in
    sym (eq-zero_of_zero-dvd (subst (λ z. unsigned_abs z ∣ m) c.2 at))

some_gcd : (steps a b : ℕ) → b ≤ steps → (g : ℕ) × IsGcd a b g
some_gcd steps a zero enough = (a, IsGcd-from_zero a 0 refl)
some_gcd zero a (suc b) enough = absurd (omega arith)
some_gcd (suc steps) a (suc b) enough =
    let rest : (g : ℕ) × IsGcd (suc b) (a % suc b) g = some_gcd steps (suc b) (a % suc b) (omega arith) in
    (rest.0, IsGcd-from_mod a (suc b) rest.0 rest.1)

some_lcm : (a b : ℕ) → (m : ℕ) × IsLcm a b m
some_lcm zero b = (0, IsLcm-zero 0 b refl)
some_lcm (suc a) b = let g : (g : ℕ) × IsGcd (suc a) b g = some_gcd b (suc a) b (omega arith) in (suc a / g.0 * b, IsLcm-by_gcd (suc a) b g.0 (omega arith) g.1)

-- there is one
pub lcm_exists : (zs : List ℤ) → (m : ℕ) × IsLcmOfAll zs m
lcm_exists [] = (1, λ n. ((λ p. tt), (λ p. one-dvd n)))
lcm_exists (z ∷ zs) =
    let rest : (m : ℕ) × IsLcmOfAll zs m = lcm_exists zs in
    let found : (m : ℕ) × IsLcm (unsigned_abs z) rest.0 m = some_lcm (unsigned_abs z) rest.0 in (
      found.0,
      λ n. (
        (λ p. (dvd_trans (unsigned_abs z) found.1.left p, (rest.1 n).0 (dvd_trans rest.0 found.1.right p))),
        (λ p. found.1.least n p.0 ((rest.1 n).1 p.1)),
      ),
    )

-- there is one alone
pub same_gcd : (zs : List ℤ) (g h : ℕ) → IsGcdOfAll zs g → IsGcdOfAll zs h → g ≡ h
same_gcd zs g h p q = dvd_antisymm ((q g).1 ((p g).0 (dvd_refl g))) ((p h).1 ((q h).0 (dvd_refl h)))

pub same_lcm : (zs : List ℤ) (m n : ℕ) → IsLcmOfAll zs m → IsLcmOfAll zs n → m ≡ n
same_lcm zs m n p q = dvd_antisymm ((p n).1 ((q n).0 (dvd_refl n))) ((q m).1 ((p m).0 (dvd_refl m)))
