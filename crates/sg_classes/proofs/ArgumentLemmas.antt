-- The tests of given generators say what they should.
use Rattle.std.proofs.Common.{◌≡◌, ℕ, ◌+◌, ◌<◌, ◌≤◌, ◌↔◌, List, length, get_or, subst, inl, inr, arith}
use Rattle.std.specs.Prelude.{All}
use Rattle.std.specs.Int.{◌∣◌, IsGcd}
use Rattle.std.proofs.lemmas.Bool.{cases_lt}
use Rattle.std.proofs.lemmas.Nat.Gcd.{dvd_refl, dvd_trans, le_of_dvd}
use Rattle.sg_defs.specs.Membership.{IsNumericalSemigroup}
use Rattle.sg_classes.proofs.ResidueLemmas.{common_divisor-one}
use Rattle.sg_classes.specs.Entries.{IsDivisorOfAll}

-- one more entry in the greatest common divisor
pub divisor-more : (xs : List ℕ) (i g h d : ℕ) → IsGcd g (get_or xs i 0) h →
    ((d ∣ g) ↔ ((k : ℕ) → k < i → d ∣ get_or xs k 0)) → (d ∣ h) ↔ ((k : ℕ) → k < i + 1 → d ∣ get_or xs k 0)
divisor-more xs i g h d is before = (
  (λ p k l. elim (cases_lt k i) [
    | inl less ↦ before.0 (dvd_trans d p is.0) k less
    | inr more ↦ let e : i ≡ k = omega arith in subst (λ n. d ∣ get_or xs n 0) e (dvd_trans d p is.1)
  ]),
  (λ p. is.2 d (before.1 (λ k l. p k (omega arith))) (p i (omega arith))),
)

-- entries above 0 generate a numerical semigroup exactly where their greatest common divisor is 1
pub semigroup-from_divisor : (xs : List ℕ) (g : ℕ) → 0 < length xs → All (λ x. 1 ≤ x) xs → ((d : ℕ) → (d ∣ g) ↔ IsDivisorOfAll d xs) → (g ≡ 1) ↔ IsNumericalSemigroup xs
semigroup-from_divisor xs g long positive divisors = (
  (λ e. record {
    not_empty = long;
    positive = positive;
    coprime = λ d h. le_of_dvd (omega arith) (subst (λ n. d ∣ n) e ((divisors d).1 (λ k l. h k 0 l)));
  }),
  (λ s. common_divisor-one xs g s ((divisors g).0 (dvd_refl g))),
)
