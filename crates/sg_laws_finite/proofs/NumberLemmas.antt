-- Decided properties of numbers: bounded search, ascending lists and least numbers.
use Rattle.std.proofs.Common.{◌≡◌, ℕ, zero, suc, ◌+◌, ◌<◌, ◌≤◌, List, [], ◌∷◌, ◌++◌, subst, inl, inr, arith}
use Rattle.std.specs.Prelude.{◌⊎◌, ◌↔◌, AllPairs, Contains}
use Rattle.std.specs.List.Sorted.{IsStrictlyIncreasing}
use Rattle.std.proofs.lemmas.Bool.{cases_lt}
use Rattle.std.proofs.lemmas.List.Elements.{Contains-append_left, Contains-append_cases, Contains-push}
use Rattle.sg_defs.specs.Listings.{Lists}
use Rattle.sg_defs.proofs.ListLemmas.{contains-cases}
use Rattle.sg_laws_finite.proofs.ElementLemmas.{contains-nil, pairs-nil, pairs-append}
use Rattle.sg_laws_finite.proofs.KeepLemmas.{keep, keep-pairs, keep-exactly}
use Rattle.sg_laws_finite.proofs.SearchLemmas.{some-in, each-in}

-- the numbers below b, ascending
pub below : ℕ → List ℕ
below zero = []
below (suc b) = below b ++ b ∷ []

pub below-exactly : (b n : ℕ) → Contains (below b) n ↔ (n < b)
unfolding below
below-exactly zero n = ((λ h. absurd (contains-nil n h)), (λ l. absurd (omega arith)))
below-exactly (suc b) n =
    let before = below-exactly b n in (
      (λ h. elim (Contains-append_cases (below b) (b ∷ []) n h) [
        | inl less ↦ let l = before.0 less in omega arith
        | inr last ↦ elim (contains-cases b [] n last) [ inl e ↦ omega (arith, e) | inr none ↦ absurd (contains-nil n none) ]
      ]),
      (λ l. elim (cases_lt n b) [
        | inl less ↦ Contains-append_left (below b) (b ∷ []) n (before.1 less)
        | inr more ↦ let e : b ≡ n = omega arith in subst (λ v. Contains (below b ++ b ∷ []) v) e (Contains-push (below b) b)
      ]),
    )

below-ascending : (b : ℕ) → AllPairs (λ x y. x < y) (below b)
unfolding below
below-ascending zero = pairs-nil (λ x y. x < y)
below-ascending (suc b) = pairs-append (λ x y. x < y) (below b) (b ∷ []) (below-ascending b) (λ i j d l m. absurd (omega arith))
    (λ x y h k. elim (contains-cases b [] y k) [ inl e ↦ omega (arith, e, (below-exactly b x).0 h) | inr none ↦ absurd (contains-nil y none) ])

increasing-from_pairs : (l : List ℕ) → AllPairs (λ x y. x < y) l → IsStrictlyIncreasing l
increasing-from_pairs l h k inside = h k (k + 1) 0 (omega arith) inside

module _ (P : ℕ → Type 0) (decide : (n : ℕ) → P n ⊎ ¬ P n) where
  -- some number below b has it, or none
  pub some-below : (b : ℕ) → ((n : ℕ) × (n < b) × P n) ⊎ ((n : ℕ) → n < b → P n → ⊥)
  some-below b = some-in (λ n. n < b) P decide (below b) (below-exactly b)

  -- all numbers below b have it, or some does not
  pub each-below : (b : ℕ) → ((n : ℕ) → n < b → P n) ⊎ ((n : ℕ) × (n < b) × ¬ P n)
  each-below b = each-in (λ n. n < b) P decide (below b) (below-exactly b)

  -- a bounded set of numbers has an ascending list
  pub numbers-listed : (b : ℕ) → ((n : ℕ) → P n → n < b) → (l : List ℕ) × Lists P l
  numbers-listed b bound = (
    keep P decide (below b),
    record {
      ascending = increasing-from_pairs (keep P decide (below b)) (keep-pairs P decide (λ x y. x < y) (below b) (below-ascending b));
      exactly = λ n.
          let k = keep-exactly P decide (λ m. m < b) (below b) (below-exactly b) n in
          ((λ h. (k.0 h).1), (λ p. k.1 (bound n p, p)));
    },
  )

  from_least : (k n : ℕ) → ((i : ℕ) → i < n → ¬ P i) → P (n + k) → (w : ℕ) × P w × ((i : ℕ) → P i → w ≤ i)
  from_least zero n before here = (n, subst P (let e : n + 0 ≡ n = omega arith in e) here, λ i p. elim (cases_lt i n) [ inl less ↦ absurd (before i less p) | inr more ↦ more ])
  from_least (suc k) n before here = elim (decide n) [
    | inl first ↦ (n, first, λ i p. elim (cases_lt i n) [ inl less ↦ absurd (before i less p) | inr more ↦ more ])
    | inr not ↦ from_least k (n + 1)
        (λ i l p. elim (cases_lt i n) [ inl less ↦ before i less p | inr last ↦ let e : i ≡ n = omega arith in not (subst P e p) ])
        (subst P (let e : n + suc k ≡ n + 1 + k = omega arith in e) here)
  ]

  -- the least number that has it, where some has
  pub least-number : (n : ℕ) → P n → (w : ℕ) × P w × ((i : ℕ) → P i → w ≤ i)
  least-number n here = from_least n 0 (λ i l. absurd (omega arith)) (subst P (let e : n ≡ 0 + n = omega arith in e) here)

  -- the greatest below b, where some has it below b
  pub greatest-below : (b : ℕ) → ((n : ℕ) × (n < b) × P n) → (w : ℕ) × (w < b) × P w × ((i : ℕ) → i < b → P i → i ≤ w)
  greatest-below zero h = absurd (omega (arith, h.1))
  greatest-below (suc b) h = elim (decide b) [
    | inl here ↦ (b, omega arith, here, λ i l p. omega arith)
    | inr not ↦
        let less : h.0 < b = elim (cases_lt h.0 b) [ inl l ↦ l | inr more ↦ let e : h.0 ≡ b = omega (arith, h.1) in absurd (not (subst P e h.2)) ] in
        let g = greatest-below b (h.0, less, h.2) in
        (g.0, omega (arith, g.1), g.2, λ i l p. elim (cases_lt i b) [ inl m ↦ g.3 i m p | inr more ↦ let e : i ≡ b = omega arith in absurd (not (subst P e p)) ])
  ]
