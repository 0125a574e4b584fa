-- The elements with two classes of a numerical semigroup lie below a bound, so that they are listed, and the canonical
-- relations as well.
use Rattle.std.proofs.Common.{ℕ, ◌+◌, ◌-◌, ◌<◌, ◌≤◌, List, length, get_or, sum, inl, inr, arith}
use Rattle.std.specs.Prelude.{All}
use Rattle.std.proofs.lemmas.Bool.{cases_lt}
use Rattle.std.proofs.lemmas.List.Kept.{AllPairs-from_increasing}
use Rattle.sg_defs.specs.Listings.{Lists}
use Rattle.sg_defs.specs.Membership.{IsFactorization, IsMember}
use Rattle.sg_nonunique.specs.Classes.{HasTwoClasses}
use Rattle.sg_nonunique.specs.Presentations.{Relation, IsCanonical}
use Rattle.sg_laws_finite.specs.Listing.{all_factorizations}
use Rattle.sg_laws_finite.proofs.FactorizationLemmas.{factorizations-listed}
use Rattle.sg_laws_finite.proofs.NumberLemmas.{numbers-listed}
use Rattle.sg_laws_finite.proofs.PartialLemmas.{place-below_sum}
use Rattle.sg_laws_finite.proofs.SetLemmas.{two_classes-decided}
use Rattle.sg_laws_families.proofs.BettiLemmas.{betti-candidate}
use Rattle.sg_laws_families.proofs.CanonicalExists.{canonical-exists}
use Rattle.sg_laws_families.proofs.Families.{numbers-family}

-- whose numbers are all members from c on
module _ (G : List ℕ) (positive : All (λ g. 1 ≤ g) G) (c : ℕ) (all : (n : ℕ) → c ≤ n → IsMember G n) where
  pub betti-bounded : (n : ℕ) → HasTwoClasses (IsFactorization G n) → n < c + get_or G 0 0 + sum G
  betti-bounded n h =
      let b = betti-candidate G positive n h in
      let w = b.rest in
      elim (cases_lt w (c + get_or G 0 0)) [
        | inl less ↦ omega (arith, b.sum, place-below_sum G b.place, less)
        | inr more ↦ absurd (b.entry.least (w - get_or G 0 0) (omega arith) (all (w - get_or G 0 0) (omega arith)))
      ]

  pub betti_elements-exist : (l : List ℕ) × Lists (λ n. HasTwoClasses (IsFactorization G n)) l
  betti_elements-exist =
      numbers-listed (λ n. HasTwoClasses (IsFactorization G n))
      (λ n. two_classes-decided (IsFactorization G n) (all_factorizations G n) (factorizations-listed G n positive))
      (c + get_or G 0 0 + sum G) betti-bounded

  pub canonical_relations-exist : (P : List (Relation ℕ)) × IsCanonical (◌<◌) (IsFactorization G) P
  canonical_relations-exist =
      let l = betti_elements-exist in
      canonical-exists (IsFactorization G) (λ n. n) (length G) (numbers-family G positive) (◌<◌) l.0 (AllPairs-from_increasing l.0 l.1.ascending)
      (λ n h. (l.1.exactly n).1 h)
