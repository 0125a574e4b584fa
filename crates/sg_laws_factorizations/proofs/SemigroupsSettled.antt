-- Of all factorizations of a numerical semigroup.
use Rattle.std.proofs.Common.{ℕ, zero, suc, ◌-◌, ◌/◌, ◌<◌, List, length, get_or, refl, arith}
use Rattle.std.specs.Prelude.{⊤, Option, None, Some}
use Rattle.sg_defs.specs.Listings.{Lists}
use Rattle.sg_defs.specs.Membership.{IsFactorization, IsMinimal, IsNumericalSemigroup}
use Rattle.sg_defs.proofs.MinimalLemmas.{first-least}
use Rattle.sg_nonunique.specs.Catenary.{IsCatenary}
use Rattle.sg_nonunique.specs.Classes.{HasTwoClasses}
use Rattle.sg_nonunique.specs.Deltas.{IsMaxDelta, IsMinDelta}
use Rattle.sg_nonunique.specs.Elasticity.{IsElasticity}
use Rattle.sg_nonunique.specs.Omega.{IsOmega, IsOmegaOfSemigroup}
use Rattle.sg_nonunique.specs.Presentations.{IsCanonical, Relation}
use Rattle.sg_laws_invariants.proofs.BoundLemmas.{members-from}
use Rattle.sg_factor.proofs.ElasticityLemmas.{is_elasticity}
use Rattle.sg_laws_families.specs.Bounds.{IsDifferenceGcd}
use Rattle.sg_laws_families.proofs.DegreesExist.{catenary_degree-exists, max_delta-exists}
use Rattle.sg_laws_families.proofs.DifferenceLemmas.{difference_gcd-exists, min_delta-none, min_delta-some}
use Rattle.sg_laws_families.proofs.Families.{numbers-family}
use Rattle.sg_laws_families.proofs.GcdLemmas.{gcd-of_closed}
use Rattle.sg_laws_families.proofs.NumbersExist.{betti_elements-exist, canonical_relations-exist}
use Rattle.sg_omega.proofs.OmegaExists.{omega-exists, semigroup_omega-exists}

module _ (G : List ℕ) (s : IsNumericalSemigroup G) where
  pub betti_elements-listed : (l : List ℕ) × Lists (λ n. HasTwoClasses (IsFactorization G n)) l
  betti_elements-listed = let m = members-from G s in betti_elements-exist G s.positive m.0 m.1

  pub canonical_relations-listed : (P : List (Relation ℕ)) × IsCanonical (◌<◌) (IsFactorization G) P
  canonical_relations-listed = let m = members-from G s in canonical_relations-exist G s.positive m.0 m.1

  pub catenary-settled : (c : ℕ) × IsCatenary (IsFactorization G) c
  catenary-settled =
      let l = betti_elements-listed in
      catenary_degree-exists (IsFactorization G) (λ n. n) (length G) (numbers-family G s.positive) l.0 l.1.exactly

  pub max_delta-settled : (r : Option ℕ) × IsMaxDelta (IsFactorization G) r
  max_delta-settled =
      let l = betti_elements-listed in
      max_delta-exists (IsFactorization G) (λ n. n) (length G) (numbers-family G s.positive) l.0 l.1.exactly

  pub omega-settled : (n : ℕ) → (N : ℕ) × IsOmega G n N
  omega-settled n = let m = members-from G s in omega-exists G s.positive n m.0 m.1

  pub semigroup_omega-settled : (N : ℕ) × IsOmegaOfSemigroup G N
  semigroup_omega-settled = let m = members-from G s in semigroup_omega-exists G s.positive s.not_empty m.0 m.1

  module _ (m : IsMinimal G) where
    pub min_delta-settled : (r : Option ℕ) × IsMinDelta (IsFactorization G) r
    min_delta-settled = by (difference_gcd-exists G (first-least G m.ascending)).0 (difference_gcd-exists G (first-least G m.ascending)).1
      where
        by : (g : ℕ) → IsDifferenceGcd G g → (r : Option ℕ) × IsMinDelta (IsFactorization G) r
        by zero h = (None, min_delta-none G s (first-least G m.ascending) 0 h refl)
        by (suc g) h = (Some (suc g), min_delta-some G s (first-least G m.ascending) (suc g) h (omega arith))

    pub elasticity-settled : (p q : ℕ) × IsElasticity G p q
    elasticity-settled =
        let f = get_or G 0 0 in
        let l = get_or G (length G - 1) 0 in
        let g = gcd-of_closed (λ _. ⊤) (λ _ _ _ _ _. tt) f l tt tt in
        (l / g.0, f / g.0, is_elasticity G s m.ascending g.0 g.2)
