-- The rows on factorizations, over the minimal list G of a numerical semigroup and an integer x.
use Rattle.std.specs.Prelude.{◌⊎◌, ◌+◌, ◌-◌, ◌<◌, ◌<ℤ◌, ℕ, ℤ, pos, List, length, slice_index}
use Rattle.sg_defs.specs.Listings.{Lists}
use Rattle.sg_defs.specs.Membership.{AtNatural, IsIntegerMember}
use Rattle.sg_nonunique.specs.Catenary.{IsCatenaryOf}
use Rattle.sg_nonunique.specs.Counts.{Exceeds}
use Rattle.sg_nonunique.specs.Deltas.{IsDelta}
use Rattle.sg_nonunique.specs.Elasticity.{IsElasticity}
use Rattle.sg_nonunique.specs.Factorizations.{AreFactorizations, IsIntegerFactorization, IsLengthIn}
use Rattle.sg_nonunique.specs.Omega.{IsOmega, IsOmegaOfSemigroup}
use Rattle.sg_apery.specs.Fit.{IsNarrow, IsSpan}
use Rattle.sg_factor.specs.declared.limits.TheConstants.{CATENARY_LIMIT, FACTORIZATION_LIMIT, LENGTH_LIMIT}
use Rattle.sg_omega.specs.declared.limits.TheConstants.{OMEGA_LIMIT}
use Rattle.sg_rows.specs.Order.{Plain, Row}
use Rattle.sg_rows.specs.Values.{answers, a_natural, a_quotient, naturals_with, vectors_with}
use Rattle.sg_rows_factorizations.specs.declared.all_lengths.AllLengths.{AllLengths}
use Rattle.sg_rows_factorizations.specs.declared.all_lengths.AllLengths.TheVariants.{Elasticity}
use Rattle.sg_rows_factorizations.specs.declared.element.ElementFact.{ElementFact}
use Rattle.sg_rows_factorizations.specs.declared.element.ElementFact.TheVariants.{CatenaryDegree, DeltaSet, Factorizations, Lengths, OmegaPrimality}

-- ---- conditions

-- there are too many generators, or the multiplicity is too great, for factorizations to be listed
abbrev pub IsBroad : List ℕ → Type 0
IsBroad G = ¬ IsNarrow G

-- n and the span together are past the limit of omega primality
abbrev pub IsPastOmega : List ℕ → ℕ → Type 0
IsPastOmega G n = (s : ℕ) × IsSpan G s × (OMEGA_LIMIT < n + s)

-- a row on all factorizations of x, of which there may be no more than b
abbrev pub counted : List ℕ → ℤ → ℕ → (Plain → Type 0) → Row
counted G x b value = record (answers value) { limit = IsBroad G; many = Exceeds (IsIntegerFactorization G x) b }

-- a row on the lengths of x, which may not be past the limit
abbrev pub measured : List ℕ → ℤ → (Plain → Type 0) → Row
measured G x value = record (answers value) { size = pos LENGTH_LIMIT <ℤ x; limit = IsBroad G }

-- ---- of an element

abbrev pub factorizations_row : List ℕ → ℤ → Row
factorizations_row G x = counted G x FACTORIZATION_LIMIT (vectors_with (AreFactorizations G x))

abbrev pub lengths_row : List ℕ → ℤ → Row
lengths_row G x = measured G x (naturals_with (Lists (IsLengthIn (IsIntegerFactorization G x))))

abbrev pub delta_row : List ℕ → ℤ → Row
delta_row G x = measured G x (naturals_with (Lists (IsDelta (IsIntegerFactorization G x))))

abbrev pub catenary_row : List ℕ → ℤ → Row
catenary_row G x = counted G x CATENARY_LIMIT (a_natural (IsCatenaryOf (IsIntegerFactorization G x)))

-- x has the omega primality N
abbrev pub IsIntegerOmega : List ℕ → ℤ → ℕ → Type 0
IsIntegerOmega G x N = AtNatural (λ n. IsOmega G n N) x

-- x is bad where it is no member
abbrev pub omega_row : List ℕ → ℤ → Row
omega_row G x = record (answers (a_natural (IsIntegerOmega G x))) {
  bad = IsIntegerMember G x → ⊥;
  limit = IsBroad G ⊎ AtNatural (IsPastOmega G) x;
}

abbrev pub element_row : ElementFact → List ℕ → ℤ → Row
element_row CatenaryDegree G x = catenary_row G x
element_row DeltaSet G x = delta_row G x
element_row Factorizations G x = factorizations_row G x
element_row Lengths G x = lengths_row G x
element_row OmegaPrimality G x = omega_row G x

-- ---- of the semigroup

abbrev pub elasticity_row : List ℕ → Row
elasticity_row G = answers (a_quotient (IsElasticity G))

abbrev pub lengths_of_all_row : AllLengths → List ℕ → Row
lengths_of_all_row Elasticity G = elasticity_row G

-- of the greatest generator and the span
abbrev pub semigroup_omega_row : List ℕ → Row
semigroup_omega_row G = record (answers (a_natural (IsOmegaOfSemigroup G))) { limit = IsBroad G ⊎ IsPastOmega G (slice_index G (length G - 1)) }
