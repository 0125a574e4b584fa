-- The rows on factorizations have a value, where nothing is refused.
use Rattle.std.proofs.Common.{◌+◌, ◌*◌, ◌-◌, ◌<◌, ◌≤◌, ℕ, List, [], ◌∷◌, length, get_or, inr, arith}
use Rattle.std.specs.Prelude.{ℤ, pos, negsuc}
use Rattle.sg_defs.specs.Listings.{Lists}
use Rattle.sg_defs.specs.Membership.{AtNatural, IsIntegerMember, IsNumericalSemigroup}
use Rattle.sg_nonunique.specs.Catenary.{IsCatenaryOf}
use Rattle.sg_nonunique.specs.Deltas.{IsDelta}
use Rattle.sg_nonunique.specs.Elasticity.{IsElasticity}
use Rattle.sg_nonunique.specs.Factorizations.{AreFactorizations, IsIntegerFactorization, IsLengthIn}
use Rattle.sg_nonunique.specs.Omega.{IsOmegaOfSemigroup}
use Rattle.sg_apery.specs.Fit.{IsNarrow}
use Rattle.sg_apery.specs.Limits.{NARROW_GENERATORS, NARROW_PRODUCT}
use Rattle.sg_factor.specs.declared.limits.TheConstants.{CATENARY_LIMIT, FACTORIZATION_LIMIT, LENGTH_LIMIT}
use Rattle.sg_omega.specs.declared.limits.TheConstants.{OMEGA_LIMIT}
use Rattle.sg_laws_invariants.specs.Decided.{Decided}
use Rattle.sg_laws_invariants.proofs.Decisions.{decided-and, decided-le, decided-lt, decided-lt_z, decided-not, decided-or, decided-same}
use Rattle.sg_laws_invariants.proofs.InvariantsExist.{integer_member-decided}
use Rattle.sg_laws_invariants.proofs.SpansExist.{span-exists, span-one}
use Rattle.sg_laws_factorizations.proofs.ElementsSettled.{integer_factorizations-listed, counts-decided, integer_lengths-listed, integer_deltas-listed, integer_catenary-exists}
use Rattle.sg_laws_factorizations.proofs.SemigroupsSettled.{elasticity-settled, omega-settled, semigroup_omega-settled}
use Rattle.sg_lawful.specs.Lawful.{IsLawfulList}
use Rattle.sg_value.specs.Data.{Items}
use Rattle.sg_value.specs.Plain.{Things}
use Rattle.sg_rows.specs.Asks.{apery_table}
use Rattle.sg_rows.specs.Forms.{of_semigroup, of_semigroup_and_integer}
use Rattle.sg_rows.specs.Lawful.{AreLawful}
use Rattle.sg_rows.specs.Order.{Plain}
use Rattle.sg_rows.specs.Values.{a_quotient}
use Rattle.sg_rows.proofs.Alternating.{or_else_some}
use Rattle.sg_rows.proofs.FormLaws.{of_semigroup_some, of_semigroup_and_integer_some}
use Rattle.sg_rows.proofs.SomeListed.{naturals_some, vectors_some}
use Rattle.sg_rows.proofs.SomeValue.{HasLawful, HasValue, SomeValue, answers_some, natural_some, quotient_some}
use Rattle.sg_rows_factorizations.specs.Commands.{case_of}
use Rattle.sg_rows_factorizations.specs.Elements.{IsBroad, IsIntegerOmega, IsPastOmega, counted, element_row, lengths_of_all_row, measured, omega_row, semigroup_omega_row}
use Rattle.sg_rows_factorizations.specs.declared.all_lengths.AllLengths.{AllLengths}
use Rattle.sg_rows_factorizations.specs.declared.all_lengths.AllLengths.TheVariants.{Elasticity}
use Rattle.sg_rows_factorizations.specs.declared.command.FactorizationCommand.{FactorizationCommand}
use Rattle.sg_rows_factorizations.specs.declared.command.FactorizationCommand.TheVariants.{OfGenerators, OfElement, OmegaPrimality}
use Rattle.sg_rows_factorizations.specs.declared.element.ElementFact.{ElementFact}
use Rattle.sg_rows_factorizations.specs.declared.element.ElementFact.TheVariants as element

no : ⊥ → ⊥
no h = h

-- ---- conditions are decided

broad-decided : (G : List ℕ) → Decided (IsBroad G)
broad-decided G =
    let few = length G ≤ NARROW_GENERATORS in
    let small = get_or G 0 0 * length G ≤ NARROW_PRODUCT in
    decided-not (IsNarrow G)
    (decided-same (few × small) (IsNarrow G) (λ p. record { generators = p.0; product = p.1 }) (λ n. (n.generators, n.product))
    (decided-and few small (decided-le (length G) NARROW_GENERATORS) (decided-le (get_or G 0 0 * length G) NARROW_PRODUCT)))

past-decided : (G : List ℕ) → IsNumericalSemigroup G → (n : ℕ) → Decided (IsPastOmega G n)
past-decided G s n =
    let r = span-exists G s in
    decided-same (OMEGA_LIMIT < n + r.0) (IsPastOmega G n) (λ l. (r.0, r.1, l))
    (λ h. let e = span-one G h.0 r.0 h.1 r.1 in let l = h.2 in omega (arith, e, l)) (decided-lt OMEGA_LIMIT (n + r.0))

at-decided : (P : ℕ → Type 0) → ((n : ℕ) → Decided (P n)) → (x : ℤ) → Decided (AtNatural P x)
at-decided P decided (pos n) = decided n
at-decided P decided (negsuc n) = inr no

-- ---- rows on all factorizations, and on lengths

module _ (G : List ℕ) (x : ℤ) (s : IsNumericalSemigroup G) (P : Plain → Type 0) (h : HasLawful P) where
  counted_some : (b : ℕ) → HasValue (counted G x b P)
  counted_some b = (inr no, λ u. (inr no, λ v. (broad-decided G, λ w. (counts-decided G x s b, λ y. (inr no, λ z. h)))))

  measured_some : HasValue (measured G x P)
  measured_some = (decided-lt_z (pos LENGTH_LIMIT) x, λ u. (inr no, λ v. (broad-decided G, λ w. (inr no, λ y. (inr no, λ z. h)))))

-- ---- omega primality

integer_omega-exists : (G : List ℕ) (x : ℤ) → IsNumericalSemigroup G → ((IsIntegerMember G x → ⊥) → ⊥) → (N : ℕ) × IsIntegerOmega G x N
integer_omega-exists G (pos n) s good = omega-settled G s n
integer_omega-exists G (negsuc n) s good = absurd (good no)

omega_some : (G : List ℕ) (x : ℤ) → IsNumericalSemigroup G → HasValue (omega_row G x)
omega_some G x s = (
  inr no,
  λ u. (
    decided-not (IsIntegerMember G x) (integer_member-decided G x),
    λ v. (
      decided-or (IsBroad G) (AtNatural (IsPastOmega G) x) (broad-decided G) (at-decided (IsPastOmega G) (past-decided G s) x),
      λ w. (inr no, λ y. (inr no, λ z. natural_some (IsIntegerOmega G x) (integer_omega-exists G x s v))),
    ),
  ),
)

semigroup_omega_some : (G : List ℕ) → IsLawfulList G → HasValue (semigroup_omega_row G)
semigroup_omega_some G g =
    let last = get_or G (length G - 1) 0 in (
      inr no,
      λ u. (
        inr no,
        λ v. (
          decided-or (IsBroad G) (IsPastOmega G last) (broad-decided G) (past-decided G g.semigroup last),
          λ w. (inr no, λ y. (inr no, λ z. natural_some (IsOmegaOfSemigroup G) (semigroup_omega-settled G g.semigroup))),
        ),
      ),
    )

-- ---- the rows

element_some : (f : ElementFact) (G : List ℕ) (x : ℤ) → IsLawfulList G → HasValue (element_row f G x)
element_some element.CatenaryDegree G x g =
    let Z = IsIntegerFactorization G x in
    counted_some G x g.semigroup _ (natural_some (IsCatenaryOf Z) (integer_catenary-exists G x g.semigroup)) CATENARY_LIMIT
element_some element.DeltaSet G x g =
    let P = Lists (IsDelta (IsIntegerFactorization G x)) in
    measured_some G x g.semigroup _ (naturals_some P (integer_deltas-listed G x g.semigroup))
element_some element.Factorizations G x g = counted_some G x g.semigroup _ (vectors_some (AreFactorizations G x) (integer_factorizations-listed G x g.semigroup)) FACTORIZATION_LIMIT
element_some element.Lengths G x g =
    let P = Lists (IsLengthIn (IsIntegerFactorization G x)) in
    measured_some G x g.semigroup _ (naturals_some P (integer_lengths-listed G x g.semigroup))
element_some element.OmegaPrimality G x g = omega_some G x g.semigroup

lengths_of_all_some : (f : AllLengths) (G : List ℕ) → IsLawfulList G → HasValue (lengths_of_all_row f G)
lengths_of_all_some Elasticity G g = answers_some (a_quotient (IsElasticity G)) (quotient_some (IsElasticity G) (elasticity-settled G g.semigroup g.minimal))

pub command_some : (c : FactorizationCommand) (args : Items Things) → AreLawful args → SomeValue (case_of c args)
command_some (OfGenerators f) = of_semigroup_some [] (lengths_of_all_row f) (lengths_of_all_some f)
command_some (OfElement f) = of_semigroup_and_integer_some (apery_table ∷ []) (element_row f) (element_some f)
command_some OmegaPrimality = λ args l.
    let of_member = element_row element.OmegaPrimality in
    or_else_some (of_semigroup (apery_table ∷ []) args semigroup_omega_row) (of_semigroup_and_integer (apery_table ∷ []) args of_member) (of_semigroup_some (apery_table ∷ []) semigroup_omega_row semigroup_omega_some args l)
    (of_semigroup_and_integer_some (apery_table ∷ []) of_member (element_some element.OmegaPrimality) args l)
