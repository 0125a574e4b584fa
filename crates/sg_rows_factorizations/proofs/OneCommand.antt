-- The rows on factorizations have at most one value.
use Rattle.std.proofs.Common.{ℕ, List, [], ◌∷◌}
use Rattle.std.specs.Prelude.{ℤ, pos, negsuc}
use Rattle.sg_defs.specs.Listings.{Lists}
use Rattle.sg_nonunique.specs.Catenary.{IsCatenaryOf}
use Rattle.sg_nonunique.specs.Deltas.{IsDelta}
use Rattle.sg_nonunique.specs.Elasticity.{IsElasticity}
use Rattle.sg_nonunique.specs.Factorizations.{AreFactorizations, IsIntegerFactorization, IsLengthIn}
use Rattle.sg_nonunique.specs.Omega.{IsOmegaOfSemigroup}
use Rattle.sg_laws_factorizations.proofs.OneAnswer.{one-factorizations, one-lengths, one-deltas, one-catenary_of, one-elasticity, one-omega, one-semigroup_omega}
use Rattle.sg_value.specs.Data.{Items}
use Rattle.sg_value.specs.Plain.{Things}
use Rattle.sg_rows.specs.Asks.{apery_table}
use Rattle.sg_rows.specs.Forms.{of_semigroup, of_semigroup_and_integer}
use Rattle.sg_rows.proofs.Alternating.{or_else_one}
use Rattle.sg_rows.proofs.FormLaws.{of_semigroup_one, of_semigroup_and_integer_one}
use Rattle.sg_rows.proofs.OneListed.{natural_one, naturals_one, vectors_one}
use Rattle.sg_rows.proofs.OneValue.{One, OneValue, quotient_one}
use Rattle.sg_rows_factorizations.specs.Commands.{case_of}
use Rattle.sg_rows_factorizations.specs.Elements.{IsIntegerOmega, element_row, lengths_of_all_row, semigroup_omega_row}
use Rattle.sg_rows_factorizations.specs.declared.all_lengths.AllLengths.{AllLengths}
use Rattle.sg_rows_factorizations.specs.declared.all_lengths.AllLengths.TheVariants.{Elasticity}
use Rattle.sg_rows_factorizations.specs.declared.command.FactorizationCommand.{FactorizationCommand}
use Rattle.sg_rows_factorizations.specs.declared.command.FactorizationCommand.TheVariants.{OfGenerators, OfElement, OmegaPrimality}
use Rattle.sg_rows_factorizations.specs.declared.element.ElementFact.{ElementFact}
use Rattle.sg_rows_factorizations.specs.declared.element.ElementFact.TheVariants as element

one-integer_omega : (G : List ℕ) (x : ℤ) → One (IsIntegerOmega G x)
one-integer_omega G (pos n) M N h k = one-omega G n M N h k
one-integer_omega G (negsuc n) M N h k = absurd h

element_one : (f : ElementFact) (G : List ℕ) (x : ℤ) → One (element_row f G x).value
element_one element.CatenaryDegree G x = natural_one (IsCatenaryOf (IsIntegerFactorization G x)) (one-catenary_of (IsIntegerFactorization G x))
element_one element.DeltaSet G x = naturals_one (Lists (IsDelta (IsIntegerFactorization G x))) (one-deltas G x)
element_one element.Factorizations G x = vectors_one (AreFactorizations G x) (one-factorizations G x)
element_one element.Lengths G x = naturals_one (Lists (IsLengthIn (IsIntegerFactorization G x))) (one-lengths G x)
element_one element.OmegaPrimality G x = natural_one (IsIntegerOmega G x) (one-integer_omega G x)

semigroup_omega_one : (G : List ℕ) → One (semigroup_omega_row G).value
semigroup_omega_one G = natural_one (IsOmegaOfSemigroup G) (one-semigroup_omega G)

lengths_of_all_one : (f : AllLengths) (G : List ℕ) → One (lengths_of_all_row f G).value
lengths_of_all_one Elasticity G = quotient_one (IsElasticity G) (one-elasticity G)

pub command_one : (c : FactorizationCommand) (args : Items Things) → OneValue (case_of c args)
command_one (OfGenerators f) = of_semigroup_one [] (lengths_of_all_row f) (lengths_of_all_one f)
command_one (OfElement f) = of_semigroup_and_integer_one (apery_table ∷ []) (element_row f) (element_one f)
command_one OmegaPrimality = λ args.
    let of_member = element_row element.OmegaPrimality in
    or_else_one (of_semigroup (apery_table ∷ []) args semigroup_omega_row) (of_semigroup_and_integer (apery_table ∷ []) args of_member) (of_semigroup_one (apery_table ∷ []) semigroup_omega_row semigroup_omega_one args)
    (of_semigroup_and_integer_one (apery_table ∷ []) of_member (element_one element.OmegaPrimality) args)
