-- The commands on the shape of a numerical semigroup: their names, and their rows over its minimal list G.
use Rattle.std.specs.Prelude.{◌≡◌, ◌⊎◌, ℕ, Bool, nat_eq, codes, List, [], ◌∷◌, Option}
use Rattle.std.specs.Map.{lookup}
use Rattle.std.specs.Str.{bytes_eq}
use Rattle.sg_defs.specs.Closures.{IsArf, IsMed, IsSaturated}
use Rattle.sg_defs.specs.Decomposition.{IsDecomposition}
use Rattle.sg_defs.specs.Membership.{IsMinimal}
use Rattle.sg_defs.specs.Symmetry.{IsSymmetric, IsPseudoSymmetric, IsIrreducible}
use Rattle.sg_apery.specs.Fit.{IsFit}
use Rattle.sg_value.specs.Data.{semigroup, Items}
use Rattle.sg_value.specs.Plain.{Things}
use Rattle.sg_rows.specs.Asks.{apery_table, pseudo_frobenius}
use Rattle.sg_rows.specs.Order.{Row, Case}
use Rattle.sg_rows.specs.Values.{answers, whether, semigroups_with}
use Rattle.sg_lawful.specs.Spans.{IsWide}
use Rattle.sg_rows.specs.Limits.{spanned}
use Rattle.sg_rows.specs.Forms.{of_semigroup}
use Rattle.sg_rows_symmetry.specs.Closures.{IsClosure}
use Rattle.sg_rows_symmetry.specs.declared.shape.Shape.{Shape}
use Rattle.sg_rows_symmetry.specs.declared.shape.Shape.TheVariants as shape
use Rattle.sg_rows_symmetry.specs.declared.shape.GeneratorsTest.{GeneratorsTest}
use Rattle.sg_rows_symmetry.specs.declared.shape.GeneratorsTest.TheVariants.{IsMED}
use Rattle.sg_rows_symmetry.specs.declared.shape.TableTest.{TableTest}
use Rattle.sg_rows_symmetry.specs.declared.shape.TableTest.TheVariants as test
use Rattle.sg_rows_symmetry.specs.declared.shape.Closure.{Closure}
use Rattle.sg_rows_symmetry.specs.declared.shape.Closure.TheVariants.{Arf, Med, Saturated}
use Rattle.sg_rows_symmetry.specs.declared.shape.Decomposition.{Decomposition}
use Rattle.sg_rows_symmetry.specs.declared.shape.Decomposition.TheVariants.{IntoIrreducibles}

-- ---- names

abbrev pub names : List (List ℕ × Shape)
names =
    (codes "ArfClosure", shape.Closure Arf)
    ∷ (codes "DecomposeIntoIrreducibles", shape.Decomposition IntoIrreducibles)
    ∷ (codes "IsArf", shape.TestOfTable test.IsArf)
    ∷ (codes "IsIrreducible", shape.TestOfTable test.IsIrreducible)
    ∷ (codes "IsMED", shape.TestOfGenerators IsMED)
    ∷ (codes "IsPseudoSymmetric", shape.TestOfTable test.IsPseudoSymmetric)
    ∷ (codes "IsSaturated", shape.TestOfTable test.IsSaturated)
    ∷ (codes "IsSymmetric", shape.TestOfTable test.IsSymmetric)
    ∷ (codes "MEDClosure", shape.Closure Med)
    ∷ (codes "SaturatedClosure", shape.Closure Saturated)
    ∷ []

-- the command of a name
unfoldable pub named : List ℕ → Option Shape
named name = lookup (bytes_eq name) names

-- whether a command takes so many arguments
abbrev pub takes : Shape → ℕ → Bool
takes _ n = nat_eq n 1

-- ---- rows

abbrev pub generators_row : GeneratorsTest → List ℕ → Row
generators_row IsMED G = answers (whether (IsMed G))

abbrev pub table_row : TableTest → List ℕ → Row
table_row test.IsArf G = spanned G (whether (IsArf G))
table_row test.IsIrreducible G = answers (whether (IsIrreducible G))
table_row test.IsPseudoSymmetric G = answers (whether (IsPseudoSymmetric G))
table_row test.IsSaturated G = spanned G (whether (IsSaturated G))
table_row test.IsSymmetric G = answers (whether (IsSymmetric G))

-- the semigroup by its minimal list; too large past the limit of the span, or where it is not fit
abbrev pub closure_row : Closure → List ℕ → Row
closure_row closure G = record (answers (λ d. (H : List ℕ) × (d ≡ semigroup H) × IsMinimal H × IsClosure closure G H)) {
  limit = IsWide G ⊎ ((H : List ℕ) → IsMinimal H → IsClosure closure G H → ¬ IsFit H);
}

abbrev pub decomposition_row : Decomposition → List ℕ → Row
decomposition_row IntoIrreducibles G = spanned G (semigroups_with (IsDecomposition G))

-- what the row of a command says of arguments
abbrev pub case_of : Shape → Items Things → Case
case_of (shape.TestOfGenerators t) args = of_semigroup [] args (generators_row t)
case_of (shape.TestOfTable t) args = of_semigroup (apery_table ∷ []) args (table_row t)
case_of (shape.Closure c) args = of_semigroup (apery_table ∷ []) args (closure_row c)
case_of (shape.Decomposition p) args = of_semigroup (apery_table ∷ pseudo_frobenius ∷ []) args (decomposition_row p)
