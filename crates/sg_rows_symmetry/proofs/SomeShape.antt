-- The rows on shapes have a value: each shape is decided, and each closure and the decomposition exist.
use Rattle.std.proofs.Common.{ℕ, List, [], ◌∷◌, refl, subst, inl, inr}
use Rattle.std.specs.Prelude.{◌⊎◌}
use Rattle.std.proofs.lemmas.Bool.{cases_lt}
use Rattle.sg_defs.specs.Membership.{IsMember, IsNumericalSemigroup, IsMinimal, IsMultiplicity}
use Rattle.sg_defs.specs.Symmetry.{IsSymmetric, IsPseudoSymmetric, IsIrreducible}
use Rattle.sg_defs.specs.Closures.{IsArf, IsMed, IsSaturated, IsLeast}
use Rattle.sg_defs.specs.Decomposition.{IsDecomposition}
use Rattle.sg_apery.specs.Fit.{IsFit}
use Rattle.sg_apery.specs.Limits.{SPAN_LIMIT}
use Rattle.sg_laws_invariants.specs.Decided.{Decided}
use Rattle.sg_laws_invariants.proofs.Decisions.{decided-or}
use Rattle.sg_laws_invariants.proofs.SemigroupDecisions.{fit-decided}
use Rattle.sg_laws_invariants.proofs.BoundLemmas.{numerical-set, minimal_list-exists}
use Rattle.sg_laws_invariants.proofs.ClosuresExist.{arf-decided, med-decided, arf_closure-exists, med_closure-exists}
use Rattle.sg_laws_invariants.proofs.SpansExist.{span-exists, wide-decided}
use Rattle.sg_laws_symmetry.proofs.SymmetryDecisions.{symmetric-decided, pseudo_symmetric-decided, irreducible-decided}
use Rattle.sg_laws_symmetry.proofs.SaturationExists.{saturated-decided, saturated_closure-exists, same-saturated}
use Rattle.sg_laws_symmetry.proofs.DecompositionExists.{decomposition-exists}
use Rattle.sg_lawful.specs.Lawful.{IsLawfulList}
use Rattle.sg_value.specs.Data.{semigroup, Items}
use Rattle.sg_value.specs.Plain.{Things}
use Rattle.sg_rows.specs.Asks.{apery_table, pseudo_frobenius}
use Rattle.sg_rows.specs.Lawful.{AreLawful}
use Rattle.sg_lawful.specs.Spans.{IsWide, IsShort}
use Rattle.sg_rows.specs.Limits.{spanned}
use Rattle.sg_rows.specs.Values.{answers, whether, semigroups_with}
use Rattle.sg_rows.proofs.FormLaws.{of_semigroup_some}
use Rattle.sg_rows.proofs.SomeListed.{spanned_some, semigroups_some}
use Rattle.sg_rows.proofs.SomeValue.{SomeValue, answers_some, whether_some, HasValue}
use Rattle.sg_rows_symmetry.proofs.OneShape.{one-least}
use Rattle.sg_rows_symmetry.specs.Closures.{IsClosure}
use Rattle.sg_rows_symmetry.specs.Shapes.{generators_row, table_row, closure_row, decomposition_row, case_of}
use Rattle.sg_rows_symmetry.specs.declared.shape.Shape.{Shape}
use Rattle.sg_rows_symmetry.specs.declared.shape.Shape.TheVariants as shape
use Rattle.sg_rows_symmetry.specs.declared.shape.GeneratorsTest.{GeneratorsTest}
use Rattle.sg_rows_symmetry.specs.declared.shape.GeneratorsTest.TheVariants.{IsMED}
use Rattle.sg_rows_symmetry.specs.declared.shape.TableTest.{TableTest}
use Rattle.sg_rows_symmetry.specs.declared.shape.TableTest.TheVariants as test
use Rattle.sg_rows_symmetry.specs.declared.shape.Closure.{Closure}
use Rattle.sg_rows_symmetry.specs.declared.shape.Closure.TheVariants.{Arf, Med, Saturated}
use Rattle.sg_rows_symmetry.specs.declared.shape.Decomposition.{Decomposition}
use Rattle.sg_rows_symmetry.specs.declared.shape.Decomposition.TheVariants.{IntoIrreducibles}
use Rattle.sg_rows_symmetry.proofs.Parts.{parts-lawful}

no : ⊥ → ⊥
no h = h

-- ---- closures

-- a kind is told by the members
abbrev IsToldByMembers : (List ℕ → Type 0) → Type 0
IsToldByMembers Q = (H M : List ℕ) → ((n : ℕ) → IsMember H n → IsMember M n) → ((n : ℕ) → IsMember M n → IsMember H n) → Q H → Q M

-- the least of a kind by its minimal list
least-minimal : (Q : List ℕ → Type 0) → IsToldByMembers Q → (G H : List ℕ) → IsLeast Q G H → (M : List ℕ) × IsNumericalSemigroup M × IsMinimal M × IsLeast Q G M
least-minimal Q told G H h =
    let m = minimal_list-exists (IsMember H) (numerical-set H h.semigroup) in (
      m.0,
      m.1.semigroup,
      m.1.minimal,
      record {
        semigroup = m.1.semigroup;
        has = told H m.0 (λ n p. (m.1.same n).0 p) (λ n p. (m.1.same n).1 p) h.has;
        holds = λ n p. (m.1.same n).0 (h.holds n p);
        least = λ K semigroup kind above n p. h.least K semigroup kind above n ((m.1.same n).1 p);
      },
    )

-- the minimal list of a closure is within the limits, or that of no closure is
fit_closure-or_none : (Q : List ℕ → Type 0) (G M : List ℕ) → IsMinimal M → IsLeast Q G M → IsFit M ⊎ ((H : List ℕ) → IsMinimal H → IsLeast Q G H → ¬ IsFit H)
fit_closure-or_none Q G M m h = elim (fit-decided M) [
  | inl fit ↦ inl fit
  | inr not ↦ inr (λ K k l fit. not (subst IsFit (one-least Q G K M k m l h) fit))
]

-- a row of a closure of a kind
module _ (Q : List ℕ → Type 0) (G : List ℕ) (c : Closure) (is : (H : List ℕ) → IsLeast Q G H → IsClosure c G H) (was : (H : List ℕ) → IsClosure c G H → IsLeast Q G H) where
  at : (M : List ℕ) → IsNumericalSemigroup G → IsNumericalSemigroup M → IsMinimal M → IsLeast Q G M → IsFit M ⊎ ((H : List ℕ) → IsMinimal H → IsLeast Q G H → ¬ IsFit H) → HasValue (closure_row c G)
  at M g s m h (inl fit) = (
    inr no,
    λ a. (
      inr no,
      λ b. (
        decided-or (IsWide G) ((H : List ℕ) → IsMinimal H → IsClosure c G H → ¬ IsFit H) (wide-decided G g SPAN_LIMIT) (inr (λ none. none M m (is M h) fit)),
        λ d. (inr no, λ e. (inr no, λ f. (semigroup M, (M, refl, m, is M h), record { semigroup = s; minimal = m; fit = fit }))),
      ),
    ),
  )
  at M g s m h (inr none) = let never = λ (H : List ℕ) (k : IsMinimal H) (l : IsClosure c G H). none H k (was H l) in (inr no, λ a. (inr no, λ b. (inl (inr never), λ d. absurd (d (inr never)))))

  some_closure : IsToldByMembers Q → IsNumericalSemigroup G → (H : List ℕ) × IsLeast Q G H → HasValue (closure_row c G)
  some_closure told g h = let m = least-minimal Q told G h.0 h.1 in at m.0 g m.1 m.2 m.3 (fit_closure-or_none Q G m.0 m.2 m.3)

arf-told : IsToldByMembers IsArf
arf-told H M to from arf x y z l m p q r = to _ (arf x y z l m (from x p) (from y q) (from z r))

multiplicity-told : (H M : List ℕ) (m : ℕ) → ((n : ℕ) → IsMember H n → IsMember M n) → ((n : ℕ) → IsMember M n → IsMember H n) → IsMultiplicity H m → IsMultiplicity M m
multiplicity-told H M m to from h = record { positive = h.positive; member = to m h.member; least = λ n l p. h.least n l (from n p) }

-- of maximal embedding dimension and the multiplicity of G
abbrev IsMedOver : List ℕ → List ℕ → Type 0
IsMedOver G K = IsMed K × ((m : ℕ) → IsMultiplicity G m → IsMultiplicity K m)

med-told : (G : List ℕ) → IsToldByMembers (IsMedOver G)
med-told G H M to from h = ((h.0.0, multiplicity-told H M h.0.0 to from h.0.1, λ x y p q r s. to _ (h.0.2 x y p q (from x r) (from y s))), λ m p. multiplicity-told H M m to from (h.1 m p))

closure_some : (c : Closure) (G : List ℕ) → IsLawfulList G → HasValue (closure_row c G)
closure_some Arf G g = some_closure IsArf G Arf (λ H h. h) (λ H h. h) arf-told g.semigroup (arf_closure-exists G g.semigroup)
closure_some Med G g = some_closure (IsMedOver G) G Med (λ H h. h) (λ H h. h) (med-told G) g.semigroup (med_closure-exists G g.semigroup)
closure_some Saturated G g = some_closure IsSaturated G Saturated (λ H h. h) (λ H h. h) (λ H M to from h. same-saturated M H from to h) g.semigroup (saturated_closure-exists G g.semigroup)

-- ---- decompositions

short-exists : (G : List ℕ) → IsNumericalSemigroup G → ¬ IsWide G → IsShort G
short-exists G s h = let r = span-exists G s in elim (cases_lt SPAN_LIMIT r.0) [ inl past ↦ absurd (h (r.0, r.1, past)) | inr within ↦ (r.0, r.1, within) ]

decomposition_some : (p : Decomposition) (G : List ℕ) → IsLawfulList G → HasValue (decomposition_row p G)
decomposition_some IntoIrreducibles G g = spanned_some G (semigroups_with (IsDecomposition G)) g.semigroup (λ short.
    let d = decomposition-exists G g.semigroup in
    semigroups_some (IsDecomposition G) d.0 d.1 (parts-lawful G g (short-exists G g.semigroup short) d.0 d.1))

-- ---- the rows

test_some : (G : List ℕ) (P : Type 0) → Decided P → HasValue (answers (whether P))
test_some G P decided = answers_some (whether P) (whether_some P decided)

spanned_test_some : (G : List ℕ) (P : Type 0) → IsNumericalSemigroup G → Decided P → HasValue (spanned G (whether P))
spanned_test_some G P g decided = spanned_some G (whether P) g (λ short. whether_some P decided)

generators_some : (t : GeneratorsTest) (G : List ℕ) → IsLawfulList G → HasValue (generators_row t G)
generators_some IsMED G g = test_some G (IsMed G) (med-decided G g.semigroup)

table_some : (t : TableTest) (G : List ℕ) → IsLawfulList G → HasValue (table_row t G)
table_some test.IsArf G g = spanned_test_some G (IsArf G) g.semigroup (arf-decided G g.semigroup)
table_some test.IsIrreducible G g = test_some G (IsIrreducible G) (irreducible-decided G g.semigroup)
table_some test.IsPseudoSymmetric G g = test_some G (IsPseudoSymmetric G) (pseudo_symmetric-decided G g.semigroup)
table_some test.IsSaturated G g = spanned_test_some G (IsSaturated G) g.semigroup (saturated-decided G g.semigroup)
table_some test.IsSymmetric G g = test_some G (IsSymmetric G) (symmetric-decided G g.semigroup)

pub shape_some : (s : Shape) (args : Items Things) → AreLawful args → SomeValue (case_of s args)
shape_some (shape.TestOfGenerators t) = of_semigroup_some [] (generators_row t) (generators_some t)
shape_some (shape.TestOfTable t) = of_semigroup_some (apery_table ∷ []) (table_row t) (table_some t)
shape_some (shape.Closure c) = of_semigroup_some (apery_table ∷ []) (closure_row c) (closure_some c)
shape_some (shape.Decomposition p) = of_semigroup_some (apery_table ∷ pseudo_frobenius ∷ []) (decomposition_row p) (decomposition_some p)
