-- The rows on shapes have at most one value.
use Rattle.std.proofs.Common.{◌≡◌, ◌<◌, ℕ, ℤ, List, [], ◌∷◌, length, reverse, inl, inr, refl, ap, sym, ◌∙◌, subst, arith}
use Rattle.std.specs.List.{AllZip}
use Rattle.sg_defs.specs.Membership.{IsMember, IsMinimal, Generates}
use Rattle.sg_defs.specs.Invariants.{IsSpecialGap}
use Rattle.sg_defs.specs.Symmetry.{IsSymmetric, IsPseudoSymmetric, IsIrreducible}
use Rattle.sg_defs.specs.Closures.{IsArf, IsMed, IsSaturated, IsLeast}
use Rattle.sg_defs.specs.Decomposition.{IsInCover, IsChosen, IsDecomposition}
use Rattle.sg_apery.proofs.OneListLemmas.{one-minimal_list}
use Rattle.sg_value.specs.Data.{semigroup, Items}
use Rattle.sg_value.specs.Plain.{Things}
use Rattle.sg_rows.specs.Asks.{apery_table, pseudo_frobenius}
use Rattle.sg_rows.proofs.FormLaws.{of_semigroup_one}
use Rattle.sg_rows.proofs.OneListed.{semigroups_one, lists_integers_one}
use Rattle.sg_rows.proofs.OneValue.{One, OneValue, whether_one}
use Rattle.sg_rows_symmetry.specs.Closures.{IsClosure}
use Rattle.sg_rows_symmetry.specs.Shapes.{generators_row, table_row, closure_row, decomposition_row, case_of}
use Rattle.sg_rows_symmetry.specs.declared.shape.Shape.{Shape}
use Rattle.sg_rows_symmetry.specs.declared.shape.Shape.TheVariants as shape
use Rattle.sg_rows_symmetry.specs.declared.shape.GeneratorsTest.{GeneratorsTest}
use Rattle.sg_rows_symmetry.specs.declared.shape.GeneratorsTest.TheVariants.{IsMED}
use Rattle.sg_rows_symmetry.specs.declared.shape.TableTest.{TableTest}
use Rattle.sg_rows_symmetry.specs.declared.shape.TableTest.TheVariants as test
use Rattle.sg_rows_symmetry.specs.declared.shape.Closure.{Closure}
use Rattle.sg_rows_symmetry.specs.declared.shape.Closure.TheVariants.{Arf, Med, Saturated}
use Rattle.sg_rows_symmetry.specs.declared.shape.Decomposition.{Decomposition}
use Rattle.sg_rows_symmetry.specs.declared.shape.Decomposition.TheVariants.{IntoIrreducibles}

-- two least semigroups with P hold one another
pub one-least : (P : List ℕ → Type 0) (G H K : List ℕ) → IsMinimal H → IsMinimal K → IsLeast P G H → IsLeast P G K → H ≡ K
one-least P G H K minimal_h minimal_k a b = one-minimal_list (IsMember H) H K first second
  where
    first : Generates (IsMember H) H
    first = record { semigroup = a.semigroup; minimal = minimal_h; same = λ n. ((λ m. m), (λ m. m)) }

    second : Generates (IsMember H) K
    second = record { semigroup = b.semigroup; minimal = minimal_k; same = λ n. (a.least K b.semigroup b.has b.holds n, b.least H a.semigroup a.has a.holds n) }

one-closure : (c : Closure) (G H K : List ℕ) → IsMinimal H → IsMinimal K → IsClosure c G H → IsClosure c G K → H ≡ K
one-closure Arf G H K p q h k = one-least IsArf G H K p q h k
one-closure Med G H K p q h k = one-least _ G H K p q h k
one-closure Saturated G H K p q h k = one-least IsSaturated G H K p q h k

-- the choice is determined
one-chosen : (G : List ℕ) (before hs : List ℤ) → One (IsChosen G before hs)
one-chosen G before [] c d p q = p ∙ sym q
one-chosen G before (h ∷ hs) c d (inl p) (inl q) = p.1.1 ∙ (ap (λ l. h ∷ l) (one-chosen G (h ∷ before) hs p.1.0 q.1.0 p.1.2 q.1.2) ∙ sym q.1.1)
one-chosen G before (h ∷ hs) c d (inl p) (inr q) = absurd (q.0 p.0)
one-chosen G before (h ∷ hs) c d (inr p) (inl q) = absurd (p.0 q.0)
one-chosen G before (h ∷ hs) c d (inr p) (inr q) = one-chosen G before hs c d p.1 q.1

one-covers : (G : List ℕ) (hs : List ℤ) (K L : List (List ℕ)) → AllZip (λ h M. Generates (IsInCover G h) M) hs K → AllZip (λ h M. Generates (IsInCover G h) M) hs L → K ≡ L
one-covers G [] [] [] p q = refl
one-covers G [] [] (M ∷ L) p q = absurd q
one-covers G [] (M ∷ K) L p q = absurd p
one-covers G (h ∷ hs) [] L p q = absurd p
one-covers G (h ∷ hs) (M ∷ K) [] p q = absurd q
one-covers G (h ∷ hs) (M ∷ K) (N ∷ L) p q = ap (λ x. x ∷ K) (one-minimal_list (IsInCover G h) M N p.0 q.0) ∙ ap (λ l. N ∷ l) (one-covers G hs K L p.1 q.1)

one-decomposition : (G : List ℕ) → One (IsDecomposition G)
one-decomposition G K L a b = by a.special refl
  where
    special : b.special ≡ a.special
    special = lists_integers_one (IsSpecialGap G) b.special a.special b.is_special a.is_special

    chosen : b.chosen ≡ a.chosen
    chosen = one-chosen G [] (reverse a.special) b.chosen a.chosen (subst (λ l. IsChosen G [] (reverse l) b.chosen) special b.is_chosen) a.is_chosen

    by : (l : List ℤ) → l ≡ a.special → K ≡ L
    by [] e =
        let one = a.whole (sym e) in
        let two = b.whole (special ∙ sym e) in
        one.1 ∙ (ap (λ M. M ∷ []) (one-minimal_list (IsMember G) one.0 two.0 one.2 two.2) ∙ sym two.1)
    by (x ∷ xs) e =
        let some : 0 < length a.special = subst (λ l. 0 < length l) e (omega arith) in
        one-covers G a.chosen K L (a.covers some) (subst (λ l. AllZip (λ h M. Generates (IsInCover G h) M) l L) chosen (b.covers (subst (λ l. 0 < length l) (sym special) some)))

-- ---- the rows

generators_one : (t : GeneratorsTest) (G : List ℕ) → One (generators_row t G).value
generators_one IsMED G = whether_one (IsMed G)

table_one : (t : TableTest) (G : List ℕ) → One (table_row t G).value
table_one test.IsArf G = whether_one (IsArf G)
table_one test.IsIrreducible G = whether_one (IsIrreducible G)
table_one test.IsPseudoSymmetric G = whether_one (IsPseudoSymmetric G)
table_one test.IsSaturated G = whether_one (IsSaturated G)
table_one test.IsSymmetric G = whether_one (IsSymmetric G)

closure_one : (c : Closure) (G : List ℕ) → One (closure_row c G).value
closure_one c G d e p q = p.1 ∙ (ap semigroup (one-closure c G p.0 q.0 p.2 q.2 p.3 q.3) ∙ sym q.1)

decomposition_one : (p : Decomposition) (G : List ℕ) → One (decomposition_row p G).value
decomposition_one IntoIrreducibles G = semigroups_one (IsDecomposition G) (one-decomposition G)

pub shape_one : (s : Shape) (args : Items Things) → OneValue (case_of s args)
shape_one (shape.TestOfGenerators t) = of_semigroup_one [] (generators_row t) (generators_one t)
shape_one (shape.TestOfTable t) = of_semigroup_one (apery_table ∷ []) (table_row t) (table_one t)
shape_one (shape.Closure c) = of_semigroup_one (apery_table ∷ []) (closure_row c) (closure_one c)
shape_one (shape.Decomposition p) = of_semigroup_one (apery_table ∷ pseudo_frobenius ∷ []) (decomposition_row p) (decomposition_one p)
