-- Rows that ask for nothing late, and cases that ask for nothing at all.
use Rattle.std.proofs.Common.{◌≡◌, ℕ, ℤ, List, [], ◌∷◌, Option, Some, None, refl}
use Rattle.sg_defs.specs.Membership.{IsIntegerMember}
use Rattle.sg_value.specs.Data.{Items}
use Rattle.sg_value.specs.Plain.{Things}
use Rattle.sg_rows.specs.Alternatives.{or_else}
use Rattle.sg_rows.specs.Asks.{apery_table, asked_of, nothing}
use Rattle.sg_rows.specs.Entries.{IsEntry}
use Rattle.sg_rows.specs.Forms.{of_semigroup, of_semigroup_and_integer, on_integer_and_semigroup, on_integer_and_ideal, on_list_and_semigroup, on_two_ideals}
use Rattle.sg_rows.specs.Kinds.{fitted, given, one, two, three, as_integers, as_list, as_semigroup, as_ideal, list_or_integers, two_integers, three_integers, two_semigroups, two_ideals, semigroup_and_integer, integer_then_semigroup, integer_then_ideal, list_then_semigroup}
use Rattle.sg_rows.specs.Order.{Plain, Case}
use Rattle.sg_rows.specs.Values.{answers, whether}
use Rattle.sg_rows_lists.specs.Concatenations.{concatenated}
use Rattle.sg_rows_lists.specs.Lists as lists
use Rattle.sg_rows_lists.specs.declared.lists.ListCommand.{ListCommand}
use Rattle.sg_rows_lists.specs.declared.lists.ListCommand.TheVariants as list_command
use Rattle.sg_rows_lists.specs.declared.lists.IntegersFact.{IntegersFact}
use Rattle.sg_rows_lists.specs.declared.lists.IntegersFact.TheVariants as integers_fact
use Rattle.sg_rows_constructors.specs.Makers as makers
use Rattle.sg_rows_constructors.specs.declared.maker.Maker.{Maker}
use Rattle.sg_rows_constructors.specs.declared.maker.Maker.TheVariants as maker
use Rattle.sg_rows_constructors.specs.declared.maker.IntegersMaker.{IntegersMaker}
use Rattle.sg_rows_constructors.specs.declared.maker.IntegersMaker.TheVariants as integers_maker
use Rattle.sg_rows_invariants.specs.Facts as facts
use Rattle.sg_rows_invariants.specs.declared.fact.Fact.{Fact}
use Rattle.sg_rows_invariants.specs.declared.fact.Fact.TheVariants as fact
use Rattle.sg_rows_invariants.specs.declared.fact.GeneratorsFact.{GeneratorsFact}
use Rattle.sg_rows_invariants.specs.declared.fact.GeneratorsFact.TheVariants as generators
use Rattle.sg_rows_invariants.specs.declared.fact.TableFact.{TableFact}
use Rattle.sg_rows_invariants.specs.declared.fact.TableFact.TheVariants as table
use Rattle.sg_rows_invariants.specs.declared.fact.NumbersFact.{NumbersFact}
use Rattle.sg_rows_invariants.specs.declared.fact.NumbersFact.TheVariants as numbers
use Rattle.sg_rows_invariants.specs.declared.fact.BothFact.{BothFact}
use Rattle.sg_rows_invariants.specs.declared.fact.BothFact.TheVariants as both_fact
use Rattle.sg_rows_symmetry.specs.Shapes as shapes
use Rattle.sg_rows_symmetry.specs.declared.shape.Shape.{Shape}
use Rattle.sg_rows_symmetry.specs.declared.shape.Shape.TheVariants as shape
use Rattle.sg_rows_symmetry.specs.declared.shape.GeneratorsTest.{GeneratorsTest}
use Rattle.sg_rows_symmetry.specs.declared.shape.GeneratorsTest.TheVariants as generators_test
use Rattle.sg_rows_symmetry.specs.declared.shape.TableTest.{TableTest}
use Rattle.sg_rows_symmetry.specs.declared.shape.TableTest.TheVariants as table_test
use Rattle.sg_rows_symmetry.specs.declared.shape.Decomposition.{Decomposition}
use Rattle.sg_rows_symmetry.specs.declared.shape.Decomposition.TheVariants as decomposition
use Rattle.sg_rows_ideals.specs.Ideals as ideals
use Rattle.sg_rows_ideals.specs.Rows.{fact_row, generated_row, member_row, multiple_row, pair_row, translate_row}
use Rattle.sg_rows_ideals.specs.declared.facts.IdealFact.{IdealFact}
use Rattle.sg_rows_ideals.specs.declared.facts.IdealFact.TheVariants as ideal_fact
use Rattle.sg_rows_ideals.specs.declared.ideals.IdealCommand.{IdealCommand}
use Rattle.sg_rows_ideals.specs.declared.ideals.IdealCommand.TheVariants as ideal
use Rattle.sg_rows_ideals.specs.declared.ideals.TableIdeal.{TableIdeal}
use Rattle.sg_rows_ideals.specs.declared.ideals.TableIdeal.TheVariants as table_ideal
use Rattle.sg_rows_ideals.specs.declared.ideals.BothIdeal.{BothIdeal}
use Rattle.sg_rows_ideals.specs.declared.ideals.BothIdeal.TheVariants as both_ideal
use Rattle.sg_rows_ideals.specs.declared.pairs.Pair.TheVariants as pair
use Rattle.sg_rows_factorizations.specs.Commands as factorizations
use Rattle.sg_rows_factorizations.specs.Elements.{element_row, lengths_of_all_row, semigroup_omega_row}
use Rattle.sg_rows_factorizations.specs.declared.all_lengths.AllLengths.{AllLengths}
use Rattle.sg_rows_factorizations.specs.declared.all_lengths.AllLengths.TheVariants.{Elasticity}
use Rattle.sg_rows_factorizations.specs.declared.command.FactorizationCommand.{FactorizationCommand}
use Rattle.sg_rows_factorizations.specs.declared.command.FactorizationCommand.TheVariants as factorization
use Rattle.sg_rows_factorizations.specs.declared.element.ElementFact.{ElementFact}
use Rattle.sg_rows_factorizations.specs.declared.element.ElementFact.TheVariants as element
use Rattle.sg_calls.specs.Early.{early_of, late_of}
use Rattle.sg_calls.specs.Operations.{operation, membership, moved_or_generated, calculation, of_integers}
use Rattle.sg_calls.specs.Rows.{shared_case}
use Rattle.sg_calls.specs.declared.command.Shared.TheVariants.{Intersection, MinimalGenerators}
use Rattle.sg_calls.specs.declared.operator.Operator.{Operator}
use Rattle.sg_calls.specs.declared.operator.Operator.TheVariants.{Plus, Less, Times, Mod, Eq, Ne, Lt, Le, Gt, Ge, Member}
use Rattle.sg_calls.proofs.EarlyLemmas.{early_nothing, late_fitted, late_given, late_or_else}

-- ---- lists

early_given : {A : Type 0} (o : Option A) (f : A → Case) → ((a : A) → early_of (f a) ≡ []) → early_of (given o f) ≡ []
early_given None f h = refl
early_given (Some a) f h = h a

-- the commands on lists and integers ask for nothing
pub lists_early : (c : ListCommand) (args : Items Things) → early_of (lists.case_of c args) ≡ []
lists_early (list_command.OfList f) args = early_nothing (one as_integers args) (lists.integers_row f)
lists_early (list_command.OfListOrIntegers f) args = early_nothing (list_or_integers args) (lists.integers_row f)
lists_early list_command.Length args = early_nothing (one as_list args) lists.length_row
lists_early list_command.Concatenation args = early_given (concatenated args) _ (λ ds. refl)

integers_late : (f : IntegersFact) (zs : List ℤ) → (lists.integers_row f zs).late ≡ []
integers_late integers_fact.Gcd zs = refl
integers_late integers_fact.Lcm zs = refl
integers_late integers_fact.Maximum zs = refl
integers_late integers_fact.Minimum zs = refl
integers_late integers_fact.Sum zs = refl

pub lists_late : (c : ListCommand) (args : Items Things) → late_of (lists.case_of c args) ≡ []
lists_late (list_command.OfList f) args = late_fitted (one as_integers args) nothing (lists.integers_row f) (integers_late f)
lists_late (list_command.OfListOrIntegers f) args = late_fitted (list_or_integers args) nothing (lists.integers_row f) (integers_late f)
lists_late list_command.Length args = late_fitted (one as_list args) nothing lists.length_row (λ ds. refl)
lists_late list_command.Concatenation args = late_given (concatenated args) _ (λ ds. refl)

-- ---- commands that make a semigroup

maker_late_of : (m : IntegersMaker) (zs : List ℤ) → (makers.integers_row m zs).late ≡ []
maker_late_of integers_maker.ByAperyList zs = refl
maker_late_of integers_maker.ByFundamentalGaps zs = refl
maker_late_of integers_maker.ByGaps zs = refl
maker_late_of integers_maker.ByGenerators zs = refl
maker_late_of integers_maker.BySmallElements zs = refl

pub makers_late : (m : Maker) (args : Items Things) → late_of (makers.case_of m args) ≡ []
makers_late (maker.OfList m) args = late_fitted (one as_integers args) nothing (makers.integers_row m) (maker_late_of m)
makers_late (maker.OfListOrIntegers m) args = late_fitted (list_or_integers args) nothing (makers.integers_row m) (maker_late_of m)
makers_late maker.Modular args = late_fitted (two two_integers args) nothing _ (λ p. refl)
makers_late maker.ProportionallyModular args = late_fitted (three three_integers args) nothing _ (λ p. refl)
makers_late maker.Intersection args = late_fitted (two two_semigroups args) _ _ (λ p. refl)
makers_late maker.Quotient args = late_fitted (two (λ a b. integer_then_semigroup b a) args) _ _ (λ p. refl)

-- ---- facts

generators_late : (f : GeneratorsFact) (G : List ℕ) → (facts.generators_row f G).late ≡ []
generators_late generators.EmbeddingDimension G = refl
generators_late generators.MinimalGenerators G = refl
generators_late generators.Multiplicity G = refl

table_late : (f : TableFact) (G : List ℕ) → (facts.table_row f G).late ≡ []
table_late table.AperyList G = refl
table_late table.Conductor G = refl
table_late table.FrobeniusNumber G = refl
table_late table.FundamentalGaps G = refl
table_late table.Gaps G = refl
table_late table.Genus G = refl
table_late table.SmallElements G = refl

numbers_late : (f : NumbersFact) (G : List ℕ) → (facts.numbers_row f G).late ≡ []
numbers_late numbers.PseudoFrobenius G = refl
numbers_late numbers.Type G = refl

both_late : (f : BothFact) (G : List ℕ) → (facts.both_row f G).late ≡ []
both_late both_fact.SpecialGaps G = refl

pub facts_late : (f : Fact) (args : Items Things) → late_of (facts.case_of f args) ≡ []
facts_late (fact.OfGenerators f) args = late_fitted (one as_semigroup args) _ (facts.generators_row f) (generators_late f)
facts_late (fact.OfTable f) args = late_fitted (one as_semigroup args) _ (facts.table_row f) (table_late f)
facts_late (fact.OfNumbers f) args = late_fitted (one as_semigroup args) _ (facts.numbers_row f) (numbers_late f)
facts_late (fact.OfBoth f) args = late_fitted (one as_semigroup args) _ (facts.both_row f) (both_late f)
facts_late fact.AperyList args =
    late_or_else (of_semigroup (apery_table ∷ []) args (facts.table_row table.AperyList)) (of_semigroup_and_integer (apery_table ∷ []) args facts.apery_modulo_row)
    (late_fitted (one as_semigroup args) (λ G. asked_of (apery_table ∷ []) (G ∷ [])) (facts.table_row table.AperyList) (table_late table.AperyList))
    (late_fitted (two semigroup_and_integer args) (λ p. asked_of (apery_table ∷ []) (p.0 ∷ [])) (λ p. facts.apery_modulo_row p.0 p.1) (λ p. refl))

-- ---- shapes

test_late : (t : GeneratorsTest) (G : List ℕ) → (shapes.generators_row t G).late ≡ []
test_late generators_test.IsMED G = refl

table_test_late : (t : TableTest) (G : List ℕ) → (shapes.table_row t G).late ≡ []
table_test_late table_test.IsArf G = refl
table_test_late table_test.IsIrreducible G = refl
table_test_late table_test.IsPseudoSymmetric G = refl
table_test_late table_test.IsSaturated G = refl
table_test_late table_test.IsSymmetric G = refl

decomposition_late : (p : Decomposition) (G : List ℕ) → (shapes.decomposition_row p G).late ≡ []
decomposition_late decomposition.IntoIrreducibles G = refl

pub shapes_late : (s : Shape) (args : Items Things) → late_of (shapes.case_of s args) ≡ []
shapes_late (shape.TestOfGenerators t) args = late_fitted (one as_semigroup args) _ (shapes.generators_row t) (test_late t)
shapes_late (shape.TestOfTable t) args = late_fitted (one as_semigroup args) _ (shapes.table_row t) (table_test_late t)
shapes_late (shape.Closure c) args = late_fitted (one as_semigroup args) _ (shapes.closure_row c) (λ G. refl)
shapes_late (shape.Decomposition p) args = late_fitted (one as_semigroup args) _ (shapes.decomposition_row p) (decomposition_late p)

-- ---- ideals

ideal_fact_late : (f : IdealFact) (I : _) → (fact_row f I).late ≡ []
ideal_fact_late ideal_fact.Ambient I = refl
ideal_fact_late ideal_fact.Generators I = refl

table_ideal_late : (i : TableIdeal) (G : List ℕ) → (ideals.table_row i G).late ≡ []
table_ideal_late table_ideal.Maximal G = refl

both_ideal_late : (i : BothIdeal) (G : List ℕ) → (ideals.both_row i G).late ≡ []
both_ideal_late both_ideal.Canonical G = refl

pub ideals_late : (c : IdealCommand) (args : Items Things) → late_of (ideals.case_of c args) ≡ []
ideals_late (ideal.OfIdeal f) args = late_fitted (one as_ideal args) _ (fact_row f) (ideal_fact_late f)
ideals_late (ideal.OfTable i) args = late_fitted (one as_semigroup args) _ (ideals.table_row i) (table_ideal_late i)
ideals_late (ideal.OfBoth i) args = late_fitted (one as_semigroup args) _ (ideals.both_row i) (both_ideal_late i)
ideals_late ideal.Generated args = late_fitted (two list_then_semigroup args) _ (λ p. generated_row p.0 p.1) (λ p. refl)
ideals_late (ideal.OfTwoIdeals p) args = late_fitted (two two_ideals args) _ (λ q. pair_row p q.0 q.1) (λ q. refl)

-- ---- factorizations

element_late : (f : ElementFact) (G : List ℕ) (x : ℤ) → (element_row f G x).late ≡ []
element_late element.CatenaryDegree G x = refl
element_late element.DeltaSet G x = refl
element_late element.Factorizations G x = refl
element_late element.Lengths G x = refl
element_late element.OmegaPrimality G x = refl

lengths_of_all_late : (f : AllLengths) (G : List ℕ) → (lengths_of_all_row f G).late ≡ []
lengths_of_all_late Elasticity G = refl

pub factorizations_late : (c : FactorizationCommand) (args : Items Things) → late_of (factorizations.case_of c args) ≡ []
factorizations_late (factorization.OfGenerators f) args = late_fitted (one as_semigroup args) _ (lengths_of_all_row f) (lengths_of_all_late f)
factorizations_late (factorization.OfElement f) args = late_fitted (two semigroup_and_integer args) _ (λ p. element_row f p.0 p.1) (λ p. element_late f p.0 p.1)
factorizations_late factorization.OmegaPrimality args =
    late_or_else (of_semigroup (apery_table ∷ []) args semigroup_omega_row) (of_semigroup_and_integer (apery_table ∷ []) args (element_row element.OmegaPrimality))
    (late_fitted (one as_semigroup args) (λ G. asked_of (apery_table ∷ []) (G ∷ [])) semigroup_omega_row (λ G. refl))
    (late_fitted (two semigroup_and_integer args) (λ p. asked_of (apery_table ∷ []) (p.0 ∷ [])) (λ p. element_row element.OmegaPrimality p.0 p.1) (λ p. refl))

-- ---- all commands, all operators

pub intersection_late : (args : Items Things) → late_of (shared_case Intersection args) ≡ []
intersection_late args = late_or_else (makers.case_of maker.Intersection args) (ideals.case_of (ideal.OfTwoIdeals pair.Intersection) args) (makers_late maker.Intersection args) (ideals_late (ideal.OfTwoIdeals pair.Intersection) args)

pub minimal_generators_late : (args : Items Things) → late_of (shared_case MinimalGenerators args) ≡ []
minimal_generators_late args = late_or_else (facts.case_of (fact.OfGenerators generators.MinimalGenerators) args) (ideals.case_of (ideal.OfIdeal ideal_fact.Generators) args) (facts_late (fact.OfGenerators generators.MinimalGenerators) args) (ideals_late (ideal.OfIdeal ideal_fact.Generators) args)

-- operators on integers ask for nothing
pub calculation_early : (op : Operator) (x y : ℤ) → early_of (calculation op x y) ≡ []
calculation_early Plus x y = refl
calculation_early Less x y = refl
calculation_early Times x y = refl
calculation_early Mod x y = refl
calculation_early Lt x y = refl
calculation_early Le x y = refl
calculation_early Gt x y = refl
calculation_early Ge x y = refl
calculation_early _ x y = refl

calculation_late : (op : Operator) (x y : ℤ) → late_of (calculation op x y) ≡ []
calculation_late Plus x y = refl
calculation_late Less x y = refl
calculation_late Times x y = refl
calculation_late Mod x y = refl
calculation_late Lt x y = refl
calculation_late Le x y = refl
calculation_late Gt x y = refl
calculation_late Ge x y = refl
calculation_late _ x y = refl

pub of_integers_early : (op : Operator) (a b : Plain) → early_of (of_integers op a b) ≡ []
of_integers_early op a b = early_given (two_integers a b) (λ p. calculation op p.0 p.1) (λ p. calculation_early op p.0 p.1)

of_integers_late : (op : Operator) (a b : Plain) → late_of (of_integers op a b) ≡ []
of_integers_late op a b = late_given (two_integers a b) (λ p. calculation op p.0 p.1) (λ p. calculation_late op p.0 p.1)

pairs_late : (p : _) (a b : Plain) → late_of (on_two_ideals (apery_table ∷ []) a b (pair_row p)) ≡ []
pairs_late p a b = late_fitted (two_ideals a b) _ (λ q. pair_row p q.0 q.1) (λ q. refl)

moved_late : (a b : Plain) → late_of (moved_or_generated a b) ≡ []
moved_late a b =
    late_or_else (on_integer_and_ideal (apery_table ∷ []) a b translate_row) (on_list_and_semigroup (apery_table ∷ []) a b generated_row)
    (late_fitted (integer_then_ideal a b) (λ p. asked_of (apery_table ∷ []) (p.1.ambient ∷ [])) (λ p. translate_row p.0 p.1) (λ p. refl))
    (late_fitted (list_then_semigroup a b) (λ p. asked_of (apery_table ∷ []) (p.1 ∷ [])) (λ p. generated_row p.0 p.1) (λ p. refl))

membership_late : (a b : Plain) → late_of (membership a b) ≡ []
membership_late a b =
    let in_semigroup = on_integer_and_semigroup (apery_table ∷ []) a b (λ x G. answers (whether (IsIntegerMember G x))) in
    let in_ideal = on_integer_and_ideal (apery_table ∷ []) a b member_row in
    late_or_else (fitted (as_list b) nothing (λ ds. answers (whether (IsEntry a ds)))) (or_else in_semigroup in_ideal) (late_fitted (as_list b) nothing (λ ds. answers (whether (IsEntry a ds))) (λ ds. refl))
    (late_or_else in_semigroup in_ideal
    (late_fitted (integer_then_semigroup a b) (λ p. asked_of (apery_table ∷ []) (p.1 ∷ [])) (λ p. answers (whether (IsIntegerMember p.1 p.0))) (λ p. refl))
    (late_fitted (integer_then_ideal a b) (λ p. asked_of (apery_table ∷ []) (p.1.ambient ∷ [])) (λ p. member_row p.0 p.1) (λ p. refl)))

-- no operator asks for anything late
pub operation_late : (n : ℕ) (op : Operator) (a b : Plain) → late_of (operation n op a b) ≡ []
operation_late n Eq a b = refl
operation_late n Ne a b = refl
operation_late n Member a b = membership_late a b
operation_late n Plus a b = late_or_else (of_integers Plus a b) (or_else (on_two_ideals (apery_table ∷ []) a b (pair_row pair.Sum)) (moved_or_generated a b)) (of_integers_late Plus a b)
    (late_or_else (on_two_ideals (apery_table ∷ []) a b (pair_row pair.Sum)) (moved_or_generated a b) (pairs_late pair.Sum a b) (moved_late a b))
operation_late n Less a b = late_or_else (of_integers Less a b) (on_two_ideals (apery_table ∷ []) a b (pair_row pair.Difference)) (of_integers_late Less a b) (pairs_late pair.Difference a b)
operation_late n Times a b = late_or_else (of_integers Times a b) (on_integer_and_ideal (apery_table ∷ []) a b multiple_row) (of_integers_late Times a b)
    (late_fitted (integer_then_ideal a b) (λ p. asked_of (apery_table ∷ []) (p.1.ambient ∷ [])) (λ p. multiple_row p.0 p.1) (λ p. refl))
operation_late n Mod a b = of_integers_late Mod a b
operation_late n Lt a b = of_integers_late Lt a b
operation_late n Le a b = of_integers_late Le a b
operation_late n Gt a b = of_integers_late Gt a b
operation_late n Ge a b = of_integers_late Ge a b
