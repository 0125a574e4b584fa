-- Commands and operators have one reply.
use Rattle.std.proofs.Common.{◌≡◌, ℕ, ℤ, List, Option, Some, None, sym, ◌∙◌, [], ◌∷◌}
use Rattle.sg_value.specs.Plain.{Things}
use Rattle.sg_defs.specs.Membership.{IsIntegerMember}
use Rattle.sg_value.specs.Data.{Items}
use Rattle.sg_rows.specs.Asks.{Asking, apery_table, nothing}
use Rattle.sg_rows.specs.Order.{Plain, Reply, IsReply}
use Rattle.sg_rows.specs.Entries.{IsEntry, entry_count}
use Rattle.sg_rows.specs.Forms.{on_integer_and_semigroup, on_integer_and_ideal, on_list_and_semigroup, on_two_ideals}
use Rattle.sg_rows.specs.Kinds.{fitted, as_list, as_integer, two_integers}
use Rattle.sg_rows.specs.Values.{answers, whether}
use Rattle.sg_rows.specs.declared.fault.Fault.{Fault}
use Rattle.sg_rows.proofs.Alternating.{or_else_one}
use Rattle.sg_rows.proofs.FormLaws.{on_integer_and_semigroup_one}
use Rattle.sg_rows.proofs.OneValue.{One, OneValue, reply_one, given_one, fitted_one, is_one, integer_one, whether_one}
use Rattle.sg_rows_lists.proofs.OneList.{list_one}
use Rattle.sg_rows_constructors.specs.Makers as makers
use Rattle.sg_rows_constructors.specs.declared.maker.Maker.TheVariants as maker
use Rattle.sg_rows_constructors.proofs.OneMaker.{maker_one}
use Rattle.sg_rows_invariants.specs.Facts as facts
use Rattle.sg_rows_invariants.specs.declared.fact.Fact.TheVariants as fact
use Rattle.sg_rows_invariants.specs.declared.fact.GeneratorsFact.TheVariants as generators
use Rattle.sg_rows_invariants.proofs.OneFact.{fact_one}
use Rattle.sg_rows_symmetry.proofs.OneShape.{shape_one}
use Rattle.sg_rows_ideals.specs.Ideals as ideals
use Rattle.sg_rows_ideals.specs.Rows.{generated_row, member_row, multiple_row, pair_row, translate_row}
use Rattle.sg_rows_ideals.specs.declared.facts.IdealFact.TheVariants.{Generators}
use Rattle.sg_rows_ideals.specs.declared.ideals.IdealCommand.TheVariants.{OfIdeal, OfTwoIdeals}
use Rattle.sg_rows_ideals.specs.declared.pairs.Pair.TheVariants.{Difference, Sum}
use Rattle.sg_rows_ideals.specs.declared.pairs.Pair.TheVariants as pair
use Rattle.sg_rows_ideals.proofs.OneIdeal.{ideal_one, pair_one, generated_one, multiple_one, translate_one, member_one}
use Rattle.sg_rows_factorizations.proofs.OneCommand.{command_one}
use Rattle.sg_rows_presentations.proofs.OneCommand as presentations
use Rattle.sg_rows_tame.proofs.OneCommand as tames
use Rattle.sg_rows.proofs.AskLemmas.{one_asked}
use Rattle.sg_calls.specs.Laws.{Combines}
use Rattle.sg_calls.specs.Remainders.{IsRemainder}
use Rattle.sg_calls.proofs.Remainders.{remainder_one}
use Rattle.sg_calls.specs.Rows.{row}
use Rattle.sg_calls.specs.Operations.{operation, membership, moved_or_generated, calculation, of_integers, negation}
use Rattle.sg_calls.specs.Commands.{checked, command_named}
use Rattle.sg_calls.specs.Answers.{Answer, case_of, reply_unless}
use Rattle.sg_rows_factorizations.specs.Commands as factorization_commands
use Rattle.sg_rows_factorizations.specs.declared.command.FactorizationCommand.TheVariants.{OfElement}
use Rattle.sg_rows_factorizations.specs.declared.element.ElementFact.TheVariants as element
use Rattle.sg_rows_presentations.specs.Commands as presentation_commands
use Rattle.sg_rows_presentations.specs.declared.command.PresentationCommand.TheVariants.{OfPresentation}
use Rattle.sg_rows_presentations.specs.declared.fact.PresentationFact.TheVariants as presentation
use Rattle.sg_calls.specs.declared.command.Command.{Command}
use Rattle.sg_calls.specs.declared.command.Command.TheVariants.{Lists, Makers, Facts, Shapes, Ideals, Factorizations, Presentations, Tames, Shared}
use Rattle.sg_calls.specs.declared.command.Shared.TheVariants.{CatenaryDegree, Intersection, MinimalGenerators}
use Rattle.sg_calls.specs.declared.operator.Operator.{Operator}
use Rattle.sg_calls.specs.declared.operator.Operator.TheVariants.{Plus, Less, Times, Mod, Eq, Ne, Lt, Le, Gt, Ge, Member}

-- ---- operators

calculation_one : (op : Operator) (x y : ℤ) → OneValue (calculation op x y)
calculation_one Plus x y = is_one _
calculation_one Less x y = is_one _
calculation_one Times x y = is_one _
calculation_one Mod x y = integer_one (IsRemainder x y) (remainder_one x y)
calculation_one Lt x y = whether_one _
calculation_one Le x y = whether_one _
calculation_one Gt x y = whether_one _
calculation_one Ge x y = whether_one _
calculation_one _ x y = tt

of_integers_one : (op : Operator) (a b : Plain) → OneValue (of_integers op a b)
of_integers_one op a b = given_one (two_integers a b) (λ p. calculation op p.0 p.1) (λ p. calculation_one op p.0 p.1)

membership_one : (a b : Plain) → OneValue (membership a b)
membership_one a b =
    let of_semigroup = on_integer_and_semigroup (apery_table ∷ []) a b (λ x G. answers (whether (IsIntegerMember G x))) in
    or_else_one (fitted (as_list b) nothing (λ ds. answers (whether (IsEntry a ds)))) _ (fitted_one (as_list b) nothing (λ ds. answers (whether (IsEntry a ds))) (λ ds. whether_one (IsEntry a ds)))
    (or_else_one of_semigroup (on_integer_and_ideal (apery_table ∷ []) a b member_row) (on_integer_and_semigroup_one (apery_table ∷ []) (λ x G. answers (whether (IsIntegerMember G x))) (λ x G. whether_one (IsIntegerMember G x)) a b) (member_one (apery_table ∷ []) a b))

moved_one : (a b : Plain) → OneValue (moved_or_generated a b)
moved_one a b = or_else_one (on_integer_and_ideal (apery_table ∷ []) a b translate_row) (on_list_and_semigroup (apery_table ∷ []) a b generated_row) (translate_one (apery_table ∷ []) a b) (generated_one (apery_table ∷ []) a b)

operation_one : (n : ℕ) (op : Operator) (a b : Plain) → OneValue (operation n op a b)
operation_one n Eq a b = whether_one _
operation_one n Ne a b = whether_one _
operation_one n Member a b = membership_one a b
operation_one n Plus a b = or_else_one (of_integers Plus a b) _ (of_integers_one Plus a b) (or_else_one (on_two_ideals (apery_table ∷ []) a b (pair_row Sum)) (moved_or_generated a b) (pair_one (apery_table ∷ []) Sum a b) (moved_one a b))
operation_one n Less a b = or_else_one (of_integers Less a b) (on_two_ideals (apery_table ∷ []) a b (pair_row Difference)) (of_integers_one Less a b) (pair_one (apery_table ∷ []) Difference a b)
operation_one n Times a b = or_else_one (of_integers Times a b) (on_integer_and_ideal (apery_table ∷ []) a b multiple_row) (of_integers_one Times a b) (multiple_one (apery_table ∷ []) a b)
operation_one n Mod a b = of_integers_one Mod a b
operation_one n Lt a b = of_integers_one Lt a b
operation_one n Le a b = of_integers_one Le a b
operation_one n Gt a b = of_integers_one Gt a b
operation_one n Ge a b = of_integers_one Ge a b

-- an operator has one reply, on the way to which the same is asked for
pub operators_one : (n : ℕ) (op : Operator) (a b : Plain) → One (IsReply (operation n op a b))
operators_one n op a b = reply_one (operation n op a b) (operation_one n op a b)

pub combines_one : (n : ℕ) (op : Operator) (a b : Plain) (r s : Reply) (xs ys : List Asking) → Combines n op a b r xs → Combines n op a b s ys → (r ≡ s) × (xs ≡ ys)
combines_one n op a b r s xs ys h k = (operators_one n op a b r s h.0 k.0, one_asked (operation n op a b) xs ys h.1 k.1)

-- the minus sign has one
pub sign_one : (a : Plain) → One (IsReply (negation a))
sign_one a = reply_one (negation a) (fitted_one (as_integer a) nothing _ (λ x. is_one _))

-- ---- commands

-- the row of a command has at most one value
pub row_one : (n : ℕ) (c : Command) (args : Items Things) → OneValue (row n c args)
row_one n (Lists c) args = list_one c args
row_one n (Makers c) args = maker_one c args
row_one n (Facts c) args = fact_one c args
row_one n (Shapes c) args = shape_one c args
row_one n (Ideals c) args = ideal_one c args
row_one n (Factorizations c) args = command_one c args
row_one n (Presentations c) args = presentations.command_one c args
row_one n (Tames c) args = tames.command_one c args
row_one n (Shared CatenaryDegree) args =
    let of_semigroup = OfPresentation presentation.CatenaryDegree in
    let of_element = OfElement element.CatenaryDegree in
    or_else_one (presentation_commands.case_of of_semigroup args) (factorization_commands.case_of of_element args) (presentations.command_one of_semigroup args) (command_one of_element args)
row_one n (Shared Intersection) args =
    or_else_one (makers.case_of maker.Intersection args) (ideals.case_of (OfTwoIdeals pair.Intersection) args) (maker_one maker.Intersection args) (ideal_one (OfTwoIdeals pair.Intersection) args)
row_one n (Shared MinimalGenerators) args =
    let of_semigroup = fact.OfGenerators generators.MinimalGenerators in
    or_else_one (facts.case_of of_semigroup args) (ideals.case_of (OfIdeal Generators) args) (fact_one of_semigroup args) (ideal_one (OfIdeal Generators) args)

case_one : (n : ℕ) (c : Option Command) (args : Items Things) → OneValue (case_of n c args)
case_one n None args = tt
case_one n (Some c) args = row_one n c args

unless_one : (n : ℕ) (o : Option Fault) (args : Items Things) (c : Option Command) (r s : Reply) (xs ys : List Asking)
    → reply_unless n o args c r xs → reply_unless n o args c s ys → (r ≡ s) × (xs ≡ ys)
unless_one n (Some e) args c r s xs ys p q = (p.0 ∙ sym q.0, p.1 ∙ sym q.1)
unless_one n None args c r s xs ys p q = (reply_one (case_of n c args) (case_one n c args) r s p.0 q.0, one_asked (case_of n c args) xs ys p.1 q.1)

-- a command has one reply, on the way to which the same is asked for
pub commands_one : (n : ℕ) (name : List ℕ) (args : Items Things) (r s : Reply) (xs ys : List Asking) → Answer n name args r xs → Answer n name args s ys → (r ≡ s) × (xs ≡ ys)
commands_one n name args r s xs ys p q = unless_one n (checked name (entry_count args)) args (command_named name) r s xs ys p q
