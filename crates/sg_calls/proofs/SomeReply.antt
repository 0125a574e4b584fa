-- Commands and operators have a reply, over what is lawful.
use Rattle.std.proofs.Common.{◌≡◌, ℕ, ℤ, pos, List, Option, Some, None, Err, refl, [], ◌∷◌}
use Rattle.std.specs.Prelude.{◌+ℤ◌, ◌-ℤ◌, ◌*ℤ◌, ◌≤ℤ◌, ◌<ℤ◌, ⊤}
use Rattle.std.specs.Int.{int_rem_euclid}
use Rattle.sg_value.specs.Plain.{Things}
use Rattle.sg_defs.specs.Membership.{IsIntegerMember}
use Rattle.sg_laws_invariants.proofs.Decisions.{decided-eq_z, decided-le_z, decided-lt_z, decided-not}
use Rattle.sg_laws_invariants.proofs.InvariantsExist.{integer_member-decided}
use Rattle.sg_value.specs.Data.{int, Items}
use Rattle.sg_rows.specs.Asks.{Asking, apery_table, nothing}
use Rattle.sg_rows.specs.Order.{Plain, Case, IsReply, AreAsked}
use Rattle.sg_rows.specs.Entries.{IsEntry, entry_count}
use Rattle.sg_rows.specs.Forms.{on_integer_and_semigroup, on_integer_and_ideal, on_list_and_semigroup, on_two_ideals}
use Rattle.sg_rows.specs.Kinds.{fitted, as_list, as_integer, two_integers}
use Rattle.sg_rows.specs.Lawful.{IsLawful, AreLawful, SomeReply}
use Rattle.sg_rows.specs.Values.{answers, an_integer, whether}
use Rattle.sg_rows.specs.declared.fault.Fault.{Fault}
use Rattle.sg_rows.proofs.Alternating.{or_else_some}
use Rattle.sg_rows.proofs.EqualData.{data-decided, entry-decided}
use Rattle.sg_rows.proofs.FormLaws.{on_integer_and_semigroup_some}
use Rattle.sg_rows.proofs.KindLemmas.{any_some}
use Rattle.sg_rows.proofs.SomeValue.{SomeValue, answers_some, bad_some, given_some, fitted_some, integer_some, is_some_value, reply_some, whether_some}
use Rattle.sg_rows_lists.proofs.SomeList.{list_some}
use Rattle.sg_rows_constructors.specs.Makers as makers
use Rattle.sg_rows_constructors.specs.declared.maker.Maker.TheVariants as maker
use Rattle.sg_rows_constructors.proofs.SomeMaker.{maker_some}
use Rattle.sg_rows_invariants.specs.Facts as facts
use Rattle.sg_rows_invariants.specs.declared.fact.Fact.TheVariants as fact
use Rattle.sg_rows_invariants.specs.declared.fact.GeneratorsFact.TheVariants as generators
use Rattle.sg_rows_invariants.proofs.SomeFact.{fact_some}
use Rattle.sg_rows_symmetry.proofs.SomeShape.{shape_some}
use Rattle.sg_rows_ideals.specs.Ideals as ideals
use Rattle.sg_rows_ideals.specs.Rows.{generated_row, member_row, multiple_row, pair_row, translate_row}
use Rattle.sg_rows_ideals.specs.declared.facts.IdealFact.TheVariants.{Generators}
use Rattle.sg_rows_ideals.specs.declared.ideals.IdealCommand.TheVariants.{OfIdeal, OfTwoIdeals}
use Rattle.sg_rows_ideals.specs.declared.pairs.Pair.TheVariants.{Difference, Sum}
use Rattle.sg_rows_ideals.specs.declared.pairs.Pair.TheVariants as pair
use Rattle.sg_rows_factorizations.proofs.SomeCommand.{command_some}
use Rattle.sg_rows_presentations.proofs.SomeCommand as presentations
use Rattle.sg_rows_tame.proofs.SomeCommand as tames
use Rattle.sg_rows_ideals.proofs.SomeIdeal.{ideal_some, pair_some, generated_some, multiple_some, translate_some, member_some}
use Rattle.sg_rows.proofs.AskLemmas.{some_asked}
use Rattle.sg_calls.specs.Laws.{Combines}
use Rattle.sg_calls.specs.Remainders.{IsRemainder}
use Rattle.sg_calls.proofs.Remainders.{remainder_is}
use Rattle.sg_calls.specs.Rows.{row}
use Rattle.sg_calls.specs.Operations.{operation, membership, moved_or_generated, calculation, of_integers, negation}
use Rattle.sg_calls.specs.Commands.{checked, command_named}
use Rattle.sg_calls.specs.Answers.{Answer, case_of, reply_unless}
use Rattle.sg_rows_factorizations.specs.Commands as factorization_commands
use Rattle.sg_rows_factorizations.specs.declared.command.FactorizationCommand.TheVariants.{OfElement}
use Rattle.sg_rows_factorizations.specs.declared.element.ElementFact.TheVariants as element
use Rattle.sg_rows_presentations.specs.Commands as presentation_commands
use Rattle.sg_rows_presentations.specs.declared.command.PresentationCommand.TheVariants.{OfPresentation}
use Rattle.sg_rows_presentations.specs.declared.fact.PresentationFact.TheVariants as presentation
use Rattle.sg_calls.specs.declared.command.Command.{Command}
use Rattle.sg_calls.specs.declared.command.Command.TheVariants.{Lists, Makers, Facts, Shapes, Ideals, Factorizations, Presentations, Tames, Shared}
use Rattle.sg_calls.specs.declared.command.Shared.TheVariants.{CatenaryDegree, Intersection, MinimalGenerators}
use Rattle.sg_calls.specs.declared.operator.Operator.{Operator}
use Rattle.sg_calls.specs.declared.operator.Operator.TheVariants.{Plus, Less, Times, Mod, Eq, Ne, Lt, Le, Gt, Ge, Member}

-- ---- operators

calculation_some : (op : Operator) (x y : ℤ) → SomeValue (calculation op x y)
calculation_some Plus x y = answers_some _ (is_some_value (int (x +ℤ y)) tt)
calculation_some Less x y = answers_some _ (is_some_value (int (x -ℤ y)) tt)
calculation_some Times x y = answers_some _ (is_some_value (int (x *ℤ y)) tt)
calculation_some Mod x y = bad_some (y ≡ pos 0) (an_integer (IsRemainder x y)) (decided-eq_z y (pos 0)) (λ some. integer_some (IsRemainder x y) (int_rem_euclid x y, remainder_is x y some))
calculation_some Lt x y = answers_some _ (whether_some (x <ℤ y) (decided-lt_z x y))
calculation_some Le x y = answers_some _ (whether_some (x ≤ℤ y) (decided-le_z x y))
calculation_some Gt x y = answers_some _ (whether_some (y <ℤ x) (decided-lt_z y x))
calculation_some Ge x y = answers_some _ (whether_some (y ≤ℤ x) (decided-le_z y x))
calculation_some _ x y = tt

of_integers_some : (op : Operator) (a b : Plain) → SomeValue (of_integers op a b)
of_integers_some op a b = given_some (λ p. ⊤) (two_integers a b) (λ p. calculation op p.0 p.1) (any_some (two_integers a b)) (λ p l. calculation_some op p.0 p.1)

membership_some : (a b : Plain) → IsLawful b → SomeValue (membership a b)
membership_some a b l =
    let of_semigroup = on_integer_and_semigroup (apery_table ∷ []) a b (λ x G. answers (whether (IsIntegerMember G x))) in
    or_else_some (fitted (as_list b) nothing (λ ds. answers (whether (IsEntry a ds)))) _
    (fitted_some (λ ds. ⊤) (as_list b) nothing (λ ds. answers (whether (IsEntry a ds))) (any_some (as_list b)) (λ ds u. answers_some _ (whether_some (IsEntry a ds) (entry-decided a ds))))
    (or_else_some of_semigroup (on_integer_and_ideal (apery_table ∷ []) a b member_row)
    (on_integer_and_semigroup_some (apery_table ∷ []) (λ x G. answers (whether (IsIntegerMember G x))) (λ x G g. answers_some _ (whether_some (IsIntegerMember G x) (integer_member-decided G x))) a b l)
    (member_some (apery_table ∷ []) a b l))

moved_some : (a b : Plain) → IsLawful b → SomeValue (moved_or_generated a b)
moved_some a b l = or_else_some (on_integer_and_ideal (apery_table ∷ []) a b translate_row) (on_list_and_semigroup (apery_table ∷ []) a b generated_row) (translate_some (apery_table ∷ []) a b l) (generated_some (apery_table ∷ []) a b l)

operation_some : (n : ℕ) (op : Operator) (a b : Plain) → IsLawful a → IsLawful b → SomeValue (operation n op a b)
operation_some n Eq a b l m = answers_some _ (whether_some (a ≡ b) (data-decided a b))
operation_some n Ne a b l m = answers_some _ (whether_some (a ≡ b → ⊥) (decided-not (a ≡ b) (data-decided a b)))
operation_some n Member a b l m = membership_some a b m
operation_some n Plus a b l m = or_else_some (of_integers Plus a b) _ (of_integers_some Plus a b) (or_else_some (on_two_ideals (apery_table ∷ []) a b (pair_row Sum)) (moved_or_generated a b) (pair_some (apery_table ∷ []) Sum a b l m) (moved_some a b m))
operation_some n Less a b l m = or_else_some (of_integers Less a b) (on_two_ideals (apery_table ∷ []) a b (pair_row Difference)) (of_integers_some Less a b) (pair_some (apery_table ∷ []) Difference a b l m)
operation_some n Times a b l m = or_else_some (of_integers Times a b) (on_integer_and_ideal (apery_table ∷ []) a b multiple_row) (of_integers_some Times a b) (multiple_some (apery_table ∷ []) a b m)
operation_some n Mod a b l m = of_integers_some Mod a b
operation_some n Lt a b l m = of_integers_some Lt a b
operation_some n Le a b l m = of_integers_some Le a b
operation_some n Gt a b l m = of_integers_some Gt a b
operation_some n Ge a b l m = of_integers_some Ge a b

-- with a reply, and what is asked for on the way to it
pub asked_for : (c : Case) → SomeReply (IsReply c) → SomeReply (λ r. (asked : List Asking) × (IsReply c r × AreAsked c asked))
asked_for c h = let a = some_asked c h.0 h.1 in (h.0, (a.0, (h.1, a.1)), h.2)

-- an operator has a reply
pub operators_some : (n : ℕ) (op : Operator) (a b : Plain) → IsLawful a → IsLawful b → SomeReply (λ r. (asked : List Asking) × Combines n op a b r asked)
operators_some n op a b l m = asked_for (operation n op a b) (reply_some (operation n op a b) (operation_some n op a b l m))

-- the minus sign has one
pub sign_some : (a : Plain) → SomeReply (IsReply (negation a))
sign_some a = reply_some (negation a) (fitted_some (λ x. ⊤) (as_integer a) nothing _ (any_some (as_integer a)) (λ x l. answers_some _ (is_some_value (int (pos 0 -ℤ x)) tt)))

-- ---- commands

-- the row of a command has a value
pub row_some : (n : ℕ) (c : Command) (args : Items Things) → AreLawful args → SomeValue (row n c args)
row_some n (Lists c) args l = list_some c args l
row_some n (Makers c) args l = maker_some c args l
row_some n (Facts c) args l = fact_some c args l
row_some n (Shapes c) args l = shape_some c args l
row_some n (Ideals c) args l = ideal_some c args l
row_some n (Factorizations c) args l = command_some c args l
row_some n (Presentations c) args l = presentations.command_some c args l
row_some n (Tames c) args l = tames.command_some c args l
row_some n (Shared CatenaryDegree) args l =
    let of_semigroup = OfPresentation presentation.CatenaryDegree in
    let of_element = OfElement element.CatenaryDegree in
    or_else_some (presentation_commands.case_of of_semigroup args) (factorization_commands.case_of of_element args) (presentations.command_some of_semigroup args l) (command_some of_element args l)
row_some n (Shared Intersection) args l =
    or_else_some (makers.case_of maker.Intersection args) (ideals.case_of (OfTwoIdeals pair.Intersection) args) (maker_some maker.Intersection args l) (ideal_some (OfTwoIdeals pair.Intersection) args l)
row_some n (Shared MinimalGenerators) args l =
    let of_semigroup = fact.OfGenerators generators.MinimalGenerators in
    or_else_some (facts.case_of of_semigroup args) (ideals.case_of (OfIdeal Generators) args) (fact_some of_semigroup args l) (ideal_some (OfIdeal Generators) args l)

case_some : (n : ℕ) (c : Option Command) (args : Items Things) → AreLawful args → SomeValue (case_of n c args)
case_some n None args h = tt
case_some n (Some c) args h = row_some n c args h

unless_some : (n : ℕ) (o : Option Fault) (args : Items Things) (c : Option Command) → AreLawful args → SomeReply (λ r. (asked : List Asking) × reply_unless n o args c r asked)
unless_some n (Some e) args c h = (Err e, ([], (refl, refl)), tt)
unless_some n None args c h = asked_for (case_of n c args) (reply_some (case_of n c args) (case_some n c args h))

-- a command has a reply
pub commands_some : (n : ℕ) (name : List ℕ) (args : Items Things) → AreLawful args → SomeReply (λ r. (asked : List Asking) × Answer n name args r asked)
commands_some n name args h = unless_some n (checked name (entry_count args)) args (command_named name) h
