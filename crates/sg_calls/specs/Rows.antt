-- Which row answers which command.
use Rattle.std.specs.Prelude.{ℕ}
use Rattle.sg_value.specs.Plain.{Things}
use Rattle.sg_value.specs.Data.{Items}
use Rattle.sg_rows.specs.Alternatives.{or_else}
use Rattle.sg_rows.specs.Order.{Case}
use Rattle.sg_rows_lists.specs.Lists as lists
use Rattle.sg_rows_constructors.specs.Makers as makers
use Rattle.sg_rows_constructors.specs.declared.maker.Maker.TheVariants as maker
use Rattle.sg_rows_invariants.specs.Facts as facts
use Rattle.sg_rows_invariants.specs.declared.fact.Fact.TheVariants as fact
use Rattle.sg_rows_invariants.specs.declared.fact.GeneratorsFact.TheVariants as generators
use Rattle.sg_rows_symmetry.specs.Shapes as shapes
use Rattle.sg_rows_ideals.specs.Ideals as ideals
use Rattle.sg_rows_factorizations.specs.Commands as factorizations
use Rattle.sg_rows_factorizations.specs.declared.command.FactorizationCommand.TheVariants.{OfElement}
use Rattle.sg_rows_factorizations.specs.declared.element.ElementFact.TheVariants as element
use Rattle.sg_rows_presentations.specs.Commands as presentations
use Rattle.sg_rows_tame.specs.Commands as tames
use Rattle.sg_rows_presentations.specs.declared.command.PresentationCommand.TheVariants.{OfPresentation}
use Rattle.sg_rows_presentations.specs.declared.fact.PresentationFact.TheVariants as presentation
use Rattle.sg_rows_ideals.specs.declared.facts.IdealFact.TheVariants.{Generators}
use Rattle.sg_rows_ideals.specs.declared.ideals.IdealCommand.TheVariants.{OfIdeal, OfTwoIdeals}
use Rattle.sg_rows_ideals.specs.declared.pairs.Pair.TheVariants as pair
use Rattle.sg_calls.specs.declared.command.Command.{Command}
use Rattle.sg_calls.specs.declared.command.Command.TheVariants.{Lists, Makers, Facts, Shapes, Ideals, Factorizations, Presentations, Tames}
use Rattle.sg_calls.specs.declared.command.Command.TheVariants as command
use Rattle.sg_calls.specs.declared.command.Shared.{Shared}
use Rattle.sg_calls.specs.declared.command.Shared.TheVariants.{CatenaryDegree, Intersection, MinimalGenerators}

-- what a command that semigroups have in common with ideals or with elements says of arguments, first of semigroups
abbrev pub shared_case : Shared → Items Things → Case
shared_case CatenaryDegree args = or_else (presentations.case_of (OfPresentation presentation.CatenaryDegree) args) (factorizations.case_of (OfElement element.CatenaryDegree) args)
shared_case Intersection args = or_else (makers.case_of maker.Intersection args) (ideals.case_of (OfTwoIdeals pair.Intersection) args)
shared_case MinimalGenerators args = or_else (facts.case_of (fact.OfGenerators generators.MinimalGenerators) args) (ideals.case_of (OfIdeal Generators) args)

-- what the row of a command says of arguments, within a budget of steps that no row counts yet
abbrev pub row : ℕ → Command → Items Things → Case
row budget (Lists c) args = lists.case_of c args
row budget (Makers c) args = makers.case_of c args
row budget (Facts c) args = facts.case_of c args
row budget (Shapes c) args = shapes.case_of c args
row budget (Ideals c) args = ideals.case_of c args
row budget (Factorizations c) args = factorizations.case_of c args
row budget (Presentations c) args = presentations.case_of c args
row budget (Tames c) args = tames.case_of c args
row budget (command.Shared s) args = shared_case s args
