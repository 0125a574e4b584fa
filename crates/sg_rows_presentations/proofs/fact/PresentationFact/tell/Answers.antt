use Rattle.std.proofs.Common.{Ok, sym, subst}
use Rattle.std.specs.Prelude.{All}
use Rattle.sg_rows.specs.Made.{Tells, AreWithinBits}
use Rattle.sg_rows.specs.Order.{Passes}
use Rattle.sg_rows.specs.declared.made.Made.TheVariants.{Natural, Naturals, VectorLists}
use Rattle.sg_rows_presentations.specs.Rows.{presentation_row}
use Rattle.sg_rows_presentations.proofs.Bounds.{catenary-small, elements-small, listed-betti, max_delta-sound, sides-small}
use Rattle.sg_rows_presentations.proofs.Telling.{not_refused, tells_degree, tells_elements, tells_greatest, tells_sides}
use Rattle.sg_rows_presentations.proofs.fact.PresentationFact.tell.Goals as goal

pub returns-in_ok-elements_of-in-BettiElements : goal.returns-in_ok-elements_of-in-BettiElements
returns-in_ok-elements_of-in-BettiElements c =
    let G = c.args.table.now in
    let own = c.generators-generators.ensures in
    let ns = c.in_ok-elements_of-in-BettiElements.field-0 in
    let P = c.args.presentation.now in
    let within = not_refused c.args.self G own.semigroup c.requires.passes in
    let betti = listed-betti G P ns own.semigroup c.requires.canonical c.in_ok-elements_of-in-BettiElements.ensures in
    subst (λ f. Tells (Ok (Naturals ns)) (presentation_row f G)) (sym c.in-BettiElements.is)
    (tells_elements G ns (subst (λ f. Passes (presentation_row f G)) c.in-BettiElements.is c.requires.passes) (elements-small G own.semigroup own.minimal within ns betti) betti)

pub returns-in_ok-sides_of-in-MinimalPresentation : goal.returns-in_ok-sides_of-in-MinimalPresentation
returns-in_ok-sides_of-in-MinimalPresentation c =
    let G = c.args.table.now in
    let own = c.generators-generators.ensures in
    let ls = c.in_ok-sides_of-in-MinimalPresentation.field-0 in
    let P = c.args.presentation.now in
    let within = not_refused c.args.self G own.semigroup c.requires.passes in
    let small = subst (All (All AreWithinBits)) (sym c.in_ok-sides_of-in-MinimalPresentation.ensures) (sides-small G own.semigroup own.minimal within P c.requires.canonical) in
    subst (λ f. Tells (Ok (VectorLists ls)) (presentation_row f G)) (sym c.in-MinimalPresentation.is)
    (tells_sides G ls (subst (λ f. Passes (presentation_row f G)) c.in-MinimalPresentation.is c.requires.passes) small (P, c.requires.canonical, c.in_ok-sides_of-in-MinimalPresentation.ensures))

pub catenary-requires-clause-presentable : goal.catenary-requires-clause-presentable
catenary-requires-clause-presentable c = not_refused c.args.self c.args.table.now c.generators-generators.ensures.semigroup c.requires.passes

pub max_delta-requires-clause-presentable : goal.max_delta-requires-clause-presentable
max_delta-requires-clause-presentable c = not_refused c.args.self c.args.table.now c.generators-generators.ensures.semigroup c.requires.passes

pub returns-in_ok-catenary-in-CatenaryDegree : goal.returns-in_ok-catenary-in-CatenaryDegree
returns-in_ok-catenary-in-CatenaryDegree c =
    let G = c.args.table.now in
    let own = c.generators-generators.ensures in
    let n = c.in_ok-catenary-in-CatenaryDegree.field-0 in
    let degree = c.in_ok-catenary-in-CatenaryDegree.ensures in
    let within = not_refused c.args.self G own.semigroup c.requires.passes in
    subst (λ f. Tells (Ok (Natural n)) (presentation_row f G)) (sym c.in-CatenaryDegree.is)
    (tells_degree G n (subst (λ f. Passes (presentation_row f G)) c.in-CatenaryDegree.is c.requires.passes) (catenary-small G own.semigroup own.minimal within n degree) degree)

pub returns-in_ok-max_delta-in-MaximumDelta : goal.returns-in_ok-max_delta-in-MaximumDelta
returns-in_ok-max_delta-in-MaximumDelta c =
    let G = c.args.table.now in
    let own = c.generators-generators.ensures in
    let r = c.in_ok-max_delta-in-MaximumDelta.field-0 in
    let greatest = c.in_ok-max_delta-in-MaximumDelta.ensures in
    let m = c.delta_or_fail.result in
    let within = not_refused c.args.self G own.semigroup c.requires.passes in
    subst (λ f. Tells (Ok m) (presentation_row f G)) (sym c.in-MaximumDelta.is)
    (tells_greatest G r m c.delta_or_fail.ensures (subst (λ f. Passes (presentation_row f G)) c.in-MaximumDelta.is c.requires.passes) (max_delta-sound G own.semigroup own.minimal within r greatest) greatest)
