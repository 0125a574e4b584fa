use Rattle.std.proofs.Common.{◌<◌, ◌^◌, Ok, get_or, length, ap, sym, subst, rules}
use Rattle.sg_defs.specs.Membership.{IsMultiplicity}
use Rattle.sg_rows.specs.Made.{Tells}
use Rattle.sg_rows.specs.declared.made.Made.TheVariants.{Natural}
use Rattle.sg_rows.proofs.Telling.{tells_natural, tells_this_natural}
use Rattle.sg_rows_invariants.specs.Facts.{generators_row}
use Rattle.sg_defs.proofs.MinimalLemmas.{first-multiplicity}
use Rattle.sg_rows_invariants.proofs.Bounds.{first-small}
use Rattle.sg_rows_invariants.proofs.fact.GeneratorsFactOfGenerators.tell.Goals as goal

pub returns-in-EmbeddingDimension : goal.returns-in-EmbeddingDimension
returns-in-EmbeddingDimension c =
    let n = length c.as_slice.result.now in
    let small : n < 2 ^ 63 = search rules in
    subst (λ f. Tells (Ok (Natural n)) (generators_row f c.args.generators.now)) (sym c.in-EmbeddingDimension.is)
    (tells_this_natural n (length c.args.generators.now) small (ap length c.as_slice.ensures))

pub returns-in-Multiplicity : goal.returns-in-Multiplicity
returns-in-Multiplicity c =
    let G = c.args.generators.now in
    let n = get_or c.as_slice-in-Multiplicity.result.now 0 0 in
    let first = subst (λ l. IsMultiplicity G (get_or l 0 0)) (sym c.as_slice-in-Multiplicity.ensures) (first-multiplicity G c.requires.semigroup c.requires.minimal) in
    let small = subst (λ l. get_or l 0 0 < 2 ^ 63) (sym c.as_slice-in-Multiplicity.ensures) (first-small G c.requires.fit) in
    subst (λ f. Tells (Ok (Natural n)) (generators_row f G)) (sym c.in-Multiplicity.is) (tells_natural (IsMultiplicity G) n small first)
