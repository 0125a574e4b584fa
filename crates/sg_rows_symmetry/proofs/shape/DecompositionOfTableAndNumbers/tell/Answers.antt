use Rattle.std.proofs.Common.{ℕ, List, Ok, refl}
use Rattle.sg_defs.specs.Decomposition.{IsDecomposition}
use Rattle.sg_lawful.specs.Lawful.{IsLawfulList}
use Rattle.sg_rows.specs.Made.{Tells}
use Rattle.sg_rows.specs.declared.made.Made.TheVariants.{Semigroups}
use Rattle.sg_lawful.specs.Spans.{IsShort}
use Rattle.sg_rows.specs.Values.{semigroups_with}
use Rattle.sg_rows.proofs.Spans.{spanned_pass}
use Rattle.sg_rows_symmetry.specs.Shapes.{decomposition_row}
use Rattle.sg_rows_symmetry.specs.declared.shape.Decomposition.{Decomposition}
use Rattle.sg_rows_symmetry.specs.declared.shape.Decomposition.TheVariants.{IntoIrreducibles}
use Rattle.sg_rows_symmetry.proofs.Parts.{parts-lawful}
use Rattle.sg_rows_symmetry.proofs.shape.DecompositionOfTableAndNumbers.tell.Goals as goal

tells_parts : (G : List ℕ) (L : List (List ℕ)) → IsLawfulList G → IsShort G → IsDecomposition G L → (p : Decomposition) → Tells (Ok (Semigroups L)) (decomposition_row p G)
tells_parts G L own short parts IntoIrreducibles = (record { passes = spanned_pass G (semigroups_with (IsDecomposition G)) short; value = (L, refl, parts) }, parts-lawful G own short L parts)

pub returns : goal.returns
returns c =
    let G = c.args.table.now in
    let own : IsLawfulList G = record { semigroup = c.generators-minimal.ensures.semigroup; minimal = c.generators-minimal.ensures.minimal; fit = c.generators-minimal.ensures.fit } in
    tells_parts G c.in_ok-decompose.field-0 own (c.is_wide.ensures.short c.if-is_wide.false) c.in_ok-decompose.ensures.decomposition c.args.self
