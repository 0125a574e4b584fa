use Rattle.std.proofs.Common.{get_or, Ok, sym, subst}
use Rattle.sg_defs.specs.Apery.{IsApery}
use Rattle.sg_rows.specs.Made.{Tells}
use Rattle.sg_rows.specs.declared.made.Made.TheVariants.{Naturals}
use Rattle.sg_rows.proofs.Telling.{tells_naturals}
use Rattle.sg_rows_invariants.specs.Facts.{IsOwnApery, table_row}
use Rattle.sg_defs.proofs.MinimalLemmas.{first-multiplicity}
use Rattle.sg_rows_invariants.proofs.Bounds.{entries-small}
use Rattle.sg_rows_invariants.proofs.fact.TableFactOfTable.tell.Goals as goal

pub returns-in_ok-from_slice-in-AperyList : goal.returns-in_ok-from_slice-in-AperyList
returns-in_ok-from_slice-in-AperyList c =
    let G = c.args.table.now in
    let l = c.in_ok-from_slice-in-AperyList.field-0 in
    let multiplicity = first-multiplicity G c.generators-minimal.ensures.semigroup c.generators-minimal.ensures.minimal in
    let same = sym c.in_ok-from_slice-in-AperyList.ensures in
    subst (λ f. Tells (Ok (Naturals l)) (table_row f G)) (sym c.in-AperyList.is)
    (tells_naturals (IsOwnApery G) l (entries-small l c.apery.result.now same c.apery.ensures.small) (get_or G 0 0, multiplicity, subst (IsApery G (get_or G 0 0)) same c.apery.ensures.apery))
