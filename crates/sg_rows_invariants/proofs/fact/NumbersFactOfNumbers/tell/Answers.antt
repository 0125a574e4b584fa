use Rattle.std.proofs.Common.{◌<◌, ◌^◌, Ok, length, ap, sym, subst, rules}
use Rattle.sg_defs.specs.Invariants.{IsType}
use Rattle.sg_rows.specs.Made.{Tells}
use Rattle.sg_rows.specs.declared.made.Made.TheVariants.{Natural}
use Rattle.sg_rows.proofs.Telling.{tells_natural}
use Rattle.sg_rows_invariants.specs.Facts.{numbers_row}
use Rattle.sg_rows_invariants.proofs.fact.NumbersFactOfNumbers.tell.Goals as goal

pub returns-in-Type : goal.returns-in-Type
returns-in-Type c = λ G are.
    let n = length c.as_slice.result.now in
    let small : n < 2 ^ 63 = search rules in
    subst (λ f. Tells (Ok (Natural n)) (numbers_row f G)) (sym c.in-Type.is) (tells_natural (IsType G) n small (c.args.numbers.now, are, sym (ap length c.as_slice.ensures)))
