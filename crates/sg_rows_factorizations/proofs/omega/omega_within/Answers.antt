use Rattle.std.proofs.Common.{Ok, nat_abs}
use Rattle.std.specs.Int.{w64}
use mir.Val.{to_z, of_z}
use Rattle.sg_rows.specs.Made.{Tells}
use Rattle.sg_rows.specs.declared.made.Made.TheVariants.{Natural}
use Rattle.sg_rows.proofs.Signed.{of_bits_right}
use Rattle.sg_rows_factorizations.specs.Elements.{omega_row}
use Rattle.sg_rows_factorizations.proofs.Bounds.{omega-small}
use Rattle.sg_rows_factorizations.proofs.Telling.{tells_omega}
use Rattle.sg_rows_factorizations.proofs.omega.omega_within.Goals as goal

pub returns : goal.returns
returns c =
    let G = c.args.table.now in
    let x = c.args.element in
    let y = to_z w64 (of_z w64 x) in
    let N = c.in_ok-omega_of_element.field-0 in
    let within = c.is_past.ensures.within c.if-is_past.false in
    let h = c.in_ok-omega_of_element.ensures in
    let small = omega-small G c.requires.semigroup c.requires.minimal (nat_abs y) N within h in
    of_bits_right (λ z. Tells (Ok (Natural N)) (omega_row G z)) x c.ranges.element
    (tells_omega G (c.narrow.ensures.0 c.if-not-narrow.false) N small y (c.contains.ensures.0 c.if-not-contains.false) within h)
