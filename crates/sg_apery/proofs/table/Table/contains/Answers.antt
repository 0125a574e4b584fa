use Rattle.std.proofs.Common.{◌↔◌, subst, to_z, of_z, w64}
use Rattle.std.specs.Prelude.{IsTrue}
use Rattle.std.proofs.lemmas.Int.{to_z-of_z}
use Rattle.sg_defs.specs.Membership.{IsIntegerMember}
use Rattle.sg_apery.proofs.ReadLemmas.{contains-integer}
use Rattle.sg_apery.proofs.table.Table.contains.Goals as goal

pub returns : goal.returns
returns c =
    let G = c.args.self.now in
    let x = c.args.x in
    let b = c.contains_natural.result in
    subst (λ z. IsTrue b ↔ IsIntegerMember G z) (to_z-of_z w64 x c.ranges.x) (contains-integer G (to_z w64 (of_z w64 x)) b c.if-x-lt0.false c.contains_natural.ensures)
