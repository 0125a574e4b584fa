use Rattle.std.proofs.Common.{◌≡◌, get_or, ap, subst, pos, to_z, of_z, w64, arith}
use Rattle.std.proofs.lemmas.Int.{ints}
use Rattle.sg_ideal.specs.Value.{IsLeast}
use Rattle.sg_defs.specs.Ideals.{RelativeIdeal}
use Rattle.sg_ideal.proofs.ContainsLemmas.{first-small}
use Rattle.sg_ideal.proofs.PairLemmas.{first-least}
use Rattle.sg_ideal.proofs.ideal.Ideal.least.Goals as goal

pub returns-clause-least : goal.returns-clause-least
returns-clause-least c =
    let J = c.self.inside in
    let first = first-least J.ambient J.generators J.entries.items c.self.invariant in
    let small = first-small J.ambient J.generators J.entries.items (pos 0) c.self.invariant in
    let read = get_or c.as_slice.result.now 0 (pos 0) in
    let same = ap (λ l. get_or l 0 (pos 0)) c.as_slice.ensures in
    let e : get_or J.generators 0 (pos 0) ≡ to_z w64 (of_z w64 read) = omega (arith, ints, same, small) in
    subst (λ (v : RelativeIdeal). IsLeast v.generators (to_z w64 (of_z w64 read))) c.self.view_is (subst (IsLeast J.generators) e first)
