use Rattle.std.proofs.Common.{◌↔◌, get_or, ap, subst, pos, to_z, of_z, w64}
use Rattle.std.specs.Int.Signed.{le_z}
use Rattle.std.specs.Prelude.{IsTrue}
use Rattle.sg_classes.specs.Classes.{IsAboveEntry}
use Rattle.sg_ideal.specs.Value.{IsIn}
use Rattle.sg_ideal.proofs.ContainsLemmas.{contains-above, contains-below}
use Rattle.sg_ideal.proofs.ideal.Ideal.contains.Goals as goal

pub returns-then-x-least : goal.returns-then-x-least
returns-then-x-least c =
    let J = c.self.inside in
    let x = c.args.x in
    let r = c.is_above.result in
    let b = c.abs_diff.result in
    let above : IsTrue r ↔ IsAboveEntry J.entries.items b = subst (λ l. IsTrue r ↔ IsAboveEntry l b) c.deref.ensures.value c.is_above.ensures in
    subst (λ v. IsTrue r ↔ IsIn v x) c.self.view_is
    (contains-above J.ambient J.generators J.entries.items x c.self.invariant (get_or c.as_slice.result.now 0 (pos 0)) b r c.ranges.x (ap (λ l. get_or l 0 (pos 0)) c.as_slice.ensures) c.if-x-least.true
    c.abs_diff.ensures above)

pub returns-else-x-least : goal.returns-else-x-least
returns-else-x-least c =
    let J = c.self.inside in
    let x = c.args.x in
    let a = get_or c.as_slice.result.now 0 (pos 0) in
    subst (λ v. IsTrue (le_z (to_z w64 (of_z w64 a)) (to_z w64 (of_z w64 x))) ↔ IsIn v x) c.self.view_is
    (contains-below J.ambient J.generators J.entries.items x c.self.invariant a (le_z (to_z w64 (of_z w64 a)) (to_z w64 (of_z w64 x))) c.ranges.x
    (ap (λ l. get_or l 0 (pos 0)) c.as_slice.ensures) c.if-x-least.false c.if-x-least.false)
