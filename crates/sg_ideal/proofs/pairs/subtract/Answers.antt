use Rattle.std.proofs.Common.{◌≡◌, get_or, refl, sym, subst, arith, ℤ, pos, ◌-ℤ◌, to_z, of_z, w64}
use Rattle.std.proofs.lemmas.Int.{ints}
use Rattle.sg_defs.specs.Ideals.{IsInDifference}
use Rattle.sg_ideal.specs.Value.{IsIn, IsLeast}
use Rattle.sg_lawful.specs.Generators.{AreSmall, IsSmall}
use Rattle.sg_ideal.specs.Classes.{IsClosedTable}
use Rattle.sg_ideal.proofs.FinishLemmas.{finish-made, finish-refused, on-ok, pair-refused}
use Rattle.sg_ideal.proofs.PairLemmas.{passed-least, passed-reduced, difference-same, difference-table}
use Rattle.sg_ideal.proofs.pairs.subtract.Goals as goal

-- the difference of the two least members, as it is passed
passed_difference : (a b k l : ℤ) → k ≡ a → l ≡ b → IsSmall k → IsSmall l → to_z w64 (of_z w64 (to_z w64 (of_z w64 k) -ℤ to_z w64 (of_z w64 l))) ≡ a -ℤ b
passed_difference a b k l e f p q = omega (arith, ints, e, f, p, q)

pub reduce-requires-clause-small : goal.reduce-requires-clause-small
reduce-requires-clause-small c = subst AreSmall (sym c.generators.ensures.same) c.generators.ensures.small

pub reduce-requires-clause-least : goal.reduce-requires-clause-least
reduce-requires-clause-least c = passed-least c.args.b.now.generators c.generators.result.now c.least.result c.generators.ensures.same c.least.ensures.small c.least.ensures.least

pub from_classes-requires-clause-table : goal.from_classes-requires-clause-table
from_classes-requires-clause-table c =
    let I = c.args.a.now in
    let J = c.args.b.now in
    let t = c.entries.result.now in
    let list = c.in_ok-entries.entries.items in
    let s = passed-reduced t list J.generators c.generators.result.now c.least.result c.generators.ensures.same c.least.ensures.small c.least.ensures.first c.in_ok-entries.ensures in
    let least = subst (IsLeast J.generators) c.least.ensures.first c.least.ensures.least in
    subst (IsClosedTable c.ambient.result.now) (sym c.deref.ensures.value)
    (subst (λ G. IsClosedTable G list) (sym c.ambient.ensures) (difference-table I J t list c.entries.ensures least (c.if-not-is_paired.ensures.0 refl) s))

pub returns-clause-made : goal.returns-clause-made
returns-clause-made c =
    let I = c.args.a.now in
    let J = c.args.b.now in
    let t = c.entries.result.now in
    let list = c.in_ok-entries.entries.items in
    let s = passed-reduced t list J.generators c.generators.result.now c.least.result c.generators.ensures.same c.least.ensures.small c.least.ensures.first c.in_ok-entries.ensures in
    let least = subst (IsLeast J.generators) c.least.ensures.first c.least.ensures.least in
    let a = get_or I.generators 0 (pos 0) in
    let b = get_or J.generators 0 (pos 0) in
    let base = passed_difference a b c.least-2.result c.least-3.result c.least-2.ensures.first c.least-3.ensures.first c.least-2.ensures.small c.least-3.ensures.small in
    finish-made I.ambient c.ambient.result.now (IsInDifference (IsIn I) (IsIn J)) (a -ℤ b) (to_z w64 (of_z w64 (to_z w64 (of_z w64 c.least-2.result) -ℤ to_z w64 (of_z w64 c.least-3.result)))) list c.deref.result.now
    c.ambient.ensures base c.deref.ensures.value (difference-same I J t list c.entries.ensures least (c.if-not-is_paired.ensures.0 refl) s) c.from_classes.result c.from_classes.ensures.made

pub returns-clause-paired : goal.returns-clause-paired
returns-clause-paired c = on-ok (c.args.a.now.ambient ≡ c.args.b.now.ambient) c.from_classes.result (c.if-not-is_paired.ensures.0 refl)

pub returns-clause-refused : goal.returns-clause-refused
returns-clause-refused c =
    let I = c.args.a.now in
    let J = c.args.b.now in
    let t = c.entries.result.now in
    let list = c.in_ok-entries.entries.items in
    let s = passed-reduced t list J.generators c.generators.result.now c.least.result c.generators.ensures.same c.least.ensures.small c.least.ensures.first c.in_ok-entries.ensures in
    let least = subst (IsLeast J.generators) c.least.ensures.first c.least.ensures.least in
    let a = get_or I.generators 0 (pos 0) in
    let b = get_or J.generators 0 (pos 0) in
    let base = passed_difference a b c.least-2.result c.least-3.result c.least-2.ensures.first c.least-3.ensures.first c.least-2.ensures.small c.least-3.ensures.small in
    pair-refused I J (IsInDifference (IsIn I) (IsIn J)) c.from_classes.result (c.if-not-is_paired.ensures.0 refl)
    (finish-refused I.ambient c.ambient.result.now (IsInDifference (IsIn I) (IsIn J)) (a -ℤ b) (to_z w64 (of_z w64 (to_z w64 (of_z w64 c.least-2.result) -ℤ to_z w64 (of_z w64 c.least-3.result)))) list c.deref.result.now
    c.ambient.ensures base c.deref.ensures.value (difference-same I J t list c.entries.ensures least (c.if-not-is_paired.ensures.0 refl) s) c.from_classes.result c.from_classes.ensures.refused)
