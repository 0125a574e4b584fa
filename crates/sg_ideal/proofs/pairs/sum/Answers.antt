use Rattle.std.proofs.Common.{◌≡◌, ℕ, List, get_or, refl, sym, subst, arith, ℤ, pos, ◌+ℤ◌, to_z, of_z, w64}
use Rattle.std.proofs.lemmas.Int.{ints}
use Rattle.sg_defs.specs.Ideals.{IsInSum}
use Rattle.sg_ideal.specs.Value.{IsIn, IsLeast}
use Rattle.sg_lawful.specs.Generators.{AreSmall, IsSmall}
use Rattle.sg_ideal.specs.Classes.{IsIdealTable, IsSpread}
use Rattle.sg_ideal.proofs.FinishLemmas.{finish-made, finish-refused, on-ok, pair-refused}
use Rattle.sg_ideal.proofs.PairLemmas.{passed-least, passed-spread, sum-same, sum-table}
use Rattle.sg_ideal.proofs.pairs.sum.Goals as goal

-- the sum of the two least members, as it is passed
passed_sum : (a b k l : ℤ) → k ≡ a → l ≡ b → IsSmall k → IsSmall l → to_z w64 (of_z w64 (to_z w64 (of_z w64 k) +ℤ to_z w64 (of_z w64 l))) ≡ a +ℤ b
passed_sum a b k l e f p q = omega (arith, ints, e, f, p, q)

-- what was spread, from the first generator on
spread_of : (t list : List ℕ) (I L : List ℤ) (l : ℤ) → L ≡ I → IsSmall l → l ≡ get_or I 0 (pos 0) → IsSpread t (to_z w64 (of_z w64 l)) L list → IsSpread t (get_or I 0 (pos 0)) I list
spread_of t list I L l e small first s = subst (λ b. IsSpread t b I list) first (passed-spread t list I L l e small s)

pub spread-requires-clause-base : goal.spread-requires-clause-base
spread-requires-clause-base c = (passed-least c.args.b.now.generators c.generators.result.now c.least.result c.generators.ensures.same c.least.ensures.small c.least.ensures.least).listed

pub spread-requires-clause-small : goal.spread-requires-clause-small
spread-requires-clause-small c = subst AreSmall (sym c.generators.ensures.same) c.generators.ensures.small

pub spread-requires-clause-least : goal.spread-requires-clause-least
spread-requires-clause-least c = (passed-least c.args.b.now.generators c.generators.result.now c.least.result c.generators.ensures.same c.least.ensures.small c.least.ensures.least).below

pub from_table-requires : goal.from_table-requires
from_table-requires c =
    let I = c.args.a.now in
    let J = c.args.b.now in
    let t = c.entries.result.now in
    let list = c.in_ok-entries.entries.items in
    let s = spread_of t list J.generators c.generators.result.now c.least.result c.generators.ensures.same c.least.ensures.small c.least.ensures.first c.in_ok-entries.ensures in
    let least = subst (IsLeast J.generators) c.least.ensures.first c.least.ensures.least in
    record { table = subst (λ G. IsIdealTable G list) (sym c.ambient.ensures) (sum-table I J t list c.entries.ensures least (c.if-not-is_paired.ensures.0 refl) s) }

pub returns-clause-made : goal.returns-clause-made
returns-clause-made c =
    let I = c.args.a.now in
    let J = c.args.b.now in
    let t = c.entries.result.now in
    let list = c.in_ok-entries.entries.items in
    let s = spread_of t list J.generators c.generators.result.now c.least.result c.generators.ensures.same c.least.ensures.small c.least.ensures.first c.in_ok-entries.ensures in
    let least = subst (IsLeast J.generators) c.least.ensures.first c.least.ensures.least in
    let a = get_or I.generators 0 (pos 0) in
    let b = get_or J.generators 0 (pos 0) in
    let base = passed_sum a b c.least-2.result c.least-3.result c.least-2.ensures.first c.least-3.ensures.first c.least-2.ensures.small c.least-3.ensures.small in
    finish-made I.ambient c.ambient.result.now (IsInSum (IsIn I) (IsIn J)) (a +ℤ b) (to_z w64 (of_z w64 (to_z w64 (of_z w64 c.least-2.result) +ℤ to_z w64 (of_z w64 c.least-3.result)))) list list
    c.ambient.ensures base refl (sum-same I J t list c.entries.ensures least (c.if-not-is_paired.ensures.0 refl) s) c.from_table.result c.from_table.ensures.made

pub returns-clause-paired : goal.returns-clause-paired
returns-clause-paired c = on-ok (c.args.a.now.ambient ≡ c.args.b.now.ambient) c.from_table.result (c.if-not-is_paired.ensures.0 refl)

pub returns-clause-refused : goal.returns-clause-refused
returns-clause-refused c =
    let I = c.args.a.now in
    let J = c.args.b.now in
    let t = c.entries.result.now in
    let list = c.in_ok-entries.entries.items in
    let s = spread_of t list J.generators c.generators.result.now c.least.result c.generators.ensures.same c.least.ensures.small c.least.ensures.first c.in_ok-entries.ensures in
    let least = subst (IsLeast J.generators) c.least.ensures.first c.least.ensures.least in
    let a = get_or I.generators 0 (pos 0) in
    let b = get_or J.generators 0 (pos 0) in
    let base = passed_sum a b c.least-2.result c.least-3.result c.least-2.ensures.first c.least-3.ensures.first c.least-2.ensures.small c.least-3.ensures.small in
    pair-refused I J (IsInSum (IsIn I) (IsIn J)) c.from_table.result (c.if-not-is_paired.ensures.0 refl)
    (finish-refused I.ambient c.ambient.result.now (IsInSum (IsIn I) (IsIn J)) (a +ℤ b) (to_z w64 (of_z w64 (to_z w64 (of_z w64 c.least-2.result) +ℤ to_z w64 (of_z w64 c.least-3.result)))) list list
    c.ambient.ensures base refl (sum-same I J t list c.entries.ensures least (c.if-not-is_paired.ensures.0 refl) s) c.from_table.result c.from_table.ensures.refused)
