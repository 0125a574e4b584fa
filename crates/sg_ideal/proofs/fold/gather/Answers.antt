use Rattle.std.proofs.Common.{◌≡◌, ℕ, ◌*◌, ◌<◌, List, length, get_or, sym, ap, subst, ◌∙◌, arith, ℤ, pos, ◌-ℤ◌, to_z, of_z, w64}
use Rattle.std.specs.Prelude.{nat_abs}
use Rattle.std.proofs.lemmas.Int.{ints}
use Rattle.sg_ideal.specs.Classes.{IsReach}
use Rattle.sg_ideal.specs.Value.{IsLeast}
use Rattle.sg_lawful.specs.Generators.{AreSmall}
use Rattle.sg_ideal.proofs.SpreadLemmas.{IsPlaced, generator-placed}
use Rattle.sg_ideal.proofs.GatherLemmas.{gather-none, gather-more, gather-all}
use Rattle.sg_ideal.proofs.fold.gather.Goals as goal

-- where a generator lies that is read of a copy of the list
placed : (I L : List ℤ) (l : ℤ) (k : ℕ) → L ≡ I → IsLeast I l → AreSmall I → k < length L → IsPlaced l (get_or L k (pos 0))
placed I L l k e least small = subst (λ L. k < length L → IsPlaced l (get_or L k (pos 0))) (sym e) (λ inside. generator-placed I l k least.listed small least.below inside)

pub loop-generator-init : goal.loop-generator-init
loop-generator-init c =
    let t = c.entries.result.now in
    let same = ap length c.in_ok-list.ensures.items in
    (t, c.entries.ensures, omega (arith, same), gather-none c.args.a.now t c.len-count.result c.in_ok-list.list.items c.entries.ensures c.in_ok-list.ensures.items)

pub overflow_sub-generator : goal.overflow_sub-generator
overflow_sub-generator c =
    let g = c.generators-generator-items in
    let p = placed c.args.a.now.generators g.result.now c.least.result c.loop-generator.generator-index g.ensures.same c.least.ensures.least g.ensures.small c.loop-generator-test.true in
    omega (arith, ints, p)

pub overflow_cast-generator : goal.overflow_cast-generator
overflow_cast-generator c =
    let g = c.generators-generator-items in
    let p = placed c.args.a.now.generators g.result.now c.least.result c.loop-generator.generator-index g.ensures.same c.least.ensures.least g.ensures.small c.loop-generator-test.true in
    (omega (arith, ints, p), omega (arith, ints, p))

pub reach-requires-clause-by : goal.reach-requires-clause-by
reach-requires-clause-by c =
    let g = c.generators-generator-items in
    let p = placed c.args.a.now.generators g.result.now c.least.result c.loop-generator.generator-index g.ensures.same c.least.ensures.least g.ensures.small c.loop-generator-test.true in
    omega (arith, ints, p)

pub loop-generator-preserved : goal.loop-generator-preserved
loop-generator-preserved c =
    let J = c.args.a.now in
    let g = c.generators-generator-items in
    let L = g.result.now in
    let i = c.loop-generator.generator-index in
    let count = c.len-count.result in
    let list = c.loop-generator.list.items in
    let now = c.in_ok-list-2.list.items in
    let v = c.loop-generator.invariant in
    let t = v.0 in
    let first = c.least.ensures.first in
    let least = subst (IsLeast J.generators) first c.least.ensures.least in
    let p = placed J.generators L c.least.result i g.ensures.same c.least.ensures.least g.ensures.small c.loop-generator-test.true in
    let inside : i < length J.generators = subst (λ L. i < length L) g.ensures.same c.loop-generator-test.true in
    let d = nat_abs (to_z w64 (of_z w64 (to_z w64 (of_z w64 (get_or L i (pos 0))) -ℤ to_z w64 (of_z w64 c.least.result)))) in
    let e = ap (λ L. get_or L i (pos 0)) g.ensures.same in
    let far : pos d ≡ get_or J.generators i (pos 0) -ℤ get_or J.generators 0 (pos 0) = omega (arith, ints, p, e, first) in
    let often : count ≡ length list = sym v.2 ∙ v.1.table.multiplicity ∙ sym v.3.table.multiplicity in
    let r = subst (λ s. IsReach s d count now) c.deref.ensures.value c.in_ok-list-2.ensures in
    (t, v.1, v.2, gather-more J t i count list now d least inside often far r v.3)

pub returns-clause-same : goal.returns-clause-same
returns-clause-same c =
    let J = c.args.a.now in
    let i = c.loop-generator.generator-index in
    let count = c.len-count.result in
    let v = c.loop-generator.invariant in
    let same = ap length c.generators-generator-items.ensures.same in
    let all : i ≡ length J.generators = omega (arith, same) in
    let often : count ≡ get_or J.ambient 0 0 = sym v.2 ∙ v.1.table.multiplicity in
    let product = ap (λ i. i * count) all ∙ ap (λ m. length J.generators * m) often in
    let many = c.requires in
    (gather-all J v.0 i count c.args.k c.loop-generator.list.items v.1 all (omega (arith, product, many)) v.3).same
