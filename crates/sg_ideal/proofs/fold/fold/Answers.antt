use Rattle.std.proofs.Common.{◌≡◌, ℕ, ◌-◌, ◌↔◌, List, length, get_or, ap, arith, ℤ, pos, ◌-ℤ◌, to_z, of_z, w64}
use Rattle.std.specs.Prelude.{nat_abs}
use Rattle.std.proofs.lemmas.Int.{ints}
use Rattle.std.proofs.lemmas.Result.{IfOk-weaker}
use Rattle.sg_defs.specs.Ideals.{IsInMultiple}
use Rattle.sg_ideal.specs.Classes.{IsFrom, IsIdealTable, IsKept, IsReach}
use Rattle.sg_ideal.specs.Value.{IsIn, times}
use Rattle.sg_lawful.specs.Generators.{AreSmall}
use Rattle.sg_ideal.proofs.SpreadLemmas.{generator-placed}
use Rattle.sg_ideal.proofs.PairLemmas.{first-least}
use Rattle.sg_ideal.proofs.GatherLemmas.{pair-fold}
use Rattle.sg_ideal.proofs.fold.fold.Goals as goal

-- where two generators lie that are read of a copy of the list
record ArePlaced (I L : List ℤ) : Type 0 where
  pub first : get_or L 0 (pos 0) ≡ get_or I 0 (pos 0)
  pub second : get_or L 1 (pos 0) ≡ get_or I 1 (pos 0)
  pub two : length I ≡ 2
  pub far : pos (nat_abs (to_z w64 (of_z w64 (to_z w64 (of_z w64 (get_or L 1 (pos 0))) -ℤ to_z w64 (of_z w64 (get_or L 0 (pos 0))))))) ≡ get_or I 1 (pos 0) -ℤ get_or I 0 (pos 0)

placed : (G : List ℕ) (I L : List ℤ) (t : List ℕ) → L ≡ I → IsKept G I t → AreSmall I → length L ≡ 2 → ArePlaced I L
placed G I L t same kept small two =
    let least = first-least G I t kept in
    let long = ap length same in
    let p = generator-placed I (get_or I 0 (pos 0)) 1 least.listed small least.below (omega (arith, long, two)) in
    let e = ap (λ L. get_or L 0 (pos 0)) same in
    let f = ap (λ L. get_or L 1 (pos 0)) same in
    record { first = e; second = f; two = omega (arith, long, two); far = omega (arith, ints, e, f, p) }

pub overflow_sub-generators : goal.overflow_sub-generators
overflow_sub-generators c =
    let I = c.args.a.now.generators in
    let g = c.generators-generators in
    let least = first-least c.args.a.now.ambient I c.entries-entries.result.now c.entries-entries.ensures in
    let q = placed c.args.a.now.ambient I g.result.now c.entries-entries.result.now g.ensures.same c.entries-entries.ensures g.ensures.small c.if-generators-eq2.true in
    let p = generator-placed I (get_or I 0 (pos 0)) 1 least.listed g.ensures.small least.below (omega (arith, q.two)) in
    omega (arith, ints, p, q.first, q.second)

pub overflow_cast-generators : goal.overflow_cast-generators
overflow_cast-generators c =
    let I = c.args.a.now.generators in
    let g = c.generators-generators in
    let least = first-least c.args.a.now.ambient I c.entries-entries.result.now c.entries-entries.ensures in
    let q = placed c.args.a.now.ambient I g.result.now c.entries-entries.result.now g.ensures.same c.entries-entries.ensures g.ensures.small c.if-generators-eq2.true in
    let p = generator-placed I (get_or I 0 (pos 0)) 1 least.listed g.ensures.small least.below (omega (arith, q.two)) in
    (omega (arith, ints, p, q.first, q.second), omega (arith, ints, p, q.first, q.second))

pub reach-requires-clause-by : goal.reach-requires-clause-by
reach-requires-clause-by c =
    let I = c.args.a.now.generators in
    let g = c.generators-generators in
    let least = first-least c.args.a.now.ambient I c.entries-entries.result.now c.entries-entries.ensures in
    let q = placed c.args.a.now.ambient I g.result.now c.entries-entries.result.now g.ensures.same c.entries-entries.ensures g.ensures.small c.if-generators-eq2.true in
    let p = generator-placed I (get_or I 0 (pos 0)) 1 least.listed g.ensures.small least.below (omega (arith, q.two)) in
    omega (arith, ints, p, q.first, q.second)

pub returns-then-generators-eq2-clause-table : goal.returns-then-generators-eq2-clause-table
returns-then-generators-eq2-clause-table c =
    let J = c.args.a.now in
    let g = c.generators-generators in
    let L = g.result.now in
    let t = c.entries-entries.result.now in
    let q = placed J.ambient J.generators L t g.ensures.same c.entries-entries.ensures g.ensures.small c.if-generators-eq2.true in
    let d = nat_abs (to_z w64 (of_z w64 (to_z w64 (of_z w64 (get_or L 1 (pos 0))) -ℤ to_z w64 (of_z w64 (get_or L 0 (pos 0)))))) in
    IfOk-weaker c.reach.result (λ list. IsReach t d (c.args.k - 1) list.items) (λ list. IsIdealTable J.ambient list.items)
    (λ list r. (pair-fold J t d c.entries-entries.ensures q.two q.far c.args.k list.items c.requires r).table) c.reach.ensures

pub returns-then-generators-eq2-clause-same : goal.returns-then-generators-eq2-clause-same
returns-then-generators-eq2-clause-same c =
    let J = c.args.a.now in
    let g = c.generators-generators in
    let L = g.result.now in
    let t = c.entries-entries.result.now in
    let q = placed J.ambient J.generators L t g.ensures.same c.entries-entries.ensures g.ensures.small c.if-generators-eq2.true in
    let d = nat_abs (to_z w64 (of_z w64 (to_z w64 (of_z w64 (get_or L 1 (pos 0))) -ℤ to_z w64 (of_z w64 (get_or L 0 (pos 0)))))) in
    IfOk-weaker c.reach.result (λ list. IsReach t d (c.args.k - 1) list.items)
    (λ list. (x : ℤ) → IsInMultiple c.args.k (IsIn J) x ↔ IsFrom (times c.args.k (get_or J.generators 0 (pos 0))) list.items x)
    (λ list r. (pair-fold J t d c.entries-entries.ensures q.two q.far c.args.k list.items c.requires r).same) c.reach.ensures
