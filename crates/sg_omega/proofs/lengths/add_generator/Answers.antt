use Rattle.std.proofs.Common.{◌≡◌, ℕ, ◌+◌, ◌-◌, ◌<◌, ◌≤◌, length, get_or, set, max, min, sym, subst, ap, ◌∙◌, arith}
use Rattle.sg_omega.proofs.LengthLemmas.{AreMadeUpTo, made-first, made-next, made-last, bounded-next}
use Rattle.sg_omega.proofs.lengths.add_generator.Goals as goal

pub loop-sum-init : goal.loop-sum-init
loop-sum-init c = record {
  bounded = c.requires.bounded;
  lengths = λ G v k inside is apery h. subst (AreMadeUpTo G v k c.args.table.now) is (made-first G v k c.args.table.now h);
}

pub loop-sum-preserved : goal.loop-sum-preserved
loop-sum-preserved c =
    let t = c.loop-sum.table in
    let x = c.loop-sum.sum in
    let g = c.args.generator in
    let is : max (get_or t x 0) (get_or t (x - g) 0 + min (get_or t (x - g) 0) 1) ≡ c.max.result =
    ap (λ n. max (get_or t x 0) (get_or t (x - g) 0 + n)) (sym c.min.ensures) ∙ sym c.max.ensures in
    let inside : x < length t = omega (arith, c.loop-sum-test.true, c.loop-sum.auto.table) in
    record {
      bounded = subst (λ n. (y : ℕ) → y < length (set t x n) → get_or (set t x n) y 0 ≤ y + 1) is
          (bounded-next t x g c.requires.positive c.loop-sum.auto.sum inside c.loop-sum.invariant.bounded);
      lengths = λ G v k inside_k same apery h. subst (λ n. AreMadeUpTo G v k (set t x n) (x + 1)) is
          (made-next G v k t x g inside_k same apery c.requires.positive c.loop-sum.auto.sum inside (c.loop-sum.invariant.lengths G v k inside_k same apery h));
    }

pub returns-clause-lengths : goal.returns-clause-lengths
returns-clause-lengths c G v k inside is apery h =
    made-last G v k c.loop-sum.table c.loop-sum.sum (omega (arith, c.loop-sum-test.false, c.loop-sum.auto.table)) (c.loop-sum.invariant.lengths G v k inside is apery h)
