use Rattle.std.proofs.Common.{◌≡◌, ℕ, ◌+◌, length, get_or, sym, ap, subst, ◌∙◌, arith, pos, ◌-ℤ◌, to_z, of_z, w64}
use Rattle.std.specs.Prelude.{nat_abs, ◌↔◌}
use Rattle.sg_classes.specs.Classes.{IsAboveEntry}
use Rattle.std.proofs.lemmas.Int.{ints}
use Rattle.sg_classes.proofs.LoweredLemmas.{writes-back}
use Rattle.sg_ideal.proofs.SpreadLemmas.{generator-placed}
use Rattle.sg_ideal.proofs.ReduceLemmas.{IsReducedSoFar, reduced-more, reduced-all}
use Rattle.sg_ideal.proofs.classes.reduce.Goals as goal

pub overflow_sub-generator : goal.overflow_sub-generator
overflow_sub-generator c =
    let p = generator-placed c.args.generators.now c.args.base c.loop-generator.generator-index c.requires.least.listed c.requires.small c.requires.least.below c.loop-generator-test.true in
    omega (arith, ints, p)

pub overflow_cast-generator : goal.overflow_cast-generator
overflow_cast-generator c =
    let p = generator-placed c.args.generators.now c.args.base c.loop-generator.generator-index c.requires.least.listed c.requires.small c.requires.least.below c.loop-generator-test.true in
    (omega (arith, ints, p), omega (arith, ints, p))

pub loop-generator-preserved : goal.loop-generator-preserved
loop-generator-preserved c =
    let t = c.args.entries.now in
    let I = c.args.generators.now in
    let k = c.loop-generator.generator-index in
    let base = to_z w64 (of_z w64 c.args.base) in
    let items = c.loop-generator.list.items in
    let new = c.narrow.new.entries in
    let p = generator-placed I c.args.base k c.requires.least.listed c.requires.small c.requires.least.below c.loop-generator-test.true in
    let value : c.deref_mut.result.now ≡ items = c.deref_mut.ensures.value in
    let long : length new ≡ length items = c.narrow.ensures.long ∙ ap length value in
    let len : c.loop-generator.list.len ≡ length new = omega arith in
    let written = writes-back new items c.loop-generator.list.len len in
    let b = nat_abs (to_z w64 (of_z w64 (to_z w64 (of_z w64 (get_or I k (pos 0))) -ℤ base))) in
    let e : pos b ≡ get_or I k (pos 0) -ℤ base = omega (arith, ints, p) in
    let same : (n : ℕ) → IsAboveEntry new n ↔ (IsAboveEntry items n × IsAboveEntry t (n + b)) =
    subst (λ l. (n : ℕ) → IsAboveEntry new n ↔ (IsAboveEntry l n × IsAboveEntry t (n + b))) value c.narrow.ensures.same in
    subst (IsReducedSoFar t base I (k + 1)) (sym written) (reduced-more t base I k items new b e long c.narrow.ensures.classes same c.loop-generator.invariant)

pub returns : goal.returns
returns c =
    let back : to_z w64 (of_z w64 c.args.base) ≡ c.args.base = omega (arith, ints) in
    reduced-all c.args.entries.now c.args.base c.args.generators.now c.loop-generator.generator-index c.loop-generator.list.items c.requires.least.listed (omega arith)
    (subst (λ b. IsReducedSoFar c.args.entries.now b c.args.generators.now c.loop-generator.generator-index c.loop-generator.list.items) back c.loop-generator.invariant)
