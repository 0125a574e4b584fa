use Rattle.std.proofs.Common.{arith}
use Rattle.std.specs.Int.{◌∣◌}
use Rattle.std.proofs.lemmas.Nat.Gcd.{dvd_refl}
use Rattle.std.proofs.lemmas.List.Elements.{All-from_get_or}
use Rattle.sg_classes.proofs.ArgumentLemmas.{divisor-more}
use Rattle.sg_glue.proofs.parts.common_divisor.Goals as goal

pub loop-entry-preserved : goal.loop-entry-preserved
loop-entry-preserved c d = divisor-more c.args.entries.now c.loop-entry.entry-index c.loop-entry.divisor c.gcd-divisor.result d c.gcd-divisor.ensures (c.loop-entry.invariant d)

pub returns : goal.returns
returns c =
    let xs = c.args.entries.now in
    let g = c.loop-entry.divisor in
    record {
      divides = All-from_get_or (λ a. g ∣ a) xs 0 (λ k l. (c.loop-entry.invariant g).0 (dvd_refl g) k (omega (arith, l, c.loop-entry-test.false)));
      greatest = λ d h. (c.loop-entry.invariant d).1 (λ k l. h k 0 (omega (arith, l, c.loop-entry.auto.entry-index-end)));
    }
