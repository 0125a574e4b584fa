use Rattle.std.proofs.Common.{◌<◌, length, refl, arith}
use Rattle.std.proofs.lemmas.Bool.{eqb-true, eq-eqb}
use Rattle.std.proofs.lemmas.Bool.Decides.{nat_tests}
use Rattle.sg_classes.proofs.ArgumentLemmas.{semigroup-from_divisor}
use Rattle.sg_classes.proofs.entries.is_numerical_semigroup.Goals as goal

pub returns : goal.returns
returns c =
    let long : 0 < length c.args.entries.now = grind (arith, nat_tests) in
    let both = semigroup-from_divisor c.args.entries.now c.common_divisor.result long (c.if-not-are_positive.ensures.0 refl) c.common_divisor.ensures in
    ((λ h. both.0 (eqb-true c.common_divisor.result 1 h)), (λ s. eq-eqb c.common_divisor.result 1 (both.1 s)))
