use Rattle.std.proofs.Common.{take}
use Rattle.sg_omega.specs.Lengths.{IsInAperySet, IsLowered}
use Rattle.sg_omega.proofs.PartLemmas.{IsKept}
use Rattle.sg_omega.proofs.parts.divided.Given as goal

abbrev pub invariant-loop-v : goal.invariant-loop-v
invariant-loop-v l = record {
  inside : IsKept (λ v. IsInAperySet l.t v l.generator) (take l.v-index l.values) l.parts.inside.items;
  outside : IsKept (λ v. IsLowered l.t v l.generator) (take l.v-index l.values) l.parts.outside.items;
}
