use Rattle.std.proofs.Common.{◌≡◌, take}
use Rattle.sg_ideal.specs.Heads.{raised_by}
use Rattle.sg_lawful.specs.Generators.{AreSmall}
use Rattle.sg_ideal.proofs.heads.raise.Given as goal

abbrev pub invariant-loop-number : goal.invariant-loop-number
invariant-loop-number l = record {
  raised : l.list ≡ raised_by l.base (take l.number-index l.numbers);
  small : AreSmall l.list;
}
