use Rattle.std.proofs.Common.{length}
use Rattle.sg_defs.specs.Membership.{IsFactorization}
use Rattle.sg_laws_families.proofs.ChainLemmas.{catenary-from_classes}
use Rattle.sg_laws_families.proofs.Families.{numbers-family}
use Rattle.sg_degrees.proofs.laws.catenary_degrees_come_from_classes.Goals as goal

pub returns : goal.returns
returns c G N s h = catenary-from_classes (IsFactorization G) (λ n. n) (length G) (numbers-family G s) N h
