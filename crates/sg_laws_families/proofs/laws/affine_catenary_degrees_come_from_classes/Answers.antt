use Rattle.std.proofs.Common.{length, sum}
use Rattle.sg_nonunique.specs.Affine.{IsVectorFactorization}
use Rattle.sg_laws_families.proofs.ChainLemmas.{catenary-from_classes}
use Rattle.sg_laws_families.proofs.Families.{vectors-family}
use Rattle.sg_laws_families.proofs.laws.affine_catenary_degrees_come_from_classes.Goals as goal

pub returns : goal.returns
returns c d A N s h = catenary-from_classes (IsVectorFactorization d A) sum (length A) (vectors-family d A s) N h
