use Rattle.std.proofs.Common.{length, sum}
use Rattle.sg_nonunique.specs.Affine.{IsVectorFactorization}
use Rattle.sg_laws_families.proofs.Families.{vectors-family}
use Rattle.sg_laws_families.proofs.GapLemmas.{max_delta-from_betti}
use Rattle.sg_laws_families.proofs.laws.affine_greatest_deltas_come_from_classes.Goals as goal

pub returns : goal.returns
returns c d A r s h = max_delta-from_betti (IsVectorFactorization d A) sum (length A) (vectors-family d A s) r h
