use Rattle.std.proofs.Common.{length, sum}
use Rattle.sg_defs.specs.Vectors.{IsLexBelow}
use Rattle.sg_nonunique.specs.Affine.{IsVectorFactorization}
use Rattle.sg_nonunique.proofs.OrderLemmas.{lex-irreflexive}
use Rattle.sg_laws_families.proofs.CanonicalLemmas.{canonical-relations, canonical-presents, canonical-none_spare}
use Rattle.sg_laws_families.proofs.Families.{vectors-family}
use Rattle.sg_laws_families.proofs.laws.affine_canonical_relations_present.Goals as goal

pub returns-clause-relations : goal.returns-clause-relations
returns-clause-relations c d A P s h = canonical-relations (IsVectorFactorization d A) sum (length A) (vectors-family d A s) IsLexBelow P h

pub returns-clause-presents : goal.returns-clause-presents
returns-clause-presents c d A P s h = canonical-presents (IsVectorFactorization d A) sum (length A) (vectors-family d A s) IsLexBelow P h

pub returns-clause-none_spare : goal.returns-clause-none_spare
returns-clause-none_spare c d A P s h = canonical-none_spare (IsVectorFactorization d A) sum (length A) (vectors-family d A s) IsLexBelow P h lex-irreflexive
