use Rattle.std.proofs.Common.{ℕ, List, IfOk, OnOk, to_z, of_z, w64}
use Rattle.std.proofs.lemmas.Int.{to_z-of_z}
use Rattle.sg_defs.specs.Vectors.{ListsDescending}
use Rattle.sg_nonunique.specs.Counts.{Exceeds}
use Rattle.sg_factor.specs.declared.limits.TheConstants.{FACTORIZATION_LIMIT}
use Rattle.sg_factor.proofs.IntegerLemmas.{natural-set}
use Rattle.sg_factor.proofs.elements.factorizations.Goals as goal

pub returns-clause-listed : goal.returns-clause-listed
returns-clause-listed c = natural-set c.args.t.now c.args.n (to_z w64 (of_z w64 c.args.n)) (λ (V : List ℕ → Type 0). IfOk c.factorizations_within.result (ListsDescending V))
    (to_z-of_z w64 c.args.n c.ranges.n) c.if-n-lt0.false c.factorizations_within.ensures.listed

pub returns-clause-few : goal.returns-clause-few
returns-clause-few c = natural-set c.args.t.now c.args.n (to_z w64 (of_z w64 c.args.n)) (λ (V : List ℕ → Type 0). OnOk c.factorizations_within.result (Exceeds V FACTORIZATION_LIMIT → ⊥))
    (to_z-of_z w64 c.args.n c.ranges.n) c.if-n-lt0.false c.factorizations_within.ensures.few
