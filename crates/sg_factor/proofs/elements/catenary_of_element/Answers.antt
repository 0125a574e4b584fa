use Rattle.std.proofs.Common.{ℕ, List, IfOk, OnOk, to_z, of_z, w64}
use Rattle.std.proofs.lemmas.Int.{to_z-of_z}
use Rattle.sg_nonunique.specs.Catenary.{IsCatenaryOf}
use Rattle.sg_nonunique.specs.Counts.{Exceeds}
use Rattle.sg_factor.specs.declared.limits.TheConstants.{CATENARY_LIMIT}
use Rattle.sg_factor.proofs.IntegerLemmas.{natural-set}
use Rattle.sg_factor.proofs.elements.catenary_of_element.Goals as goal

pub returns-clause-catenary : goal.returns-clause-catenary
returns-clause-catenary c = natural-set c.args.t.now c.args.n (to_z w64 (of_z w64 c.args.n)) (λ (V : List ℕ → Type 0). IfOk c.catenary_of_natural.result (IsCatenaryOf V))
    (to_z-of_z w64 c.args.n c.ranges.n) c.if-n-lt0.false c.catenary_of_natural.ensures.catenary

pub returns-clause-few : goal.returns-clause-few
returns-clause-few c = natural-set c.args.t.now c.args.n (to_z w64 (of_z w64 c.args.n)) (λ (V : List ℕ → Type 0). OnOk c.catenary_of_natural.result (Exceeds V CATENARY_LIMIT → ⊥))
    (to_z-of_z w64 c.args.n c.ranges.n) c.if-n-lt0.false c.catenary_of_natural.ensures.few
