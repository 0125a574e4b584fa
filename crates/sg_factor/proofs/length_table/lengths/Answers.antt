use Rattle.std.proofs.Common.{List, ℕ, IfOk, to_z, of_z, w64}
use Rattle.std.proofs.lemmas.Int.{to_z-of_z}
use Rattle.sg_defs.specs.Listings.{Lists}
use Rattle.sg_nonunique.specs.Factorizations.{IsLengthIn}
use Rattle.sg_factor.proofs.IntegerLemmas.{natural-set}
use Rattle.sg_factor.proofs.length_table.lengths.Goals as goal

pub returns : goal.returns
returns c = natural-set c.args.t.now c.args.n (to_z w64 (of_z w64 c.args.n)) (λ (V : List ℕ → Type 0). IfOk c.lengths_of_natural.result (Lists (IsLengthIn V)))
    (to_z-of_z w64 c.args.n c.ranges.n) c.if-n-lt0.false c.lengths_of_natural.ensures
