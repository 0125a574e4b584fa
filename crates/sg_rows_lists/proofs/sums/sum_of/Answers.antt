use Rattle.std.proofs.Common.{◌≡◌, ◌∙◌, subst, rules}
use mir.Syntax.{w128}
use mir.Val.{to_z, of_z}
use Rattle.std.proofs.lemmas.Int.{to_z-of_z}
use Rattle.std.specs.Prelude.{FitsSigned, SomeIff}
use Rattle.std.specs.Int.{w64}
use Rattle.sg_rows_lists.specs.Integers.{total}
use Rattle.sg_rows_lists.proofs.sums.sum_of.Goals as goal

pub returns : goal.returns
returns c =
    let fit : FitsSigned w128 c.total.result = search rules in
    let same : to_z w128 (of_z w128 c.total.result) ≡ total c.args.zs.now = to_z-of_z w128 c.total.result fit ∙ c.total.ensures in
    c.integer.ensures (total c.args.zs.now) (subst (λ z. SomeIff c.narrowed.result (FitsSigned w64 z) z) same c.narrowed.ensures)
