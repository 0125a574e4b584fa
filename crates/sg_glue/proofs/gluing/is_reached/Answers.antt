use Rattle.std.proofs.Common.{◌≡◌, ◌*◌, ◌≤◌, ◌↔◌, All, IfOk, IsTrue, List, ℕ, sym, subst, ◌∙◌}
use Rattle.std.proofs.lemmas.Result.{IfOk-weaker}
use Rattle.sg_defs.specs.Membership.{IsMember}
use Rattle.sg_defs.specs.Vectors.{scale}
use Rattle.sg_glue.proofs.ReachLemmas.{reached-scaled, scaled-positive}
use Rattle.sg_glue.proofs.gluing.is_reached.Goals as goal

pub is_sum-requires-clause-positive : goal.is_sum-requires-clause-positive
is_sum-requires-clause-positive c =
    let d = c.args.divisor in
    let small = c.in_ok-smaller.smaller in
    let whole : scale d small ≡ c.args.part.now = c.in_ok-smaller.ensures ∙ c.as_slice.ensures in
    subst (λ (l : List ℕ). All (λ x. 1 ≤ x) l) (sym c.as_slice-2.ensures) (scaled-positive d small (subst (λ (l : List ℕ). All (λ x. 1 ≤ x) l) (sym whole) c.requires.entries))

pub returns : goal.returns
returns c =
    let d = c.args.divisor in
    let small = c.in_ok-smaller.smaller in
    let whole : scale d small ≡ c.args.part.now = c.in_ok-smaller.ensures ∙ c.as_slice.ensures in
    let same = reached-scaled d small c.args.part.now c.args.times c.requires.positive whole in
    let told = subst (λ (l : List ℕ). IfOk c.is_sum.result (λ holds. IsTrue holds ↔ IsMember l c.args.times)) c.as_slice-2.ensures c.is_sum.ensures in
    IfOk-weaker c.is_sum.result (λ holds. IsTrue holds ↔ IsMember small c.args.times) (λ holds. IsTrue holds ↔ IsMember c.args.part.now (c.args.times * d))
    (λ holds h. ((λ t. same.0 (h.0 t)), (λ m. h.1 (same.1 m)))) told
