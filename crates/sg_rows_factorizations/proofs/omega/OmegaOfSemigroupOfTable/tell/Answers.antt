use Rattle.std.proofs.Common.{◌-◌, length, get_or, ◌∙◌, subst}
use Rattle.sg_omega.specs.Limits.{IsWithinLimit}
use Rattle.sg_rows_factorizations.proofs.Bounds.{semigroup_omega-small}
use Rattle.sg_rows_factorizations.proofs.Telling.{tells_semigroup_omega}
use Rattle.sg_rows_factorizations.proofs.omega.OmegaOfSemigroupOfTable.tell.Goals as goal

pub omega-requires-clause-small : goal.omega-requires-clause-small
omega-requires-clause-small c =
    subst (λ l. IsWithinLimit c.args.table.now (get_or l (length l - 1) 0)) (c.as_slice-generators.ensures ∙ c.generators.ensures.same) (c.is_past.ensures.within c.if-is_past.false)

pub returns : goal.returns
returns c =
    let G = c.args.table.now in
    let own = c.generators.ensures in
    let N = c.in_ok-omega.field-0 in
    let h = c.in_ok-omega.ensures in
    let within = subst (λ l. IsWithinLimit G (get_or l (length l - 1) 0)) (c.as_slice-generators.ensures ∙ own.same) (c.is_past.ensures.within c.if-is_past.false) in
    let small = semigroup_omega-small G own.semigroup own.minimal own.fit (get_or G (length G - 1) 0) N within h in
    tells_semigroup_omega G (c.narrow.ensures.0 c.if-not-narrow.false) N small within h
