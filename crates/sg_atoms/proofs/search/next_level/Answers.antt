use Rattle.std.proofs.Common.{◌≡◌, ◌↔◌, ◌⊎◌, ℕ, List, [], take, get_or, subst, ◌∙◌, arith}
use Rattle.std.specs.Prelude.{Contains}
use Rattle.std.proofs.lemmas.List.{get_or_default, take_all}
use Rattle.std.proofs.lemmas.Result.{err_from_is_err_and}
use Rattle.sg_nonunique.specs.Counts.{Exceeds}
use Rattle.sg_atoms.specs.Faults.{IsSpent}
use Rattle.sg_atoms.specs.Growth.{Gathers, IsGrowth, IsGrowthOf}
use Rattle.sg_atoms.proofs.FaultLemmas.{spent-weaker}
use Rattle.sg_atoms.proofs.GrowthLemmas.{growth-more, growth-spent}
use Rattle.sg_atoms.proofs.search.next_level.Goals as goal

pub returns-in_err-grow-clause-spent : goal.returns-in_err-grow-clause-spent
returns-in_err-grow-clause-spent c =
    let G = c.args.equations.now in
    let A = c.args.atoms.now in
    let level = c.args.level.now in
    let n = c.loop-vector.vector-index in
    let here = c.loop-vector.next in
    let same : c.as_slice.result.now ≡ get_or level n [] = c.as_slice.ensures ∙ c.vector-item.is ∙ get_or_default level n c.vector-item.result [] c.loop-vector-test.true in
    let p = err_from_is_err_and c.from_residual.result c.from_residual.ensures.1 in
    let many = spent-weaker (growth-spent level n c.loop-vector-test.true G A here c.args.room c.loop-vector.invariant.grown) c.in_err-grow.field-0.0
    (subst (λ v. IsSpent (Exceeds (λ q. Contains here q ⊎ IsGrowth G A v q) c.args.room) c.in_err-grow.field-0.0) same c.in_err-grow.ensures.spent) in
    rw (p.1, p.2) many

pub loop-vector-preserved : goal.loop-vector-preserved
loop-vector-preserved c =
    let G = c.args.equations.now in
    let A = c.args.atoms.now in
    let level = c.args.level.now in
    let n = c.loop-vector.vector-index in
    let here = c.loop-vector.next in
    let new = c.grow.new.next in
    let same : c.as_slice.result.now ≡ get_or level n [] = c.as_slice.ensures ∙ c.vector-item.is ∙ get_or_default level n c.vector-item.result [] c.loop-vector-test.true in
    record {
      grown = growth-more level n c.loop-vector-test.true G A here new c.loop-vector.invariant.grown (subst (λ v. Gathers (IsGrowth G A v) here new) same c.in_ok-grow.ensures.grown);
      within = c.in_ok-grow.ensures.within;
    }

pub returns-clause-grown : goal.returns-clause-grown
returns-clause-grown c =
    let level = c.args.level.now in
    let whole : take c.loop-vector.vector-index level ≡ level = take_all c.loop-vector.vector-index level (omega (arith, c.loop-vector-test.false)) in
    subst (λ l. (q : List ℕ) → Contains c.loop-vector.next q ↔ IsGrowthOf c.args.equations.now c.args.atoms.now l q) whole c.loop-vector.invariant.grown
