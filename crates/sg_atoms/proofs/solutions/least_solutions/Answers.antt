use Rattle.std.proofs.Common.{◌≡◌, sym, subst, ◌∙◌}
use Rattle.std.proofs.lemmas.Result.{err_from_is_err_and}
use Rattle.sg_nonunique.specs.Counts.{Exceeds}
use Rattle.sg_nonunique.specs.Equations.{IsGrown}
use Rattle.sg_atoms.specs.Matrices.{rows_of, IsMatrix}
use Rattle.sg_atoms.specs.Sets.{AreDifferent}
use Rattle.sg_atoms.proofs.FaultLemmas.{spent-weaker}
use Rattle.sg_atoms.proofs.ReachLemmas.{atoms-one_length, atoms-ascending}
use Rattle.sg_atoms.proofs.solutions.least_solutions.Goals as goal

pub new-requires : goal.new-requires
new-requires c = subst IsMatrix (sym c.as_slice.ensures) c.requires.matrix

pub ascending-requires-clause-different : goal.ascending-requires-clause-different
ascending-requires-clause-different c = subst AreDifferent (sym c.as_slice-2.ensures.vectors) c.as_slice-2.ensures.different

pub ascending-requires-clause-places : goal.ascending-requires-clause-places
ascending-requires-clause-places c =
    atoms-one_length c.in_ok-equations.equations c.in_ok-atoms.atoms c.as_slice-2.result.now c.as_slice-2.ensures.vectors c.in_ok-atoms.ensures.atoms

pub returns-in_err-atoms-clause-spent : goal.returns-in_err-atoms-clause-spent
returns-in_err-atoms-clause-spent c =
    let E = c.in_ok-equations.equations in
    let is : E ≡ c.args.columns.now = c.in_ok-equations.ensures ∙ c.as_slice.ensures in
    let p = err_from_is_err_and c.from_residual-in_err-atoms.result c.from_residual-in_err-atoms.ensures.1 in
    let many = spent-weaker (λ (h : Exceeds (IsGrown (rows_of E) E) c.args.budget). subst (λ G. Exceeds (IsGrown (rows_of G) G) c.args.budget) is h)
    c.in_err-atoms.field-0.0 c.in_err-atoms.ensures.spent in
    rw (p.1, p.2) many

pub returns-clause-atoms : goal.returns-clause-atoms
returns-clause-atoms c =
    let E = c.in_ok-equations.equations in
    let is : E ≡ c.args.columns.now = c.in_ok-equations.ensures ∙ c.as_slice.ensures in
    atoms-ascending E c.in_ok-atoms.atoms c.as_slice-2.result.now c.as_slice-2.ensures.vectors c.in_ok-atoms.ensures.atoms c.args.columns.now c.in_ok-rows.rows is c.in_ok-rows.ensures

pub returns-clause-within : goal.returns-clause-within
returns-clause-within c =
    let E = c.in_ok-equations.equations in
    let is : E ≡ c.args.columns.now = c.in_ok-equations.ensures ∙ c.as_slice.ensures in
    subst (λ G. Exceeds (IsGrown (rows_of G) G) c.args.budget → ⊥) is c.in_ok-atoms.ensures.within
