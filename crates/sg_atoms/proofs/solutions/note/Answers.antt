use Rattle.std.proofs.Common.{◌≡◌, false, true, refl, sym, subst, ◌∙◌}
use Rattle.std.proofs.lemmas.Result.{on_ok_weaker}
use Rattle.sg_nonunique.specs.Equations.{IsSolution}
use Rattle.sg_atoms.specs.Matrices.{rows_of}
use Rattle.sg_atoms.proofs.GrowthLemmas.{nothing-gathers, solution-gathers}
use Rattle.sg_atoms.proofs.solutions.note.Goals as goal

pub returns-then-not-is_solution : goal.returns-then-not-is_solution
returns-then-not-is_solution c =
    let G = c.args.equations.now in
    nothing-gathers (λ q. (q ≡ c.args.vector.now) × IsSolution (rows_of G) G q) c.args.atoms.now
    (λ q h.
    let f : false ≡ true = c.if-not-is_solution.ensures.1 (subst (IsSolution (rows_of G) G) (h.0 ∙ sym c.as_slice.ensures) h.1) in
    cc)

pub returns : goal.returns
returns c =
    let G = c.args.equations.now in
    on_ok_weaker c.insert.result
    (solution-gathers (IsSolution (rows_of G) G) c.args.atoms.now c.insert.new.self c.args.vector.now c.in_ok-copy.copy c.in_ok-copy.ensures
    (subst (IsSolution (rows_of G) G) c.as_slice.ensures (c.if-not-is_solution.ensures.0 refl)))
    c.insert.ensures.ok
