use Rattle.std.proofs.Common.{◌≡◌, [], take, get_or, subst, ◌∙◌, arith}
use Rattle.std.specs.Prelude.{Contains}
use Rattle.std.proofs.lemmas.List.{get_or_default, take_all}
use Rattle.sg_nonunique.specs.Equations.{IsSolution}
use Rattle.sg_atoms.specs.Growth.{Gathers}
use Rattle.sg_atoms.specs.Matrices.{rows_of}
use Rattle.sg_atoms.proofs.GrowthLemmas.{nothing-gathers, front-gathers, contains-nothing}
use Rattle.sg_atoms.proofs.solutions.note_solutions.Goals as goal

pub loop-vector-init : goal.loop-vector-init
loop-vector-init c =
    let G = c.args.equations.now in
    nothing-gathers (λ q. Contains [] q × IsSolution (rows_of G) G q) c.args.atoms.now (λ q h. contains-nothing q h.0)

pub loop-vector-preserved : goal.loop-vector-preserved
loop-vector-preserved c =
    let G = c.args.equations.now in
    let level = c.args.level.now in
    let n = c.loop-vector.vector-index in
    let here = c.loop-vector.atoms in
    let new = c.note.new.atoms in
    let same : c.vector-item.result ≡ get_or level n [] = c.vector-item.is ∙ get_or_default level n c.vector-item.result [] c.loop-vector-test.true in
    front-gathers level n c.loop-vector-test.true (IsSolution (rows_of G) G) c.args.atoms.now here new c.loop-vector.invariant
    (subst (λ v. Gathers (λ q. (q ≡ v) × IsSolution (rows_of G) G q) here new) same c.in_ok-note.ensures)

pub returns : goal.returns
returns c =
    let G = c.args.equations.now in
    let level = c.args.level.now in
    let whole : take c.loop-vector.vector-index level ≡ level = take_all c.loop-vector.vector-index level (omega (arith, c.loop-vector-test.false)) in
    subst (λ l. Gathers (λ q. Contains l q × IsSolution (rows_of G) G q) c.args.atoms.now c.loop-vector.atoms) whole c.loop-vector.invariant
