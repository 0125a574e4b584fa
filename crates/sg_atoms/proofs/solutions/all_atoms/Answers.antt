use Rattle.std.proofs.Common.{◌≡◌, ◌-◌, ◌≤◌, ℕ, List, length, sum, sym, subst, arith}
use Rattle.std.specs.Prelude.{◌↔◌, All, Contains}
use Rattle.std.proofs.lemmas.Result.{err_from_is_err_and}
use Rattle.sg_nonunique.specs.Counts.{Exceeds}
use Rattle.sg_atoms.specs.Growth.{IsGrowthOf, IsUnitBefore}
use Rattle.sg_atoms.proofs.FaultLemmas.{spent-weaker}
use Rattle.sg_atoms.proofs.ReachLemmas.{HasReached, reached-first, spent-first, reached-short, reached-places, reached-atoms, reached-within, noted-places, reached-next, spent-next, grown-same, many-same, noted-same}
use Rattle.sg_atoms.proofs.solutions.all_atoms.Goals as goal

pub levels-init : goal.levels-init
levels-init c =
    let E = c.args.equations.now in
    let B = c.args.budget in
    let level = c.in_ok-level.level in
    let left = B - c.len-first.result in
    let units : (q : List ℕ) → Contains level q ↔ IsUnitBefore (length E) (length E) q =
    subst (λ n. (q : List ℕ) → Contains level q ↔ IsUnitBefore n n q) c.places.ensures.number c.in_ok-level.ensures.units in
    subst (λ a. HasReached E B a level left) (sym c.new-atoms.ensures)
    (reached-first E c.places.ensures.matrix.shape B level left units c.len-first.ensures.different (omega (arith, c.in_ok-level.ensures.within, c.len-first.ensures.number)))

pub returns-in_err-level-clause-spent : goal.returns-in_err-level-clause-spent
returns-in_err-level-clause-spent c =
    let E = c.args.equations.now in
    let p = err_from_is_err_and c.from_residual.result c.from_residual.ensures.1 in
    let many = spent-weaker
    (λ (h : Exceeds (IsUnitBefore c.places.result c.places.result) c.args.budget).
    spent-first E c.places.ensures.matrix.shape c.args.budget (subst (λ n. Exceeds (IsUnitBefore n n) c.args.budget) c.places.ensures.number h))
    c.in_err-level.field-0.0 c.in_err-level.ensures.spent in
    rw (p.1, p.2) many

pub note_solutions-requires-clause-places : goal.note_solutions-requires-clause-places
note_solutions-requires-clause-places c =
    let E = c.args.equations.now in
    subst (All (λ p. length p ≡ length E)) (sym c.as_slice.ensures.vectors)
    (reached-places E c.places.ensures.matrix.shape c.args.budget c.levels.atoms c.levels.level c.levels.left c.levels.invariant)

pub note_solutions-requires-clause-short : goal.note_solutions-requires-clause-short
note_solutions-requires-clause-short c =
    let E = c.args.equations.now in
    subst (All (λ p. sum p ≤ 1048576)) (sym c.as_slice.ensures.vectors)
    (reached-short E c.places.ensures.matrix.shape c.args.budget c.levels.atoms c.levels.level c.levels.left c.levels.invariant c.requires)

pub next_level-requires-clause-places : goal.next_level-requires-clause-places
next_level-requires-clause-places c =
    let E = c.args.equations.now in
    subst (All (λ p. length p ≡ length E)) (sym c.as_slice-in-levels-2.ensures.vectors)
    (reached-places E c.places.ensures.matrix.shape c.args.budget c.levels.atoms c.levels.level c.levels.left c.levels.invariant)

pub next_level-requires-clause-short : goal.next_level-requires-clause-short
next_level-requires-clause-short c =
    let E = c.args.equations.now in
    subst (All (λ p. sum p ≤ 1048576)) (sym c.as_slice-in-levels-2.ensures.vectors)
    (reached-short E c.places.ensures.matrix.shape c.args.budget c.levels.atoms c.levels.level c.levels.left c.levels.invariant c.requires)

pub next_level-requires-clause-atoms : goal.next_level-requires-clause-atoms
next_level-requires-clause-atoms c =
    let E = c.args.equations.now in
    let atoms = c.levels.atoms in
    let more = c.note_solutions.new.atoms in
    let noted = noted-same E c.as_slice.result.now c.levels.level atoms more c.as_slice.ensures.vectors c.in_ok-note_solutions.ensures in
    subst (All (λ a. length a ≡ length E)) (sym c.as_slice-in-levels.ensures.vectors)
    (noted-places E c.places.ensures.matrix.shape c.args.budget atoms c.levels.level c.levels.left c.levels.invariant more noted)

pub returns-in_err-next-clause-spent : goal.returns-in_err-next-clause-spent
returns-in_err-next-clause-spent c =
    let E = c.args.equations.now in
    let atoms = c.levels.atoms in
    let level = c.levels.level in
    let more = c.note_solutions.new.atoms in
    let noted = noted-same E c.as_slice.result.now level atoms more c.as_slice.ensures.vectors c.in_ok-note_solutions.ensures in
    let p = err_from_is_err_and c.from_residual-in_err-next.result c.from_residual-in_err-next.ensures.1 in
    let many = spent-weaker
    (λ (h : Exceeds (IsGrowthOf E c.as_slice-in-levels.result.now c.as_slice-in-levels-2.result.now) c.levels.left).
    spent-next E c.places.ensures.matrix.shape c.args.budget atoms level c.levels.left c.levels.invariant more noted
    (many-same E c.as_slice-in-levels.result.now more c.as_slice-in-levels-2.result.now level c.as_slice-in-levels.ensures.vectors c.as_slice-in-levels-2.ensures.vectors c.levels.left h))
    c.in_err-next.field-0.0 c.in_err-next.ensures.spent in
    rw (p.1, p.2) many

pub levels-preserved : goal.levels-preserved
levels-preserved c =
    let E = c.args.equations.now in
    let atoms = c.levels.atoms in
    let level = c.levels.level in
    let left = c.levels.left in
    let more = c.note_solutions.new.atoms in
    let next = c.in_ok-next.next in
    let noted = noted-same E c.as_slice.result.now level atoms more c.as_slice.ensures.vectors c.in_ok-note_solutions.ensures in
    let grown = grown-same E c.as_slice-in-levels.result.now more c.as_slice-in-levels-2.result.now level c.as_slice-in-levels.ensures.vectors c.as_slice-in-levels-2.ensures.vectors next c.in_ok-next.ensures.grown in
    reached-next E c.places.ensures.matrix.shape c.args.budget atoms level left c.levels.invariant more noted
    (omega (arith, c.levels-test.true, c.len.ensures.number)) next (left - c.len-count.result) grown c.len-count.ensures.different
    (omega (arith, c.in_ok-next.ensures.within, c.len-count.ensures.number))

pub returns-clause-atoms : goal.returns-clause-atoms
returns-clause-atoms c =
    reached-atoms c.args.equations.now c.places.ensures.matrix.shape c.args.budget c.levels.atoms c.levels.level c.levels.left c.levels.invariant
    (omega (arith, c.levels-test.false, c.len.ensures.number))

pub returns-clause-within : goal.returns-clause-within
returns-clause-within c =
    reached-within c.args.equations.now c.places.ensures.matrix.shape c.args.budget c.levels.atoms c.levels.level c.levels.left c.levels.invariant
    (omega (arith, c.levels-test.false, c.len.ensures.number))
