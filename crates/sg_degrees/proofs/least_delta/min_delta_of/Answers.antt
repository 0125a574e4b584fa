use Rattle.std.proofs.Common.{ℕ, ◌<◌, ◌≤◌, List, length, get_or, sym, subst, ap, arith}
use Rattle.sg_defs.proofs.MinimalLemmas.{first-least}
use Rattle.sg_laws_families.specs.Bounds.{IsDifferenceGcd}
use Rattle.sg_laws_families.proofs.DifferenceLemmas.{min_delta-none, min_delta-some}
use Rattle.sg_degrees.proofs.least_delta.min_delta_of.Goals as goal

pub difference_gcd-common-requires-clause-not_empty : goal.difference_gcd-common-requires-clause-not_empty
difference_gcd-common-requires-clause-not_empty c = omega (arith, c.requires.semigroup.not_empty, ap length c.as_slice.ensures)

pub difference_gcd-common-requires-clause-least : goal.difference_gcd-common-requires-clause-least
difference_gcd-common-requires-clause-least c =
    subst (λ (G : List ℕ). (k : ℕ) → k < length G → get_or G 0 0 ≤ get_or G k 0) (sym c.as_slice.ensures) (first-least c.args.generators.now c.requires.ascending)

pub returns-then-common-eq0 : goal.returns-then-common-eq0
returns-then-common-eq0 c =
    let G = c.args.generators.now in
    let h = subst (λ (H : List ℕ). IsDifferenceGcd H c.difference_gcd-common.result) c.as_slice.ensures c.difference_gcd-common.ensures in
    min_delta-none G c.requires.semigroup (first-least G c.requires.ascending) c.difference_gcd-common.result h c.if-common-eq0.true

pub returns : goal.returns
returns c =
    let G = c.args.generators.now in
    let h = subst (λ (H : List ℕ). IsDifferenceGcd H c.difference_gcd-common.result) c.as_slice.ensures c.difference_gcd-common.ensures in
    min_delta-some G c.requires.semigroup (first-least G c.requires.ascending) c.difference_gcd-common.result h (omega (arith, c.if-common-eq0.false))
