use Rattle.std.proofs.Common.{◌≡◌, refl, sym, subst, arith, to_z, of_z, w64}
use Rattle.std.proofs.lemmas.Int.{ints}
use Rattle.sg_defs.specs.Decomposition.{IsInCover}
use Rattle.sg_irred.specs.Cover.{HasLesser}
use Rattle.sg_irred.proofs.CoverLemmas.{lesser-step}
use Rattle.sg_irred.proofs.cover_of.least_in_cover.Goals as goal

pub loop-least-preserved : goal.loop-least-preserved
loop-least-preserved c =
    let s = lesser-step c.args.table.now (to_z w64 (of_z w64 c.args.h)) c.loop-least.least c.args.from c.multiplicity-multiplicity.result c.multiplicity-multiplicity.ensures.first
    (c.loop-least-test.ensures.0 refl) c.loop-least.invariant.residue in
    record { covered = s.0; residue = s.1; small = omega (arith, c.loop-least.invariant.small) }

pub returns : goal.returns
returns c =
    let G = c.args.table.now in
    let back : to_z w64 (of_z w64 c.args.h) ≡ c.args.h = omega (arith, ints) in
    record {
      covered = subst (λ z. IsInCover G z c.loop-least.least) back c.loop-least.invariant.covered;
      residue = c.loop-least.invariant.residue;
      least = λ t. absurd (let f = c.loop-least-test.ensures.1 (subst (λ z. HasLesser G z c.loop-least.least) (sym back) t) in cc);
    }
