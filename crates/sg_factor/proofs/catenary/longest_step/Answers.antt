use Rattle.std.proofs.Common.{◌<◌, ◌^◌, length, set, sym, subst, arith}
use Rattle.sg_factor.specs.declared.catenary.TheConstants.{REACHED}
use Rattle.sg_factor.proofs.ReachLemmas.{IsReached, reached-all}
use Rattle.sg_factor.proofs.ReachSteps.{AreNoted, reach-init, reach-step, reach-fewer}
use Rattle.sg_factor.proofs.catenary.longest_step.Goals as goal

pub reaching-init : goal.reaching-init
reaching-init c =
    let rows = c.args.rows.now in
    let old = c.args.near.now in
    let new = c.note_distances.new.near in
    let n : AreNoted rows REACHED 0 (set old 0 REACHED) new = record { long = c.note_distances.auto.near; kept = c.note_distances.ensures.kept; noted = c.note_distances.ensures.noted } in
    record {
      reached = reach-init rows REACHED old new (2 ^ 63) c.requires.some (omega arith) c.requires.comparable c.requires.comparable.small c.requires.long c.requires.unknown n;
      inside = c.least_place-next.ensures.inside;
      least = c.least_place-next.ensures.least;
    }

pub reaching-preserved : goal.reaching-preserved
reaching-preserved c =
    let rows = c.args.rows.now in
    let near = c.reaching.near in
    let new = c.note_distances-in-reaching.new.near in
    let next = c.reaching.next in
    let i = c.reaching.invariant in
    let inside : next < length rows = omega (arith, i.inside, i.reached.long) in
    let n : AreNoted rows REACHED next (set near next REACHED) new =
    record { long = c.note_distances-in-reaching.auto.near; kept = c.note_distances-in-reaching.ensures.kept; noted = c.note_distances-in-reaching.ensures.noted } in
    record {
      reached = subst (IsReached rows REACHED new) (sym c.max-longest.ensures) (reach-step rows REACHED near new c.reaching.longest next i.reached inside c.reaching-test.true n i.least);
      inside = c.least_place-next-in-reaching.ensures.inside;
      least = c.least_place-next-in-reaching.ensures.least;
    }

pub reaching-smaller : goal.reaching-smaller
reaching-smaller c =
    let rows = c.args.rows.now in
    let near = c.reaching.near in
    let new = c.note_distances-in-reaching.new.near in
    let next = c.reaching.next in
    let i = c.reaching.invariant in
    let inside : next < length rows = omega (arith, i.inside, i.reached.long) in
    let n : AreNoted rows REACHED next (set near next REACHED) new =
    record { long = c.note_distances-in-reaching.auto.near; kept = c.note_distances-in-reaching.ensures.kept; noted = c.note_distances-in-reaching.ensures.noted } in
    reach-fewer rows REACHED near new c.reaching.longest next i.reached inside c.reaching-test.true n

pub returns : goal.returns
returns c =
    let i = c.reaching.invariant in
    reached-all c.args.rows.now REACHED c.reaching.near c.reaching.longest i.reached
    (λ j l. omega (arith, c.reaching-test.false, i.least j (omega (arith, l, i.reached.long))))
