use Rattle.std.proofs.Common.{◌≡◌, ◌+◌, ◌<◌, get_or, length, subst, arith}
use Rattle.std.specs.Prelude.{Contains}
use Rattle.sg_classes.proofs.GeneratorLemmas.{place-contains}
use Rattle.sg_tables.proofs.StepLemmas.{tops-all, tops-none, tops-push, tops-skip}
use Rattle.sg_tables.proofs.steps.tops_of.Goals as goal
use Rattle.sg_tables.proofs.steps.tops_of.Goals.{then-next-generators+in_ok-push, else-next-generators+else-generators-next-2}

pub loop-generator-init : goal.loop-generator-init
loop-generator-init c = record {
  next = omega arith;
  tops = rw c.new-tops.ensures.items (tops-none c.args.generators.now c.args.step);
}

pub loop-generator-preserved : goal.loop-generator-preserved
loop-generator-preserved c =
    let G = c.args.generators.now in
    let i = c.loop-generator.generator-index in
    let tops = c.loop-generator.tops.items in
    let before = c.loop-generator.invariant.tops in
    elim c.if-next-generators.branch [
      | then-next-generators+in_ok-push w ↦ record {
        next = c.loop-next.invariant;
        tops = rw (w.tops-is, w.in_ok-push.ensures.items) (tops-push G c.args.step tops i c.requires.ascending (omega arith) before);
      }
      | else-next-generators+else-generators-next-2 w ↦
          let j = c.loop-next.next in
          let inside : j < length G = omega (arith, w.if-next-generators.false, c.loop-next.invariant) in
          let at : get_or G j 0 ≡ get_or G i 0 + c.args.step = omega (arith, w.if-generators-next-2.false, c.requires.some) in
          record {
            next = c.loop-next.invariant;
            tops = rw w.tops-is (tops-skip G c.args.step tops i before (subst (Contains G) at (place-contains G j inside)));
          }
    ]

pub returns : goal.returns
returns c = tops-all c.args.generators.now c.args.step c.loop-generator.tops.items c.loop-generator.generator-index c.requires.some (omega arith) c.loop-generator.invariant.tops
