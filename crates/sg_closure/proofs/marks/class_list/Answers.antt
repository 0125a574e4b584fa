use Rattle.std.proofs.Common.{arith}
use Rattle.std.proofs.lemmas.List.{length_push}
use Rattle.sg_classes.proofs.GeneratorLemmas.{each-push}
use Rattle.sg_closure.specs.Marks.{IsLeastIn}
use Rattle.sg_closure.proofs.marks.class_list.Goals as goal

pub loop-class-preserved : goal.loop-class-preserved
loop-class-preserved c =
    let before = c.loop-class.invariant in
    let old = c.loop-class.list.items in
    let v = c.least_in.result in
    let n = c.loop-class.class in
    rw c.in_ok-push.ensures.items (record {
      long = omega (arith, length_push old v, before.long);
      entries = each-push (λ i w. IsLeastIn c.args.marks.now c.args.modulus i w) old v n before.long before.entries c.least_in.ensures.least;
    })
