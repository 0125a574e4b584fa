use Rattle.std.proofs.Common.{◌∙◌, arith}
use Rattle.std.proofs.lemmas.Bool.{both_ways}
use Rattle.std.proofs.Math.Nat.{mod-eq_of_lt, add-mod_right}
use Rattle.sg_closure.proofs.MarkLemmas.{class-begins, class-passes, out-below}
use Rattle.sg_closure.proofs.marks.least_in.Goals as goal

pub loop-n-init : goal.loop-n-init
loop-n-init c = record {
  residue = mod-eq_of_lt c.requires.class;
  passed = λ k e l p. class-begins c.args.modulus c.args.class k c.requires.class e l;
}

pub loop-n-preserved : goal.loop-n-preserved
loop-n-preserved c = record {
  residue = add-mod_right c.loop-n.n c.args.modulus ∙ c.loop-n.invariant.residue;
  passed = class-passes c.args.marks.now c.args.modulus c.args.class c.loop-n.n (omega (arith, c.requires.class)) c.loop-n.invariant.residue c.loop-n.invariant.passed
      (λ p. both_ways c.is_in.result c.loop-n-test.true (c.is_in.ensures.1 p));
}

pub loop-n-smaller : goal.loop-n-smaller
loop-n-smaller c =
    omega (arith, c.requires.class, out-below c.args.marks.now c.loop-n.n (λ p. both_ways c.is_in.result c.loop-n-test.true (c.is_in.ensures.1 p)))

pub overflow_add-n : goal.overflow_add-n
overflow_add-n c =
    omega (arith, c.requires.short, c.requires.small, out-below c.args.marks.now c.loop-n.n (λ p. both_ways c.is_in.result c.loop-n-test.true (c.is_in.ensures.1 p)))

pub returns : goal.returns
returns c = record {
  least = record {
    inside = c.is_in.ensures.0 c.loop-n-test.false;
    residue = c.loop-n.invariant.residue;
    least = c.loop-n.invariant.passed;
  };
}
