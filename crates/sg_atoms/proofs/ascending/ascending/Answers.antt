use Rattle.std.proofs.Common.{◌≡◌, sym, subst, ◌∙◌, arith}
use Rattle.std.proofs.lemmas.List.{take_all}
use Rattle.sg_defs.specs.Vectors.{ListsAscending}
use Rattle.std.specs.Prelude.{Contains}
use Rattle.std.specs.List.Sorted.{IsPermutation}
use Rattle.sg_atoms.proofs.AscendingLemmas.{ascending-sorted}
use Rattle.sg_atoms.proofs.ascending.ascending.Goals as goal

pub returns : goal.returns
returns c =
    let l = c.args.vectors.now in
    let m = c.sort_unstable.new.self.items in
    let all : c.loop-vector.sorted.items ≡ l = c.loop-vector.invariant ∙ take_all c.loop-vector.vector-index l (omega (arith, c.loop-vector-test.false)) in
    let whole : c.loop-vector-2.rows ≡ m = c.loop-vector-2.invariant ∙ take_all c.loop-vector-2.vector-index c.deref-vector-items.result.now (omega (arith, c.loop-vector-2-test.false)) ∙ c.deref-vector-items.ensures.value in
    subst (ListsAscending (Contains l)) (sym whole)
    (ascending-sorted l m c.requires.different c.requires.places (subst (λ k. IsPermutation k m) all c.sort_unstable.ensures.permutation) c.sort_unstable.ensures.sorted)
