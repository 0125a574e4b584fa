use Rattle.std.proofs.Common.{◌≡◌, ◌++◌, [], ◌∷◌, get_or, refl, sym, ap, subst, ◌∙◌, arith, pos, ◌+ℤ◌, to_z, of_z, w64}
use Rattle.std.proofs.lemmas.Int.{ints}
use Rattle.sg_lawful.specs.Generators.{AreSmall, IsSmall}
use Rattle.sg_ideal.proofs.RaiseLemmas.{raised-push, raised-large, small-push}
use Rattle.sg_ideal.proofs.heads.raise.Goals as goal

pub returns-then-not-is_small-clause-refused : goal.returns-then-not-is_small-clause-refused
returns-then-not-is_small-clause-refused c =
    let H = c.args.numbers.now in
    let k = c.loop-number.number-index in
    let s = c.requires.small k c.loop-number-test.true in
    let x = to_z w64 (of_z w64 (to_z w64 (of_z w64 c.args.base) +ℤ to_z w64 (get_or H k 0))) in
    let e : c.args.base +ℤ pos (get_or H k 0) ≡ x = omega (arith, ints, s) in
    raised-large c.args.base H k c.loop-number-test.true (λ p. absurd (let f = c.if-not-is_small.ensures.1 (subst IsSmall e p) in cc))

pub loop-number-preserved : goal.loop-number-preserved
loop-number-preserved c =
    let H = c.args.numbers.now in
    let k = c.loop-number.number-index in
    let base = to_z w64 (of_z w64 c.args.base) in
    let s = c.requires.small k c.loop-number-test.true in
    let x = to_z w64 (of_z w64 (base +ℤ to_z w64 (get_or H k 0))) in
    let e : x ≡ base +ℤ pos (get_or H k 0) = omega (arith, ints, s) in
    let pushed : c.push.new.self ≡ c.loop-number.list ++ (base +ℤ pos (get_or H k 0)) ∷ [] = c.in_ok-push.ensures.ok ∙ ap (λ y. c.loop-number.list ++ y ∷ []) e in
    let small : IsSmall (base +ℤ pos (get_or H k 0)) = subst IsSmall e (c.if-not-is_small.ensures.0 refl) in
    record {
      raised = pushed ∙ raised-push base H k c.loop-number.list c.loop-number-test.true c.loop-number.invariant.raised;
      small = subst AreSmall (sym pushed) (small-push c.loop-number.list (base +ℤ pos (get_or H k 0)) c.loop-number.invariant.small small);
    }
