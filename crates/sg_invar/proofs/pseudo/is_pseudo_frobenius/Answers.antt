use Rattle.std.proofs.Common.{◌≡◌, ℕ, ◌+◌, ◌-◌, ◌<◌, ◌≤◌, List, length, refl, ap, subst, ◌∙◌, get_or, inl, inr, arith, ℤ, pos, ◌+ℤ◌, to_z, of_z, w64}
use Rattle.std.proofs.lemmas.Bool.{cases_lt}
use Rattle.std.proofs.lemmas.Int.{ints}
use Rattle.sg_defs.specs.Membership.{IsIntegerMember}
use Rattle.sg_invar.proofs.PseudoFrobeniusLemmas.{outside-below, pseudo_frobenius-from_generators, pseudo_frobenius-generators}
use Rattle.sg_invar.proofs.pseudo.is_pseudo_frobenius.Goals as goal
use Rattle.sg_invar.proofs.pseudo.is_pseudo_frobenius.Goals.{then-not-is_moved_inside-via-then-not-is_moved_inside, then-not-is_moved_inside-via-else-not-is_moved_inside+then-not-is_moved_inside-2}

pub returns-then-not-is_moved_inside : goal.returns-then-not-is_moved_inside
returns-then-not-is_moved_inside c =
    let G = c.args.table.now in
    let x = c.args.x in
    let step = c.loop-step.step in
    let count = c.count_up_to-count.result in
    let back : x ≡ to_z w64 (of_z w64 x) = omega (arith, ints) in
    let all = ap length (c.as_slice.ensures ∙ c.generators.ensures.same) in
    let first : step < length G = omega (arith, all, c.count_up_to-count.ensures.inside, c.div_ceil-step-end.ensures, c.loop-step-test.true) in
    let last : count - 1 - step < length G = omega (arith, all, c.count_up_to-count.ensures.inside, c.div_ceil-step-end.ensures, c.loop-step-test.true) in (
      (λ h. absurd cc),
      (λ p. elim c.then-not-is_moved_inside.branch [
        | then-not-is_moved_inside-via-then-not-is_moved_inside w ↦
            w.if-not-is_moved_inside.ensures.1
            (subst (λ z. IsIntegerMember G (z +ℤ pos (get_or G step 0))) back (pseudo_frobenius-generators G x c.generators.ensures.semigroup p step first))
        | then-not-is_moved_inside-via-else-not-is_moved_inside+then-not-is_moved_inside-2 w ↦
            w.if-not-is_moved_inside-2.ensures.1
            (subst (λ z. IsIntegerMember G (z +ℤ pos (get_or G (count - 1 - step) 0))) back (pseudo_frobenius-generators G x c.generators.ensures.semigroup p (count - 1 - step) last))
      ]),
    )

pub returns : goal.returns
returns c = ((λ h. pseudo_frobenius-from_generators G x c.requires.outside whole), (λ h. refl))
  where
    G : List ℕ
    G = c.args.table.now

    x : ℤ
    x = c.args.x

    count : ℕ
    count = c.count_up_to-count.result

    back : to_z w64 (of_z w64 x) ≡ x
    back = omega (arith, ints)

    same : c.as_slice.result.now ≡ G
    same = c.as_slice.ensures ∙ c.generators.ensures.same

    whole : (k : ℕ) → k < length G → IsIntegerMember G (x +ℤ pos (get_or G k 0))
    whole k inside = elim (cases_lt k count) [
      | inl within ↦ subst (λ z. IsIntegerMember G (z +ℤ pos (get_or G k 0))) back (elim (cases_lt k c.loop-step.step) [
        | inl early ↦ c.loop-step.invariant.front k early
        | inr late ↦ c.loop-step.invariant.back k within (omega (arith, late, within, c.div_ceil-step-end.ensures, c.loop-step-test.false))
      ])
      | inr past ↦
          let below = outside-below G c.args.frobenius x c.requires.frobenius c.requires.outside in
          let far = c.count_up_to-count.ensures.after k past (omega (arith, inside, ap length same)) in
          c.requires.frobenius.above (x +ℤ pos (get_or G k 0)) (omega (arith, ints, below, far, ap (λ l. get_or l k 0) same))
    ]
