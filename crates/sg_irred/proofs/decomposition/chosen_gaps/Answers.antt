use Rattle.std.proofs.Common.{◌≡◌, ◌+◌, ◌-◌, ◌<◌, suc, [], ◌∷◌, ◌++◌, sym, subst, ◌∙◌, arith, length, reverse, get_or, pos, to_z, of_z, w64}
use Rattle.std.proofs.lemmas.Int.{ints}
use Rattle.std.proofs.lemmas.List.{length-reverse, get_or-reverse}
use Rattle.sg_defs.specs.Decomposition.{IsInEachCover}
use Rattle.sg_irred.specs.Cover.{AreNatural}
use Rattle.sg_irred.proofs.ChoiceLemmas.{IsChosenUpTo, chosen-keep, chosen-leave, chosen-all, natural-push}
use Rattle.sg_irred.proofs.decomposition.chosen_gaps.Goals as goal
use Rattle.sg_irred.proofs.decomposition.chosen_gaps.Goals.{then-is_in_each_cover+in_ok-push, else-is_in_each_cover}

pub loop-i-preserved : goal.loop-i-preserved
loop-i-preserved c =
    let G = c.args.table.now in
    let gaps = c.args.special.now in
    let i = c.loop-i.i in
    let place = length gaps - 1 - i in
    let h = to_z w64 (of_z w64 (get_or gaps place (pos 0))) in
    let inside : i < length gaps = c.loop-i-test.true in
    let bounds = c.requires place (omega (arith, inside)) in
    let low = bounds.0 in
    let high = bounds.1 in
    let same : h ≡ get_or gaps place (pos 0) = omega (arith, ints, low, high) in
    let at : h ≡ get_or (reverse gaps) i (pos 0) = same ∙ sym (get_or-reverse gaps i (pos 0) inside) in
    let within : i < length (reverse gaps) = omega (arith, inside, length-reverse gaps) in
    let next : suc i ≡ i + 1 = omega arith in
    elim c.if-is_in_each_cover.branch [
      | then-is_in_each_cover+in_ok-push w ↦
          let e : c.if-is_in_each_cover.chosen ≡ c.loop-i.chosen ++ h ∷ [] = w.chosen-is ∙ w.in_ok-push.ensures.ok in
          let each = subst (λ l. IsInEachCover G l h) c.as_slice.ensures (c.is_in_each_cover.ensures.0 w.if-is_in_each_cover.true) in
          record {
            chosen = subst (IsChosenUpTo G (reverse gaps) (i + 1)) (sym e)
                (subst (λ k. IsChosenUpTo G (reverse gaps) k (c.loop-i.chosen ++ h ∷ [])) next
                (chosen-keep G (reverse gaps) c.loop-i.chosen i h (pos 0) c.loop-i.invariant.chosen within at each));
            natural = subst AreNatural (sym e) (natural-push c.loop-i.chosen h c.loop-i.invariant.natural (omega (arith, ints, low, same)) (omega (arith, ints, high, same)));
          }
      | else-is_in_each_cover w ↦ record {
        chosen = subst (IsChosenUpTo G (reverse gaps) (i + 1)) (sym w.chosen-is)
            (subst (λ k. IsChosenUpTo G (reverse gaps) k c.loop-i.chosen) next
            (chosen-leave G (reverse gaps) c.loop-i.chosen i h (pos 0) c.loop-i.invariant.chosen within at
            (λ each. absurd (let t = c.is_in_each_cover.ensures.1 (subst (λ l. IsInEachCover G l h) (sym c.as_slice.ensures) each) in let f = w.if-is_in_each_cover.false in cc))));
        natural = subst AreNatural (sym w.chosen-is) c.loop-i.invariant.natural;
      }
    ]

pub returns-clause-chosen : goal.returns-clause-chosen
returns-clause-chosen c =
    let gaps = c.args.special.now in
    let all : c.loop-i.i ≡ length (reverse gaps) = omega (arith, length-reverse gaps) in
    chosen-all c.args.table.now (reverse gaps) c.loop-i.chosen (subst (λ k. IsChosenUpTo c.args.table.now (reverse gaps) k c.loop-i.chosen) all c.loop-i.invariant.chosen)
