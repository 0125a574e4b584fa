use Rattle.std.proofs.Common.{◌≡◌, ◌<◌, ◌^◌, ◌∷◌, ◌++◌, [], List, ℕ, length, drop, get_or, sym, ap, subst, ◌∙◌}
use Rattle.std.specs.Prelude.{All, Contains}
use Rattle.itertools.specs.Pool.{powerset_can, powerset_left, subsets}
use Rattle.sg_glue.specs.Gluings.{AddsGluing, IsChosen}
use Rattle.sg_glue.proofs.ListingLemmas.{AreUpTo, left_of, upto-none}
use Rattle.sg_glue.proofs.TurnLemmas.{next-part, is-part, part-chosen, found-more, found-all, after-first, fit-small}
use Rattle.sg_glue.proofs.gluing.gluings.Goals as goal

pub loop-choice-init : goal.loop-choice-init
loop-choice-init c =
    let G = c.args.t.now in
    let e : c.as_slice-generators.result.now ≡ G = c.as_slice-generators.ensures ∙ c.generators.ensures.same in
    let rest = after-first c.as_slice-generators.result.now G e in
    let same : c.into_iter-choice-iterator.result ≡ c.in_ok-choice-items.choice-items = c.into_iter-choice-iterator.ensures.into_iter_gives in
    record {
      can = subst powerset_can (sym same) c.in_ok-choice-items.ensures.can;
      finite = tt;
      pool = ap (λ s. s.combinations.pool.items) same ∙ c.in_ok-choice-items.ensures.pool ∙ rest;
      came = [];
      parts = sym (ap powerset_left same ∙ c.in_ok-choice-items.ensures.places ∙ ap (λ l. subsets (length l)) rest);
      found = subst (AreUpTo G []) (sym c.new-list.ensures) (upto-none G);
    }

pub add_gluing-requires-clause-small : goal.add_gluing-requires-clause-small
add_gluing-requires-clause-small c =
    let e : c.as_slice-generators.result.now ≡ c.args.t.now = c.as_slice-generators.ensures ∙ c.generators.ensures.same in
    subst (λ (l : List ℕ). All (λ g. g < 2 ^ 62) l) (sym e) (fit-small c.args.t.now c.generators.ensures.fit)

pub add_gluing-requires-clause-chosen : goal.add_gluing-requires-clause-chosen
add_gluing-requires-clause-chosen c =
    let G = c.args.t.now in
    let P = drop 1 G in
    let inv = c.loop-choice.invariant in
    let e : c.as_slice-generators.result.now ≡ G = c.as_slice-generators.ensures ∙ c.generators.ensures.same in
    let t = next-part (λ x y h. h) P c.loop-choice.choice-iterator c.next.new.self c.in-Some.choice c.in_ok-chosen.chosen c.in_ok-chosen.was inv.pool c.in-Some.ensures.steps in
    let part : Contains (subsets (length P)) t.1 = is-part (length P) inv.came (powerset_left c.loop-choice.choice-iterator) (powerset_left c.next.new.self) t.1 inv.parts t.2 in
    let left : c.in_ok-left.left ≡ left_of (get_or G 0 0) P t.1 = c.in_ok-left.ensures ∙ ap (λ l. get_or l 0 0 ∷ c.deref.result.now) e ∙ ap (λ l. get_or G 0 0 ∷ l) (c.deref.ensures.value ∙ t.3 part) in
    subst (λ (l : List ℕ). IsChosen l c.in_ok-left.left) (sym e) (subst (IsChosen G) (sym left)
    (part-chosen G t.1 c.generators.ensures.semigroup.not_empty c.generators.ensures.minimal.ascending part))

pub loop-choice-preserved : goal.loop-choice-preserved
loop-choice-preserved c =
    let G = c.args.t.now in
    let P = drop 1 G in
    let inv = c.loop-choice.invariant in
    let e : c.as_slice-generators.result.now ≡ G = c.as_slice-generators.ensures ∙ c.generators.ensures.same in
    let t = next-part (λ x y h. h) P c.loop-choice.choice-iterator c.next.new.self c.in-Some.choice c.in_ok-chosen.chosen c.in_ok-chosen.was inv.pool c.in-Some.ensures.steps in
    let part : Contains (subsets (length P)) t.1 = is-part (length P) inv.came (powerset_left c.loop-choice.choice-iterator) (powerset_left c.next.new.self) t.1 inv.parts t.2 in
    let left : c.in_ok-left.left ≡ left_of (get_or G 0 0) P t.1 = c.in_ok-left.ensures ∙ ap (λ l. get_or l 0 0 ∷ c.deref.result.now) e ∙ ap (λ l. get_or G 0 0 ∷ l) (c.deref.ensures.value ∙ t.3 part) in
    let adds : AddsGluing G (left_of (get_or G 0 0) P t.1) c.loop-choice.list c.add_gluing.new.list =
    subst (λ (l : List ℕ). AddsGluing G l c.loop-choice.list c.add_gluing.new.list) left (subst (λ (l : List ℕ). AddsGluing l c.in_ok-left.left c.loop-choice.list c.add_gluing.new.list) e c.in_ok-add_gluing.ensures) in
    let more = found-more G inv.came (powerset_left c.loop-choice.choice-iterator) (powerset_left c.next.new.self) t.1 c.loop-choice.list c.add_gluing.new.list
    c.generators.ensures.semigroup.not_empty c.generators.ensures.minimal.ascending inv.parts t.2 inv.found adds in
    record {
      can = c.in-Some.ensures.goes.keeps;
      finite = tt;
      pool = sym t.0 ∙ inv.pool;
      came = inv.came ++ t.1 ∷ [];
      parts = more.0;
      found = more.1;
    }

pub returns : goal.returns
returns c =
    let inv = c.loop-choice.invariant in
    found-all c.args.t.now inv.came (powerset_left c.loop-choice.choice-iterator) c.loop-choice.list
    c.generators.ensures.semigroup.not_empty c.generators.ensures.minimal.ascending inv.parts c.in-None.ensures.steps.1 inv.found
