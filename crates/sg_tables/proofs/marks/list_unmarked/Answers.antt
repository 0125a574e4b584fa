use Rattle.std.proofs.Common.{◌≡◌, [], ◌∷◌, get_or, refl, ◌∙◌, arith}
use Rattle.sg_tables.proofs.ClosingLemmas.{marked-split, unmarked-whole}
use Rattle.sg_tables.proofs.FrontLemmas.{front-drop, front-first, front-generates, front-keep, pushed-empty}
use Rattle.sg_tables.proofs.marks.list_unmarked.Goals as goal
use Rattle.sg_tables.proofs.marks.list_unmarked.Goals.{then-is_unmarked+in_ok-push-2, else-is_unmarked}

pub loop-place-init : goal.loop-place-init
loop-place-init c =
    let m = get_or c.args.generators.now 0 0 in
    let e : c.push.new.self ≡ m ∷ [] = c.in_ok-push.ensures.ok ∙ pushed-empty c.args.minimal.now m c.requires.empty in
    front-first c.args.generators.now c.requires.table.semigroup c.requires.ascending c.push.new.self e

pub loop-place-preserved : goal.loop-place-preserved
loop-place-preserved c =
    let D = c.args.generators.now in
    let t = c.args.table.now in
    let s = c.args.summands.now in
    let S = c.requires.table.semigroup in
    let up = c.requires.ascending in
    let M = c.loop-place.minimal in
    let k = c.loop-place.place in
    elim c.if-is_unmarked.branch [
      | then-is_unmarked+in_ok-push-2 w ↦
          rw (w.minimal-is, w.in_ok-push-2.ensures.ok) (front-keep D S up M k (omega arith) c.loop-place.invariant
          (unmarked-whole D t s S c.requires.found c.requires.settled c.requires.table up c.requires.multiplicity k (omega arith) (w.if-is_unmarked.ensures.0 refl)))
      | else-is_unmarked w ↦
          rw w.minimal-is (front-drop D S up M k (omega arith) c.loop-place.invariant
          (marked-split D t s S c.requires.found c.requires.settled c.requires.table up c.requires.multiplicity k (omega arith) (omega arith) (λ h. absurd (let f = w.if-is_unmarked.ensures.1 h in cc))))
    ]

pub returns : goal.returns
returns c =
    front-generates c.args.generators.now c.requires.table.semigroup c.requires.ascending c.loop-place.minimal c.loop-place.place (omega arith) c.loop-place.invariant
