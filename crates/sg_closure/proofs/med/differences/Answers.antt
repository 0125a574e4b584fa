use Rattle.std.proofs.Common.{◌≡◌, ℕ, List, length, sym, ap, subst, arith}
use Rattle.sg_apery.specs.Generators.{AreRefused}
use Rattle.sg_defs.proofs.MinimalLemmas.{first-least}
use Rattle.sg_closure.specs.Differences.{AreDifferences}
use Rattle.sg_closure.proofs.DifferenceLemmas.{differences-accepted, differences-small}
use Rattle.sg_closure.proofs.med.differences.Goals as goal

-- the list that is handed on, and the generators that it was made of
moved : (G H D E : List ℕ) → H ≡ G → E ≡ D → AreDifferences H D → AreDifferences G E
moved G H D E e f a = subst (λ x. AreDifferences x E) e (subst (AreDifferences H) (sym f) a)

pub difference_list-requires-clause-not_empty : goal.difference_list-requires-clause-not_empty
difference_list-requires-clause-not_empty c = omega (arith, ap length c.as_slice.ensures, c.requires.semigroup.not_empty)

pub difference_list-requires-clause-least : goal.difference_list-requires-clause-least
difference_list-requires-clause-least c = rw c.as_slice.ensures (first-least c.args.generators.now c.requires.minimal.ascending)

pub returns-in-Ok : goal.returns-in-Ok
returns-in-Ok c = (
  c.deref.result.now,
  moved c.args.generators.now c.as_slice.result.now c.in_ok-list.list.items c.deref.result.now c.as_slice.ensures c.deref.ensures.value c.in_ok-list.ensures,
  c.in-Ok.ensures.generated,
)

pub unreachable-requires : goal.unreachable-requires
unreachable-requires c =
    differences-accepted c.args.generators.now c.deref.result.now c.requires.semigroup
    (moved c.args.generators.now c.as_slice.result.now c.in_ok-list.list.items c.deref.result.now c.as_slice.ensures c.deref.ensures.value c.in_ok-list.ensures)
    c.requires.fit (subst (AreRefused c.deref.result.now) c.in-Err-BadArgument.field-0-is c.in-Err-BadArgument.ensures.refused)

pub unreachable-requires-in-Err-TooLarge : goal.unreachable-requires-in-Err-TooLarge
unreachable-requires-in-Err-TooLarge c =
    differences-small c.args.generators.now c.deref.result.now c.requires.semigroup
    (moved c.args.generators.now c.as_slice.result.now c.in_ok-list.list.items c.deref.result.now c.as_slice.ensures c.deref.ensures.value c.in_ok-list.ensures)
    c.requires.fit (subst (AreRefused c.deref.result.now) c.in-Err-TooLarge.field-0-is c.in-Err-TooLarge.ensures.refused)
