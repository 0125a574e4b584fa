use Rattle.std.proofs.Common.{◌≡◌, ◌∙◌, get_or, refl, ap, subst, ℤ, pos, to_z, of_z, w64, arith}
use Rattle.std.proofs.lemmas.Int.{ints}
use Rattle.sg_defs.specs.Ideals.{IsInMultiple}
use Rattle.sg_ideal.specs.Value.{IsIn, times}
use Rattle.sg_lawful.specs.Generators.{IsLarge, IsSmall}
use Rattle.sg_ideal.proofs.MultipleLemmas.{multiple-large}
use Rattle.sg_ideal.proofs.FinishLemmas.{finish-made, finish-refused, multiple-refused}
use Rattle.sg_ideal.proofs.fold.multiple.Goals as goal

-- the least member as it is passed
passed_least : (l a : ℤ) → IsSmall l → l ≡ a → to_z w64 (of_z w64 l) ≡ a
passed_least l a small e = omega (arith, ints, small, e)

pub returns-in_default-clause-refused : goal.returns-in_default-clause-refused
returns-in_default-clause-refused c =
    let J = c.args.a.now in
    let k = c.args.k in
    let b = get_or J.generators 0 (pos 0) in
    let back = passed_least c.least.result b c.least.ensures.small c.least.ensures.first in
    let none = c.if-k-eq0.false in
    let kept = c.least.ensures.kept in
    ((λ z. omega (arith, z, none)), multiple-large J kept.0 kept.1 k (omega (arith, none)) (subst (λ l. IsLarge (times k l)) back c.in_default.ensures))

pub returns-clause-made : goal.returns-clause-made
returns-clause-made c =
    let J = c.args.a.now in
    let k = c.args.k in
    let list = c.in_ok-entries.entries.items in
    let b = get_or J.generators 0 (pos 0) in
    let back = passed_least c.least.result b c.least.ensures.small c.least.ensures.first in
    let base : to_z w64 (of_z w64 c.in-Some.base) ≡ times k b = passed_least c.in-Some.base (times k b) c.in-Some.ensures.1 (c.in-Some.ensures.0 ∙ ap (times k) back) in
    finish-made J.ambient c.ambient.result.now (IsInMultiple k (IsIn J)) (times k b) (to_z w64 (of_z w64 c.in-Some.base)) list list c.ambient.ensures base refl
    c.in_ok-entries.ensures.same c.from_table.result c.from_table.ensures.made

pub returns-clause-refused : goal.returns-clause-refused
returns-clause-refused c =
    let J = c.args.a.now in
    let k = c.args.k in
    let list = c.in_ok-entries.entries.items in
    let b = get_or J.generators 0 (pos 0) in
    let back = passed_least c.least.result b c.least.ensures.small c.least.ensures.first in
    let base : to_z w64 (of_z w64 c.in-Some.base) ≡ times k b = passed_least c.in-Some.base (times k b) c.in-Some.ensures.1 (c.in-Some.ensures.0 ∙ ap (times k) back) in
    let none = c.if-k-eq0.false in
    multiple-refused k J.ambient (IsInMultiple k (IsIn J)) c.from_table.result (λ z. omega (arith, z, none))
    (finish-refused J.ambient c.ambient.result.now (IsInMultiple k (IsIn J)) (times k b) (to_z w64 (of_z w64 c.in-Some.base)) list list c.ambient.ensures base refl
    c.in_ok-entries.ensures.same c.from_table.result c.from_table.ensures.refused)
