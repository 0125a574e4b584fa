use Rattle.std.proofs.Common.{◌≡◌, get_or, arith, ℤ, pos, ◌+ℤ◌, to_z, of_z, w64}
use Rattle.std.proofs.lemmas.Int.{ints}
use Rattle.sg_defs.specs.Ideals.{IsInTranslate}
use Rattle.sg_ideal.specs.Value.{IsIn}
use Rattle.sg_lawful.specs.Generators.{IsSmall}
use Rattle.sg_ideal.specs.Classes.{IsFrom}
use mir.Val.{SFits}
use Rattle.sg_ideal.proofs.ExistLemmas.{large-base}
use Rattle.sg_ideal.proofs.FaultLemmas.{large-same}
use Rattle.sg_ideal.proofs.FinishLemmas.{finish-made, finish-refused}
use Rattle.sg_ideal.proofs.MovedLemmas.{translate-same}
use Rattle.sg_ideal.proofs.RaiseLemmas.{large-from_not}
use Rattle.sg_ideal.proofs.moved.translate.Goals as goal

-- the base as it is passed
passed_base : (x a l b : ℤ) → SFits w64 x → l ≡ a → IsSmall l → SFits w64 (to_z w64 (of_z w64 x) +ℤ to_z w64 (of_z w64 l)) × (b ≡ to_z w64 (of_z w64 x) +ℤ to_z w64 (of_z w64 l)) → to_z w64 (of_z w64 b) ≡ x +ℤ a
passed_base x a l b fits e small h =
    let f = h.0 in
    let g = h.1 in
    omega (arith, ints, e, f, g, small)

pub returns-in_default-clause-refused : goal.returns-in_default-clause-refused
returns-in_default-clause-refused c =
    let J = c.args.a.now in
    let x = c.args.x in
    let t = c.entries-entries.result.now in
    let a = get_or J.generators 0 (pos 0) in
    let first = c.least.ensures.first in
    let not : IsSmall (x +ℤ a) → ⊥ = λ s. c.in_default.ensures (omega (arith, ints, s, first)) in
    large-same J.ambient (IsFrom (x +ℤ a) t) (IsInTranslate x (IsIn J)) (translate-same J t x c.entries-entries.ensures)
    (large-base J.ambient t c.entries-entries.ensures.table (x +ℤ a) (large-from_not (x +ℤ a) not))

pub returns-clause-made : goal.returns-clause-made
returns-clause-made c =
    let J = c.args.a.now in
    let x = c.args.x in
    let t = c.entries-entries.result.now in
    let a = get_or J.generators 0 (pos 0) in
    let base = passed_base x a c.least.result c.in-Some.base c.ranges.x c.least.ensures.first c.least.ensures.small c.in-Some.ensures in
    finish-made J.ambient c.ambient.result.now (IsInTranslate x (IsIn J)) (x +ℤ a) (to_z w64 (of_z w64 c.in-Some.base)) t c.in_ok-from_slice.field-0.items c.ambient.ensures base c.in_ok-from_slice.ensures.items
    (translate-same J t x c.entries-entries.ensures) c.from_table.result c.from_table.ensures.made

pub returns-clause-refused : goal.returns-clause-refused
returns-clause-refused c =
    let J = c.args.a.now in
    let x = c.args.x in
    let t = c.entries-entries.result.now in
    let a = get_or J.generators 0 (pos 0) in
    let base = passed_base x a c.least.result c.in-Some.base c.ranges.x c.least.ensures.first c.least.ensures.small c.in-Some.ensures in
    finish-refused J.ambient c.ambient.result.now (IsInTranslate x (IsIn J)) (x +ℤ a) (to_z w64 (of_z w64 c.in-Some.base)) t c.in_ok-from_slice.field-0.items c.ambient.ensures base c.in_ok-from_slice.ensures.items
    (translate-same J t x c.entries-entries.ensures) c.from_table.result c.from_table.ensures.refused
