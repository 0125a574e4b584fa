use Rattle.std.proofs.Common.{◌≡◌, ℕ, ◌+◌, ◌↔◌, List, length, get_or, sym, ap, subst, ◌∙◌, arith, ℤ, pos, ◌-ℤ◌, ◌≤ℤ◌, to_z, of_z, w64}
use Rattle.std.specs.Prelude.{nat_abs}
use Rattle.std.proofs.lemmas.Int.{ints}
use Rattle.sg_classes.specs.Classes.{IsAboveEntry}
use Rattle.sg_classes.proofs.LoweredLemmas.{writes-back}
use Rattle.sg_ideal.specs.Value.{IsIn, IsInBoth}
use Rattle.sg_lawful.specs.Generators.{IsSmall}
use Rattle.sg_ideal.specs.Classes.{IsClosedTable, IsFrom}
use Rattle.sg_ideal.proofs.PairLemmas.{common-same, common-table}
use Rattle.sg_ideal.proofs.pairs.common.Goals as goal

-- a distance as it is passed
told : (base l a : ℤ) → IsSmall base → IsSmall l → l ≡ a → a ≤ℤ base → pos (nat_abs (to_z w64 (of_z w64 (to_z w64 (of_z w64 base) -ℤ to_z w64 (of_z w64 l))))) ≡ base -ℤ a
told base l a s t e below = omega (arith, ints, s, t, e, below)

pub overflow_sub-base : goal.overflow_sub-base
overflow_sub-base c =
    let s = c.requires.small in
    let t = c.least.ensures.small in
    omega (arith, ints, s, t)

pub overflow_cast-base : goal.overflow_cast-base
overflow_cast-base c =
    let s = c.requires.small in
    let t = c.least.ensures.small in
    let e = c.least.ensures.first in
    let below = c.requires.first in
    (omega (arith, ints, s, t, e, below), omega (arith, ints, s, t, e, below))

pub returns-clause-table : goal.returns-clause-table
returns-clause-table c =
    let I = c.args.a.now in
    let J = c.args.b.now in
    let t = c.entries.result.now in
    let u = c.entries-2.result.now in
    let first = c.in_ok-entries.entries.items in
    let new = c.narrow.new.entries in
    let base = c.args.base in
    let p = nat_abs (to_z w64 (of_z w64 (to_z w64 (of_z w64 base) -ℤ to_z w64 (of_z w64 c.least.result)))) in
    let q = nat_abs (to_z w64 (of_z w64 (to_z w64 (of_z w64 base) -ℤ to_z w64 (of_z w64 c.least-2.result)))) in
    let pe = told base c.least.result (get_or I.generators 0 (pos 0)) c.requires.small c.least.ensures.small c.least.ensures.first c.requires.first in
    let qe = told base c.least-2.result (get_or J.generators 0 (pos 0)) c.requires.small c.least-2.ensures.small c.least-2.ensures.first c.requires.second in
    let value : c.deref_mut.result.now ≡ first = c.deref_mut.ensures.value in
    let long : length new ≡ length first = c.narrow.ensures.long ∙ ap length value in
    let len : c.in_ok-entries.entries.len ≡ length new = omega arith in
    let written = writes-back new first c.in_ok-entries.entries.len len in
    let same : (n : ℕ) → IsAboveEntry new n ↔ (IsAboveEntry first n × IsAboveEntry u (n + q)) =
    subst (λ l. (n : ℕ) → IsAboveEntry new n ↔ (IsAboveEntry l n × IsAboveEntry u (n + q))) value c.narrow.ensures.same in
    subst (IsClosedTable I.ambient) (sym written)
    (common-table I J t u first new p q base c.entries.ensures c.entries-2.ensures c.requires.paired c.in_ok-entries.ensures long c.narrow.ensures.classes same pe qe c.requires.one)

pub returns-clause-same : goal.returns-clause-same
returns-clause-same c =
    let I = c.args.a.now in
    let J = c.args.b.now in
    let t = c.entries.result.now in
    let u = c.entries-2.result.now in
    let first = c.in_ok-entries.entries.items in
    let new = c.narrow.new.entries in
    let base = c.args.base in
    let p = nat_abs (to_z w64 (of_z w64 (to_z w64 (of_z w64 base) -ℤ to_z w64 (of_z w64 c.least.result)))) in
    let q = nat_abs (to_z w64 (of_z w64 (to_z w64 (of_z w64 base) -ℤ to_z w64 (of_z w64 c.least-2.result)))) in
    let pe = told base c.least.result (get_or I.generators 0 (pos 0)) c.requires.small c.least.ensures.small c.least.ensures.first c.requires.first in
    let qe = told base c.least-2.result (get_or J.generators 0 (pos 0)) c.requires.small c.least-2.ensures.small c.least-2.ensures.first c.requires.second in
    let value : c.deref_mut.result.now ≡ first = c.deref_mut.ensures.value in
    let long : length new ≡ length first = c.narrow.ensures.long ∙ ap length value in
    let len : c.in_ok-entries.entries.len ≡ length new = omega arith in
    let written = writes-back new first c.in_ok-entries.entries.len len in
    let same : (n : ℕ) → IsAboveEntry new n ↔ (IsAboveEntry first n × IsAboveEntry u (n + q)) =
    subst (λ l. (n : ℕ) → IsAboveEntry new n ↔ (IsAboveEntry l n × IsAboveEntry u (n + q))) value c.narrow.ensures.same in
    subst (λ (l : List ℕ). (x : ℤ) → IsInBoth (IsIn I) (IsIn J) x ↔ IsFrom base l x) (sym written)
    (common-same I J t u first new p q base c.entries.ensures c.entries-2.ensures c.requires.paired c.in_ok-entries.ensures long c.narrow.ensures.classes same pe qe c.requires.one)
