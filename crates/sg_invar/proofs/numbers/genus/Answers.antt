use Rattle.std.proofs.Common.{◌≡◌, ◌+◌, ◌/◌, sym, subst, refl, get_or, arith}
use Rattle.sg_invar.proofs.MultiplicityLemmas.{multiplicity-member}
use Rattle.sg_invar.proofs.GenusLemmas.{IsSumOfQuotients, quotients-more, genus-from_quotients, decided-from_quotients}
use Rattle.sg_invar.proofs.numbers.genus.Goals as goal
use Rattle.sg_apery.specs.Limits.{APERY_ENTRY_LIMIT}

pub loop-i-preserved : goal.loop-i-preserved
loop-i-preserved c =
    let table = c.args.table.now in
    let m = get_or table 0 0 in
    let first = c.multiplicity-multiplicity.ensures.first in
    subst (λ n. IsSumOfQuotients table m APERY_ENTRY_LIMIT (c.loop-i.i + 1) (c.loop-i.gaps + c.entry.result / n)) (sym first)
    (quotients-more table m APERY_ENTRY_LIMIT c.loop-i.i c.loop-i.gaps c.entry.result c.loop-i.invariant c.entry.ensures.entry c.entry.ensures.small)

pub returns-clause-genus : goal.returns-clause-genus
returns-clause-genus c =
    let table = c.args.table.now in
    let m = get_or table 0 0 in
    let first = c.multiplicity-multiplicity.ensures.first in
    let all : c.loop-i.i ≡ m = omega arith in
    let h : IsSumOfQuotients table m APERY_ENTRY_LIMIT m c.loop-i.gaps = subst (λ n. IsSumOfQuotients table m APERY_ENTRY_LIMIT n c.loop-i.gaps) all c.loop-i.invariant in
    genus-from_quotients table m APERY_ENTRY_LIMIT c.loop-i.gaps (omega (arith, first, c.multiplicity-multiplicity.ensures.positive))
    (multiplicity-member table m (omega (arith, first, c.multiplicity-multiplicity.ensures.positive)) refl) h

pub returns-clause-decided : goal.returns-clause-decided
returns-clause-decided c =
    let table = c.args.table.now in
    let m = get_or table 0 0 in
    let first = c.multiplicity-multiplicity.ensures.first in
    let all : c.loop-i.i ≡ m = omega arith in
    let h : IsSumOfQuotients table m APERY_ENTRY_LIMIT m c.loop-i.gaps = subst (λ n. IsSumOfQuotients table m APERY_ENTRY_LIMIT n c.loop-i.gaps) all c.loop-i.invariant in
    decided-from_quotients table m APERY_ENTRY_LIMIT c.loop-i.gaps (omega (arith, first, c.multiplicity-multiplicity.ensures.positive))
    (multiplicity-member table m (omega (arith, first, c.multiplicity-multiplicity.ensures.positive)) refl) h
