use Rattle.std.proofs.Common.{◌≡◌, ℕ, ◌≤◌, ◌^◌, refl, ℤ, pos, neg_ℤ, ◌+ℤ◌, ◌≤ℤ◌, to_z, of_z, w64, arith}
use Rattle.std.proofs.lemmas.Int.{ints}
use Rattle.sg_classes.specs.declared.limits.TheConstants.{APERY_ENTRY_LIMIT}
use Rattle.sg_ideal.specs.Classes.{IsFrom}
use Rattle.sg_ideal.proofs.ClosedLemmas.{rebased-table, rebased-from}
use Rattle.sg_ideal.proofs.FinishLemmas.{finish-made, finish-refused}
use Rattle.sg_ideal.proofs.made.from_classes.Goals as goal

-- the new base as it is passed
passed : (base : ℤ) (least : ℕ) → neg_ℤ (pos (2 ^ 42)) ≤ℤ base → base ≤ℤ pos (2 ^ 42) → least ≤ APERY_ENTRY_LIMIT → to_z w64 (of_z w64 (to_z w64 (of_z w64 base) +ℤ to_z w64 least)) ≡ base +ℤ pos least
passed base least low high small = omega (arith, ints, low, high, small)

pub from_table-requires : goal.from_table-requires
from_table-requires c = record {
  table = rebased-table c.args.ambient.now c.args.entries.now c.in_ok-list.list.items c.least_entry-least.result c.requires.table c.least_entry-least.ensures c.in_ok-list.ensures;
}

pub returns-clause-made : goal.returns-clause-made
returns-clause-made c =
    let G = c.args.ambient.now in
    let t = c.args.entries.now in
    let list = c.in_ok-list.list.items in
    let least = c.least_entry-least.result in
    let base = c.args.base in
    let e = passed base least c.requires.low c.requires.high c.least_entry-least.ensures.small in
    finish-made G G (IsFrom base t) (base +ℤ pos least) (to_z w64 (of_z w64 (to_z w64 (of_z w64 base) +ℤ to_z w64 least))) list list refl e refl
    (rebased-from G t list least c.requires.table c.least_entry-least.ensures c.in_ok-list.ensures base) c.from_table.result c.from_table.ensures.made

pub returns-clause-refused : goal.returns-clause-refused
returns-clause-refused c =
    let G = c.args.ambient.now in
    let t = c.args.entries.now in
    let list = c.in_ok-list.list.items in
    let least = c.least_entry-least.result in
    let base = c.args.base in
    let e = passed base least c.requires.low c.requires.high c.least_entry-least.ensures.small in
    finish-refused G G (IsFrom base t) (base +ℤ pos least) (to_z w64 (of_z w64 (to_z w64 (of_z w64 base) +ℤ to_z w64 least))) list list refl e refl
    (rebased-from G t list least c.requires.table c.least_entry-least.ensures c.in_ok-list.ensures base) c.from_table.result c.from_table.ensures.refused
