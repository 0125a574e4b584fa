use Rattle.std.proofs.Common.{arith}
use Rattle.sg_defs.specs.Invariants.{AreSmallElements}
use Rattle.sg_rows.proofs.Telling.{tells_heavy, tells_naturals_within}
use Rattle.sg_rows_invariants.proofs.Bounds.{elements-small}
use Rattle.sg_rows_invariants.proofs.Counting.{small-count, few-gaps}
use Rattle.sg_rows_invariants.proofs.gap_lists.small_elements_within.Goals as goal

pub overflow_sub-conductor : goal.overflow_sub-conductor
overflow_sub-conductor c = few-gaps c.args.table.now c.conductor.result c.genus.result c.genus.ensures.decided c.conductor.ensures.conductor c.genus.ensures.genus

pub returns-then-is_heavy : goal.returns-then-is_heavy
returns-then-is_heavy c =
    let G = c.args.table.now in
    let s = small-count G c.conductor.result c.genus.result c.genus.ensures.decided c.conductor.ensures.conductor c.genus.ensures.genus in
    let many = c.is_heavy.ensures.0 c.if-is_heavy.true in
    tells_heavy G (AreSmallElements G) s.0 (c.is_wide.ensures.short c.if-is_wide.false) s.1 (omega (arith, many, s.2))

pub returns : goal.returns
returns c =
    let G = c.args.table.now in
    let l = c.in_ok-small_elements.field-0 in
    let short = c.is_wide.ensures.short c.if-is_wide.false in
    tells_naturals_within G (AreSmallElements G) l short (elements-small G l short c.in_ok-small_elements.ensures) c.in_ok-small_elements.ensures
