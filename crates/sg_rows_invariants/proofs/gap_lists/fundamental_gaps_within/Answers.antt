use Rattle.sg_defs.specs.Invariants.{IsFundamentalGap}
use Rattle.sg_defs.specs.Listings.{Lists}
use Rattle.sg_rows.proofs.Telling.{tells_naturals_within}
use Rattle.sg_rows_invariants.proofs.Bounds.{fundamental-small}
use Rattle.sg_rows_invariants.proofs.gap_lists.fundamental_gaps_within.Goals as goal

pub returns : goal.returns
returns c =
    let G = c.args.table.now in
    let l = c.in_ok-fundamental_gaps.field-0 in
    let short = c.is_wide.ensures.short c.if-is_wide.false in
    tells_naturals_within G (Lists (IsFundamentalGap G)) l short (fundamental-small G l short c.in_ok-fundamental_gaps.ensures) c.in_ok-fundamental_gaps.ensures
