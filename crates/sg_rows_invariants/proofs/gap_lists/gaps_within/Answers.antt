use Rattle.std.proofs.Common.{arith}
use Rattle.sg_defs.specs.Invariants.{IsGap}
use Rattle.sg_defs.specs.Listings.{Lists}
use Rattle.sg_rows.proofs.Telling.{tells_heavy, tells_naturals_within}
use Rattle.sg_rows_invariants.proofs.Bounds.{gaps-small}
use Rattle.sg_rows_invariants.proofs.gap_lists.gaps_within.Goals as goal

pub returns-then-is_heavy : goal.returns-then-is_heavy
returns-then-is_heavy c =
    let G = c.args.table.now in
    let genus = c.genus.ensures.genus in
    let many = c.is_heavy.ensures.0 c.if-is_heavy.true in
    tells_heavy G (Lists (IsGap G)) genus.0 (c.is_wide.ensures.short c.if-is_wide.false) genus.1 (omega (arith, many, genus.2))

pub returns : goal.returns
returns c =
    let G = c.args.table.now in
    let l = c.in_ok-gaps.field-0 in
    let short = c.is_wide.ensures.short c.if-is_wide.false in
    tells_naturals_within G (Lists (IsGap G)) l short (gaps-small G l short c.in_ok-gaps.ensures) c.in_ok-gaps.ensures
