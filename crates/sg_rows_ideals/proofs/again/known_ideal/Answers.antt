use Rattle.std.proofs.Common.{refl}
use Rattle.sg_ideal.proofs.FaultLemmas.{only-memory}
use Rattle.sg_rows_ideals.specs.Rows.{over}
use Rattle.sg_rows_ideals.proofs.Regenerating.{again}
use Rattle.sg_rows_ideals.proofs.again.known_ideal.Goals as goal

pub want_of_memory-requires : goal.want_of_memory-requires
want_of_memory-requires c =
    let fit = c.requires in
    only-memory c.args.generators.now fit.small fit.not_empty c.in-Err.fault c.in-Err.ensures.refused

pub returns-in-Ok : goal.returns-in-Ok
returns-in-Ok c = again (over c.args.table.now c.args.generators.now) c.args.table.now c.args.generators.now c.in-Ok.ideal c.requires refl refl c.in-Ok.ensures.made
